use Rattle.std.proofs.Common.{◌≡◌, ◌≢◌, true, false, rules, sym, ◌∙◌}
use Rattle.sqlite.specs.declared.types.Value.TheVariants.{Null, Text}
use Rattle.sqlite.specs.Order.{column}
use Rattle.scim_store_rows.proofs.BackLemmas.{no_id, no_id_text}
use Rattle.scim_store_rows.proofs.audit_fields.id_in.Goals as goal

pub returns-in_err-text_in : goal.returns-in_err-text_in
returns-in_err-text_in c =
    let full : column c.args.row.now c.args.place ≢ Null = λ null. (let shut : true ≡ false = sym (c.is_null.ensures.1 null) ∙ c.if-is_null.false in cc) in
    rw (c.from_residual.ensures) (no_id_text (column c.args.row.now c.args.place) full c.in_err-text_in.ensures)

pub returns-in_err-id : goal.returns-in_err-id
returns-in_err-id c =
    let full : column c.args.row.now c.args.place ≢ Null = λ null. (let shut : true ≡ false = sym (c.is_null.ensures.1 null) ∙ c.if-is_null.false in cc) in
    let text : Text c.in_ok-text_in.field-0.now ≡ column c.args.row.now c.args.place = search rules in
    rw (c.from_residual-in_err-id.ensures) (no_id (column c.args.row.now c.args.place) c.in_ok-text_in.field-0.now full text (λ form. (let found : false ≡ true = c.in_err-id.ensures.form.1 form in cc)))
