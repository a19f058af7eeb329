use Rattle.std.proofs.Common.{◌≡◌, ◌≢◌, true, false, sym, ◌∙◌}
use Rattle.sqlite.specs.declared.types.Value.TheVariants.{Null}
use Rattle.sqlite.specs.Order.{column}
use Rattle.scim_store_rows.proofs.BackLemmas.{no_leaf_text}
use Rattle.scim_store_rows.proofs.audit_fields.leaf_in.Goals as goal

pub returns-in_err-text_in : goal.returns-in_err-text_in
returns-in_err-text_in c =
    let full : column c.args.row.now c.args.place ≢ Null = λ null. (let shut : true ≡ false = sym (c.is_null.ensures.1 null) ∙ c.if-is_null.false in cc) in
    rw (c.from_residual.ensures) (no_leaf_text (column c.args.row.now c.args.place) full c.in_err-text_in.ensures)
