use Rattle.std.proofs.Common.{rules, ◌≡◌, Bor, String, List, ℕ, Option, pos, option_map, string_bytes, sym, ap, ◌∙◌}
use Rattle.std.specs.declared.alloc.Global.{Global}
use Rattle.sqlite.specs.declared.types.Value.TheVariants.{Int, Text}
use Rattle.sqlite.specs.Order.{Row, column}
use Rattle.scim_json.specs.Kept.{IsKept}
use Rattle.scim_store_rows.specs.Audit.{kind_number}
use Rattle.scim_store_rows.specs.code.Finding.{code_at}
use Rattle.scim_store_rows.proofs.CodeLemmas.{shown_copied}
use Rattle.scim_store_rows.proofs.WalkLemmas.{row_read}
use Rattle.scim_store_rows.proofs.walks.read_row.Goals as goal

pub returns : goal.returns
returns c e coded row =
    let is : c.in_ok-number.number ≡ kind_number c.args.kind = search rules in
    let first : column c.args.row.now 1 ≡ Int (pos c.in_ok-number.number) = search rules in
    let zeroth : column c.args.row.now 0 ≡ Text (string_bytes c.in_ok-id.id) = search rules in
    let second : column c.args.row.now 2 ≡ Text (string_bytes c.in_ok-document.document) = search rules in
    let code : Option (List ℕ) = option_map (λ (s : Bor (String Global)). string_bytes s.now) c.get-4.result in
    let known : code ≡ code_at c.args.codes.now (string_bytes c.in_ok-id.id) = shown_copied c.get-4.result ∙ ap (option_map string_bytes) (rw c.as_str.ensures.value at c.get-4.ensures.value) in
    let kept : IsKept c.args.base.now (string_bytes c.in_ok-document.document) code c.in_ok-resource.resource = rw (c.as_str-2.ensures.value, c.text_of-code.ensures) at c.in_ok-resource.ensures in
    row_read c.args.base.now c.args.kind c.args.codes.now e c.in_ok-number.number (string_bytes c.in_ok-id.id) (string_bytes c.in_ok-document.document) code c.in_ok-resource.resource coded is
    (sym (ap (λ (r : Row). column r 0) row) ∙ zeroth) (sym (ap (λ (r : Row). column r 1) row) ∙ first) (sym (ap (λ (r : Row). column r 2) row) ∙ second) known kept
