-- The JSON of a row is read back as it was written.
use Rattle.std.proofs.Common.{◌≡◌, ℕ, ◌+◌, ◌<◌, ◌≤◌, ◌^◌, List, [], ◌++◌, append_assoc, refl, sym, ap, ◌∙◌, arith, append-nil, Option, None, Some, option_map, option_and_then}
use Rattle.std.specs.Prelude.{IfSome}
use Rattle.json.specs.Token.{Token}
use Rattle.json.specs.Written.{Written}
use Rattle.json.specs.Json as json
use Rattle.json.specs.Lex.{tokens}
use Rattle.json.specs.Tree as tree
use Rattle.json.proofs.Printed.Trees.{value-json_tokens}
use Rattle.serde_json.specs.Data.{number}
use Rattle.serde_json.specs.Read.{of_json, read, max_depth}
use Rattle.serde_json.specs.Written.{outline}
use Rattle.serde_json.proofs.Numbers.{number_of-decimal}
use Rattle.serde_json.proofs.Texts.{print-outline}
use Rattle.scim_cell.specs.Ids.{id_text}
use Rattle.scim_audit.specs.declared.audit_rows.AuditRow.{AuditRow}
use Rattle.scim_audit.specs.Rows.{leaf_path, refusal_mark}
use Rattle.scim_json.specs.Tokens.{Adds, value_tokens}
use Rattle.scim_audit_listing.specs.JsonRows.{text_data, number_data, row_data}

-- the text of tokens
pub ruleset texts = (print-outline)

reads_text : (text : Option (List ℕ)) → of_json (outline (text_data text)) ≡ Some (text_data text)
reads_text None = refl
reads_text (Some text) = refl

reads_number : (n : Option ℕ) → IfSome n (λ n. n < 2 ^ 64) → of_json (outline (number_data n)) ≡ Some (number_data n)
reads_number None h = refl
reads_number (Some n) h = ap (option_map number) (number_of-decimal n h)

flat_text : (text : Option (List ℕ)) → tree.depth (outline (text_data text)) ≡ 0
flat_text None = refl
flat_text (Some text) = refl

flat_number : (n : Option ℕ) → tree.depth (outline (number_data n)) ≡ 0
flat_number None = refl
flat_number (Some n) = refl

wide : (rule : Option ℕ) → IfSome rule (λ n. n < 2 ^ 32) → IfSome rule (λ n. n < 2 ^ 64)
wide None h = tt
wide (Some n) h = omega (arith, h)

reads_row : (n : ℕ) (row : AuditRow) → n < 2 ^ 64 → IfSome row.rule (λ n. n < 2 ^ 32) → of_json (outline (row_data n row)) ≡ Some (row_data n row)
unfolding row_data
reads_row n row h rule =
    rw (reads_text (option_map id_text row.id), reads_text (option_map leaf_path row.leaf), reads_number (Some n) h, reads_text (option_map refusal_mark row.refusal), reads_number row.rule (wide row.rule rule)) refl

flat_row : (n : ℕ) (row : AuditRow) → tree.depth (outline (row_data n row)) ≤ max_depth
unfolding row_data
flat_row n row =
    let id = flat_text (option_map id_text row.id) in
    let leaf = flat_text (option_map leaf_path row.leaf) in
    let refusal = flat_text (option_map refusal_mark row.refusal) in
    let rule = flat_number row.rule in
    omega (arith, id, leaf, refusal, rule)

-- a text with the tokens of a row's JSON is read as that JSON
pub read_row : (n : ℕ) (row : AuditRow) (s : List ℕ) → n < 2 ^ 64 → IfSome row.rule (λ n. n < 2 ^ 32) → tokens s ≡ value_tokens (row_data n row) → read s ≡ Some (row_data n row)
read_row n row s h rule same =
    ap (λ o. option_and_then of_json (option_and_then (λ p. json.if_last p.0 p.1) o))
    (ap (json.value max_depth) (same ∙ sym (append-nil _)) ∙ value-json_tokens (outline (row_data n row)) max_depth [] (omega (arith, flat_row n row)))
    ∙ reads_row n row h rule

-- tokens that are added one after another
pub added : (a b c : Written) (xs ys : List Token) → Adds a b xs → Adds b c ys → Adds a c (xs ++ ys)
added a b c xs ys first then_ = (then_.0 ∙ first.0, then_.1 ∙ ap (λ (ts : List Token). ts ++ ys) first.1 ∙ append_assoc a.tokens xs ys)
