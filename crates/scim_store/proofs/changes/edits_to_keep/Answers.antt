use Rattle.std.proofs.Common.{◌≡◌, ◌∙◌, rules, ap, subst, Some, List, ℕ, string_bytes, option_map}
use Rattle.std.specs.Prelude.{Option}
use Rattle.scim_json.specs.Kept.{IsKept}
use Rattle.scim_store.specs.declared.edits.Edits.{Edits}
use Rattle.scim_store_tables.proofs.Facts.{if_both}
use Rattle.scim_store.proofs.changes.edits_to_keep.Goals as goal

pub returns : goal.returns
returns c =
    let r = c.args.resource.now in
    let document = c.in_ok-document.document in
    let kind : c.kind.result ≡ r.kind = search rules in
    let code = c.in_ok-document.ensures.code in
    let written = if_both c.replacement.result _ _ (λ (e : Edits). (e.kind ≡ c.kind.result) × (e.document ≡ Some document)) (λ e of_kind is. (of_kind, is)) c.replacement.ensures.kind c.replacement.ensures.document in
    if_both c.replacement.result _ _ _ (λ e both replaces base below.
    rw (c.id.ensures, c.part-part.ensures.value) at
    (replaces base code (both.0 ∙ kind, string_bytes document, ap (option_map string_bytes) both.1, subst (λ (o : Option (List ℕ)). IsKept base (string_bytes document) o r) code (c.in_ok-document.ensures.kept base below)))) written c.replacement.ensures.replaces
