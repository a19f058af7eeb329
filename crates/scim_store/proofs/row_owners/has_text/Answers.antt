use Rattle.std.proofs.Common.{sym, ◌∙◌, ap}
use Rattle.std.proofs.lemmas.Map.Text.{is_eq-slice_cmp}
use Rattle.std.specs.Str.{bytes_eq}
use Rattle.scim_store_tables.specs.Lists.{is_text}
use Rattle.scim_store.proofs.row_owners.has_text.Goals as goal

pub returns-in-Text : goal.returns-in-Text
returns-in-Text c =
    let bytes = c.in-Text.bytes.now in
    let text = c.args.text.now in
    c.eq.ensures ∙ ap (bytes_eq bytes) c.as_bytes.ensures.value ∙ sym (is_eq-slice_cmp bytes text) ∙ ap (is_text text) c.in-Text.ensures
