use Rattle.std.proofs.Common.{◌∙◌, ap, sym}
use Rattle.std.proofs.lemmas.Map.Text.{is_eq-slice_cmp}
use Rattle.scim_shelf.specs.TextIndex.{is_holder}
use Rattle.scim_shelf.proofs.text_index.Holders.has.Goals as goal

pub returns-in-One : goal.returns-in-One
returns-in-One c = c.eq.ensures ∙ sym (is_eq-slice_cmp c.in-One.other c.args.id) ∙ ap (is_holder c.args.id) (sym c.in-One.is)
