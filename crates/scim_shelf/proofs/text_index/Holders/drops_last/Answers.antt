use Rattle.std.proofs.Common.{◌∙◌, sym}
use Rattle.std.proofs.lemmas.Map.Text.{is_eq-slice_cmp}
use Rattle.scim_shelf.proofs.NoteLemmas.{other_stays}
use Rattle.scim_shelf.proofs.text_index.Holders.drops_last.Goals as goal

pub returns-in-One-clause-left : goal.returns-in-One-clause-left
returns-in-One-clause-left c = λ differs i. rw c.in-One.is (other_stays c.args.id c.in-One.other i (is_eq-slice_cmp c.in-One.other c.args.id ∙ sym c.eq.ensures ∙ differs))
