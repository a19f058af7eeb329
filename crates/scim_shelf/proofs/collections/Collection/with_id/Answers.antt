use Rattle.std.proofs.Common.{◌∙◌, ap, List, ℕ}
use Rattle.std.specs.Map.{lookup}
use Rattle.std.specs.BTreeMap.{is_at}
use Rattle.std.specs.Ordering.{nat_cmp}
use Rattle.std.specs.Cmp.Lexicographic.{slice_cmp}
use Rattle.scim_cell.specs.Content.{Content}
use Rattle.scim_shelf.proofs.CollectionLemmas.{lookup_keyed}
use Rattle.scim_shelf.proofs.collections.Collection.with_id.Goals as goal

pub returns : goal.returns
returns c = λ cs h.
    c.get.ensures.value ∙ ap (λ (es : List (List ℕ × Content)). lookup (is_at (slice_cmp nat_cmp c.args.id)) es) h.resources ∙ lookup_keyed c.args.id cs
