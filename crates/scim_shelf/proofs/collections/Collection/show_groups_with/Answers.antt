use Rattle.std.proofs.Common.{subst, List}
use Rattle.std.specs.List.{FoldsTo}
use Rattle.std.proofs.lemmas.Result.{on_ok_weaker}
use Rattle.scim_cell.specs.Content.{Content}
use Rattle.scim_shelf.proofs.UnderLemmas.{groups_under}
use Rattle.scim_shelf.proofs.collections.Collection.show_groups_with.Goals as goal

pub returns : goal.returns
returns g c =
    on_ok_weaker c.show_indexed.result
    (λ shown cs is.
    subst (λ (ds : List Content). FoldsTo g.V.Visitor.takes c.args.visitor.now ds c.show_indexed.new.visitor)
    (groups_under c.args.value.now cs) (rw (c.of-leaf.ensures) at (shown cs is)))
    c.show_indexed.ensures
