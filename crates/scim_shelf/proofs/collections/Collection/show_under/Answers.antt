use Rattle.std.proofs.Common.{subst, List}
use Rattle.std.specs.List.{FoldsTo}
use Rattle.std.proofs.lemmas.Result.{on_ok_weaker}
use Rattle.scim_cell.specs.Content.{Content}
use Rattle.scim_shelf.proofs.UnderLemmas.{those_under}
use Rattle.scim_shelf.proofs.collections.Collection.show_under.Goals as goal

pub returns : goal.returns
returns g c =
    on_ok_weaker c.show_several.result
    (λ shown cs is.
    subst (λ (ds : List Content). FoldsTo g.V.Visitor.takes c.args.visitor.now ds c.show_several.new.visitor)
    (those_under c.args.kind c.args.texts.now cs c.in_ok-ids.ids is.keyed_apart (c.in_ok-ids.ensures cs is)) (shown cs is))
    c.show_several.ensures
