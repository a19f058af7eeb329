use Rattle.std.proofs.Common.{rules, ◌≡◌, ◌∙◌, subst, false, List}
use Rattle.std.specs.List.{FoldsTo}
use Rattle.std.proofs.lemmas.Result.{on_ok_weaker}
use Rattle.scim_cell.specs.Content.{Content}
use Rattle.scim_cell.specs.Kinds.{of_kind}
use Rattle.scim_shelf.specs.Stores.{with_some_text}
use Rattle.scim_shelf.specs.IndexedTexts.{has_unindexed}
use Rattle.scim_shelf.proofs.PassLemmas.{passed}
use Rattle.scim_shelf.proofs.UnderLemmas.{indexed_with}
use Rattle.scim_shelf.proofs.collections.Collection.show_of.Goals as goal

pub returns-then-has_unindexed : goal.returns-then-has_unindexed
returns-then-has_unindexed g c =
    let filter = c.new-filter.ensures in
    on_ok_weaker c.show.result
    (λ folds cs is.
    let all = passed g.V.Visitor.takes c.new-filter.result (of_kind c.args.kind cs) c.show.new.visitor (folds cs is) in
    let name = all.0 ∙ filter.same_reference in
    let same : c.show.new.visitor.visitor.now ≡ c.visitor-1.given.0 = search (rules, name) in
    subst (λ v. FoldsTo g.V.Visitor.takes c.args.visitor.now (with_some_text c.args.kind c.args.texts.now cs) v) same
    (rw (filter.visitor, filter.texts) at all.1))
    c.show.ensures

pub returns : goal.returns
returns g c =
    let none : has_unindexed c.args.kind c.args.texts.now ≡ false = search rules in
    on_ok_weaker c.show_under.result
    (λ shown cs is.
    subst (λ (ds : List Content). FoldsTo g.V.Visitor.takes c.args.visitor.now ds c.show_under.new.visitor)
    (indexed_with c.args.kind c.args.texts.now cs none) (shown cs is))
    c.show_under.ensures
