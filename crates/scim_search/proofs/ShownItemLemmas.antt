-- The item that a visitor makes for a resource that it is lent.
use Rattle.std.proofs.Common.{◌≡◌, refl, true, subst}
use Rattle.std.specs.Prelude.{Option, None, Some, List}
use Rattle.std.specs.List.{FoldsTo}
use Rattle.std.proofs.lemmas.Option.{same_Some}
use Rattle.scim_cell.specs.Content.{Content}
use Rattle.scim_view.specs.declared.projection.Wanted.{Wanted}
use Rattle.scim_view.specs.View.{Viewer, sees}
use Rattle.scim_shelf.specs.Stores.{those_found}
use Rattle.scim_search.specs.declared.shown_items.ItemVisitor.{ItemVisitor}
use Rattle.scim_search.specs.ShownItems.{TakesItem, item, item_if_seen}

-- a visitor that is lent what a look-up found takes that resource
pub took_item : (old new : ItemVisitor) (found : Option Content) (c : Content) → FoldsTo TakesItem old (those_found found) new → found ≡ Some c
    → TakesItem old c new
took_item old new None c folds is = cc
took_item old new (Some d) c folds is = subst (λ (e : Content). TakesItem old e new) (same_Some d c is) (subst (λ (v : ItemVisitor). TakesItem old d v) folds.2 folds.1)

-- a resource that the viewer sees has an item
pub seen_item : (v : Viewer) (wanted : Wanted) (groups : List Content) (c : Content) → sees v c ≡ true → item_if_seen v wanted groups c ≡ Some (item v wanted groups c)
seen_item v wanted groups c seen = rw seen refl
