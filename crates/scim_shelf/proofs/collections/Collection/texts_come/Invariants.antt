use Rattle.std.proofs.Common.{◌≡◌, List, take, ◌&&◌, not}
use Rattle.std.specs.Prelude.{find}
use Rattle.std.specs.List.{list_any}
use Rattle.scim_schema.specs.Units.{is_same_leaf}
use Rattle.scim_cell.specs.Content.{Content}
use Rattle.scim_value.specs.declared.uniqueness.UniqueName.{UniqueName}
use Rattle.scim_shelf.specs.Collections.{IsCollection}
use Rattle.scim_shelf.specs.Indexed.{has_id}
use Rattle.scim_shelf.specs.Owners.{is_among}
use Rattle.scim_shelf.specs.IndexedTexts.{is_under, is_under_in}
use Rattle.scim_shelf.proofs.collections.Collection.texts_come.Given as goal

-- those at the leaves so far
abbrev pub invariant-loop-leaf : goal.invariant-loop-leaf
invariant-loop-leaf l = (cs : List Content) → IsCollection cs l.self → (q : UniqueName) → is_among q l.come.items
    ≡ (list_any (λ m. is_same_leaf m q.leaf) (take l.leaf-index l.leaf-items) && (is_under q l.new && not (is_under_in q (find (has_id l.new.id) cs))))
