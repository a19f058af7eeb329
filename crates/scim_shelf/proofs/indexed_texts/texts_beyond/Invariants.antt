use Rattle.std.proofs.Common.{◌≡◌, take, ◌&&◌, not}
use Rattle.std.specs.List.{list_any}
use Rattle.scim_schema.specs.Units.{is_same_leaf}
use Rattle.scim_value.specs.declared.uniqueness.UniqueName.{UniqueName}
use Rattle.scim_shelf.specs.Owners.{is_among}
use Rattle.scim_shelf.specs.IndexedTexts.{is_under}
use Rattle.scim_shelf.proofs.indexed_texts.texts_beyond.Given as goal

-- those at the leaves so far
abbrev pub invariant-loop-leaf : goal.invariant-loop-leaf
invariant-loop-leaf l = (q : UniqueName) → is_among q l.gone.items
    ≡ (list_any (λ m. is_same_leaf m q.leaf) (take l.leaf-index l.leaf-items) && (is_under q l.old && not (is_under q l.new)))
