use Rattle.std.proofs.Common.{◌≡◌, take}
use Rattle.std.specs.List.{list_any}
use Rattle.scim_schema.specs.declared.Leaf.{Leaf}
use Rattle.scim_view.specs.Names.{includes, names_leaf}
use Rattle.scim_view.proofs.attribute_lists.Names.of.Given as goal

-- the texts so far name what is covered
abbrev pub invariant-loop-text : goal.invariant-loop-text
invariant-loop-text l = (leaf : Leaf) → includes l.names leaf ≡ list_any (λ t. names_leaf l.kind t.now leaf) (take l.text-index l.texts)
