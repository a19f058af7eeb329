-- A client's rights on an existing resource, and the rights that a change would add.
use Rattle.std.specs.Prelude.{ℕ, not, ◌&&◌, List, [], ◌∷◌, ◌++◌, map, filter, find, Option, if◌then◌else◌}
use Rattle.std.specs.List.{flat_map}
use Rattle.scim_schema.specs.declared.Kind.{Kind}
use Rattle.scim_schema.specs.declared.Op.{Op}
use Rattle.scim_schema.specs.declared.Op.TheVariants.{Read, Modify, Delete}
use Rattle.scim_schema.specs.declared.Leaf.{Leaf}
use Rattle.scim_schema.specs.declared.Unit.{Unit as AttributeUnit}
use Rattle.scim_schema.specs.Mutability.{is_write_only}
use Rattle.scim_schema.specs.Table.{leaves}
use Rattle.scim_schema.specs.Units.{unit_of, is_same_unit}
use Rattle.scim_cell.specs.Content.{Content}
use Rattle.scim_policy.specs.declared.rules.Decision.{Decision}
use Rattle.scim_policy.specs.Rules.{Rule}
use Rattle.scim_policy.specs.Decide.{decide}
use Rattle.scim_policy.specs.Opened.{first, opened_for_reading}
use Rattle.scim_policy.specs.Patterns.{pattern}

-- the decisions on reading, modifying and deleting a resource, and its patterns for reading, for each leaf
pub record Access : Type 0 where
  pub read : Leaf → Decision
  pub patterns : Leaf → List Decision
  pub modify : Leaf → Decision
  pub delete : Leaf → Decision

-- the rights that a policy gives a client on a resource
abbrev pub access : List Rule → List ℕ → Content → Access
access policy client c = record {
  read = decide policy client Read c;
  patterns = pattern policy client c;
  modify = decide policy client Modify c;
  delete = decide policy client Delete c;
}

-- ---- which units may be written

-- the decisions that must all allow before a leaf may be written: on modifying the leaf and, unless the leaf
-- is writeOnly, on reading it
abbrev pub needed : Kind → Access → Leaf → List (Leaf × Decision)
needed kind a l = (l, a.modify l) ∷ (if is_write_only kind l then [] else (l, a.read l) ∷ [])

-- the leaves of a unit, in order
abbrev pub leaves_of : Kind → AttributeUnit → List Leaf
leaves_of kind u = filter (λ l. is_same_unit (unit_of l) u) (leaves kind)

-- the first leaf of a unit that may not be written, with the decision that denies it; None if the unit may
-- be written
unfoldable pub forbidding : Kind → Access → AttributeUnit → Option (Leaf × Decision)
forbidding kind a u = find (λ (d : Leaf × Decision). not d.1.allow) (flat_map (needed kind a) (leaves_of kind u))

-- ---- which rights a change would add

-- the leaves on which an operation is denied before a change and allowed afterwards, in order; each with the
-- operation and the decision after the change
abbrev pub opened : Kind → Op → (Leaf → Decision) → (Leaf → Decision) → List (Op × Leaf × Decision)
opened kind op before after = map (λ l. (op, l, after l)) (filter (λ l. (after l).allow && not (before l).allow) (leaves kind))

-- all rights that a change of a resource would add, first on reading, then on modifying, then on deleting
abbrev pub widenings : Kind → Access → Access → List (Op × Leaf × Decision)
widenings kind before after =
    opened_for_reading kind before.patterns after.patterns ++ (opened kind Modify before.modify after.modify ++ opened kind Delete before.delete after.delete)

-- the first right that a change would add; None if the change adds no right
unfoldable pub widening : Kind → Access → Access → Option (Op × Leaf × Decision)
widening kind before after = first (widenings kind before after)
