-- A client's operation on a resource: what the policy decides at each leaf, and what else the server asks for.
use Rattle.std.specs.Prelude.{ℕ, Bool, not, ◌&&◌, List, Option, None, Some, find, is_none, option_map, if◌then◌else◌}
use Rattle.std.specs.Option.{option_or}
use Rattle.scim_schema.specs.declared.Attribute.TheVariants.{Id}
use Rattle.scim_schema.specs.declared.Kind.{Kind}
use Rattle.scim_schema.specs.declared.Op.{Op}
use Rattle.scim_schema.specs.declared.Op.TheVariants.{Read, Create, Modify, Delete}
use Rattle.scim_schema.specs.declared.Leaf.{Leaf}
use Rattle.scim_schema.specs.declared.Unit.{Unit as AttributeUnit}
use Rattle.scim_schema.specs.Mutability.{is_fixed, is_write_only}
use Rattle.scim_schema.specs.Table.{leaves}
use Rattle.scim_schema.specs.Units.{simple, is_same_leaf, is_same_unit, unit_of}
use Rattle.scim_cell.specs.Content.{Content}
use Rattle.scim_policy.specs.declared.rules.Decision.{Decision}
use Rattle.scim_policy.specs.Rules.{Rule}
use Rattle.scim_policy.specs.Decide.{decide}
use Rattle.scim_policy.specs.Access.{Access, access, forbidding}
use Rattle.scim_explain.specs.declared.inquiries.Obstacle.{Obstacle}
use Rattle.scim_explain.specs.declared.inquiries.Obstacle.TheVariants.{Denied, ReadOnly, WriteOnly}

-- a client's operation on a resource of a kind: the decision on the operation at each leaf, and the client's rights
-- on the resource
pub record Inquiry : Type 0 where
  pub op : Op
  pub kind : Kind
  pub on : Leaf → Decision
  pub access : Access

-- a client's operation on a resource, as a policy decides on it
abbrev pub inquiry : List Rule → List ℕ → Op → Content → Inquiry
inquiry policy client op c = record {
  op = op;
  kind = c.kind;
  on = decide policy client op c;
  access = access policy client c;
}

-- ---- what is in the way of an operation

-- the denial of an operation at a leaf; None if the decision allows
abbrev pub denial : Op → Leaf → Decision → Option Obstacle
denial op l d = if d.allow then None else Some (Denied op l d)

-- why the client doesn't see the resource: it may not read `id`
abbrev pub hiding : Inquiry → Option Obstacle
hiding i = denial Read (simple Id) (i.access.read (simple Id))

-- why a client that sees the resource isn't shown a leaf: the leaf is writeOnly
abbrev pub read_obstacle : Inquiry → Leaf → Option Obstacle
read_obstacle i l = if is_write_only i.kind l then Some WriteOnly else None

-- the denial of modifying a leaf or, where modifying is allowed, of reading it
abbrev pub modify_denial : Inquiry → Leaf × Decision → Obstacle
modify_denial i d = Denied (if (i.on d.0).allow then Read else Modify) d.0 d.1

-- why a client that sees the resource may not modify the unit of a leaf: the unit is readOnly, or the policy forbids
-- to write it
abbrev pub modify_obstacle : Inquiry → Leaf → Option Obstacle
modify_obstacle i l = if is_fixed i.kind (unit_of l) then Some ReadOnly else option_map (modify_denial i) (forbidding i.kind i.access (unit_of l))

-- the first of these leaves that is of a unit and where the operation is denied
abbrev pub first_denied : Inquiry → AttributeUnit → List Leaf → Option Leaf
first_denied i u ls = find (λ m. is_same_unit (unit_of m) u && not (i.on m).allow) ls

-- the denial of creating at the first leaf of a leaf's unit where it is denied
unfoldable pub unit_obstacle : Inquiry → Leaf → Option Obstacle
unit_obstacle i l = option_map (λ m. Denied Create m (i.on m)) (first_denied i (unit_of l) (leaves i.kind))

-- why no resource is created by a body that gives the unit of a leaf: the unit is readOnly, so that bodies don't give
-- it, or the policy denies creating at `id` or at a leaf of the unit; creating at `id` rests on nothing else
unfoldable pub create_obstacle : Inquiry → Leaf → Option Obstacle
create_obstacle i l =
    if is_same_leaf l (simple Id)
    then None
    else (if is_fixed i.kind (unit_of l) then Some ReadOnly else option_or (denial Create (simple Id) (i.on (simple Id))) (unit_obstacle i l))

-- why a client that sees the resource may not delete it: the policy denies deleting at `id`
abbrev pub delete_obstacle : Inquiry → Option Obstacle
delete_obstacle i = denial Delete (simple Id) (i.on (simple Id))

-- what is in the way of an operation at a leaf, beside the decision on the operation there; None if nothing is
abbrev pub obstacle_to : Op → Inquiry → Leaf → Option Obstacle
obstacle_to Read i l = option_or (hiding i) (read_obstacle i l)
obstacle_to Create i l = create_obstacle i l
obstacle_to Modify i l = option_or (hiding i) (modify_obstacle i l)
obstacle_to Delete i l = option_or (hiding i) (delete_obstacle i)

abbrev pub obstacle : Inquiry → Leaf → Option Obstacle
obstacle i l = obstacle_to i.op i l

-- whether the server does the operation at the leaf: the policy allows, and nothing else is in the way
abbrev pub is_granted : Inquiry → Leaf → Bool
is_granted i l = (i.on l).allow && is_none (obstacle i l)
