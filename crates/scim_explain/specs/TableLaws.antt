-- Laws of tables: at which leaves an operation is granted. There the line of the leaf ends in `allow`.
use Rattle.std.specs.Prelude.{◌≡◌, ℕ, Bool, true, false, not, ◌&&◌, List, is_none}
use Rattle.std.specs.List.{list_all, list_any}
use Rattle.scim_schema.specs.declared.Attribute.TheVariants.{Id}
use Rattle.scim_schema.specs.declared.Kind.{Kind}
use Rattle.scim_schema.specs.declared.Op.TheVariants.{Read, Create, Modify, Delete}
use Rattle.scim_schema.specs.declared.Leaf.{Leaf}
use Rattle.scim_schema.specs.Mutability.{is_fixed, is_write_only}
use Rattle.scim_schema.specs.Table.{leaves}
use Rattle.scim_schema.specs.Units.{simple, is_same_leaf, unit_of}
use Rattle.scim_cell.specs.Content.{Content}
use Rattle.scim_policy.specs.Rules.{Rule}
use Rattle.scim_policy.specs.Decide.{decide}
use Rattle.scim_policy.specs.Access.{access, forbidding, leaves_of}
use Rattle.scim_explain.specs.Inquiries.{inquiry, is_granted}

-- whether a leaf is one of a kind
abbrev pub is_leaf_of : Kind → Leaf → Bool
is_leaf_of kind l = list_any (is_same_leaf l) (leaves kind)

-- whether the client sees the resource: it may read `id`
abbrev pub sees : List Rule → List ℕ → Content → Bool
sees policy client c = (decide policy client Read c (simple Id)).allow

-- reading is granted at the leaves that a client that sees the resource may read, except writeOnly ones
abbrev pub TellsWhatIsRead : Type 0
TellsWhatIsRead =
    (policy : List Rule) (client : List ℕ) (c : Content) (l : Leaf)
    → is_granted (inquiry policy client Read c) l ≡ sees policy client c && ((decide policy client Read c l).allow && not (is_write_only c.kind l))

-- modifying is granted at the leaves of the units that aren't readOnly and that the policy lets a client write that
-- sees the resource
abbrev pub TellsWhatIsModified : Type 0
TellsWhatIsModified =
    (policy : List Rule) (client : List ℕ) (c : Content) (l : Leaf) → is_leaf_of c.kind l ≡ true
    → is_granted (inquiry policy client Modify c) l ≡ sees policy client c && (not (is_fixed c.kind (unit_of l)) && is_none (forbidding c.kind (access policy client c) (unit_of l)))

-- creating is granted at the leaves, other than `id`, of the units that aren't readOnly if the policy lets the client
-- create at `id` and at each leaf of the unit
abbrev pub TellsWhatIsCreated : Type 0
TellsWhatIsCreated =
    (policy : List Rule) (client : List ℕ) (c : Content) (l : Leaf) → is_leaf_of c.kind l ≡ true → is_same_leaf l (simple Id) ≡ false
    → is_granted (inquiry policy client Create c) l
    ≡ not (is_fixed c.kind (unit_of l)) && ((decide policy client Create c (simple Id)).allow && list_all (λ m. (decide policy client Create c m).allow) (leaves_of c.kind (unit_of l)))

-- deleting is granted at `id` if the client sees the resource and the policy lets it delete there
abbrev pub TellsWhatIsDeleted : Type 0
TellsWhatIsDeleted =
    (policy : List Rule) (client : List ℕ) (c : Content) → is_granted (inquiry policy client Delete c) (simple Id) ≡ sees policy client c && (decide policy client Delete c (simple Id)).allow
