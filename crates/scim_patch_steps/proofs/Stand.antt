-- What holds of the values that a unit of a resource has.
use Rattle.std.proofs.Common.{◌≡◌, ◌≤◌, false, List, length}
use Rattle.std.specs.Prelude.{All, IsSome}
use Rattle.std.specs.List.{count_by}
use Rattle.scim_schema.specs.declared.Kind.{Kind}
use Rattle.scim_schema.specs.declared.Kind.TheVariants.{User, Group}
use Rattle.scim_schema.specs.declared.Unit.{Unit as AttributeUnit}
use Rattle.scim_schema.specs.declared.Attribute.TheVariants.{UserName, DisplayName}
use Rattle.scim_schema.specs.Units.{simple, whole}
use Rattle.scim_cell.specs.Rows.{Row, atom_at, is_primary, AreValues}
use Rattle.scim_value.specs.Resource.{MayBeKept, IsFilled}
use Rattle.scim_cell.specs.SameValues.{is_nameless}

-- what a kind is named by has an atom, and `userName` one that isn't empty
abbrev pub NamesAs : Kind → AttributeUnit → List Row → Type 0
NamesAs User u vs = u ≡ whole UserName → IsFilled (atom_at (simple UserName) 0 vs)
NamesAs Group u vs = u ≡ whole DisplayName → IsSome (atom_at (simple DisplayName) 0 vs)

-- the values may stand in a resource of the kind
pub record MayStand (kind : Kind) (u : AttributeUnit) (vs : List Row) : Type 0 where
  pub own : AreValues kind u vs
  pub kept : All (λ r. All (MayBeKept kind) r.fields) vs
  pub named : All (λ r. is_nameless u.attribute r ≡ false) vs
  pub one_primary : count_by is_primary vs ≤ 1
  pub few : length vs ≤ 10000
  pub names : NamesAs kind u vs
