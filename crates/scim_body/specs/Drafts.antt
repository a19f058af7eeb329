-- Drafts of resources, and the invariant that each one meets.
use Rattle.std.specs.Prelude.{◌≡◌, List, [], Bool, true, false, not, ◌&&◌, All}
use Rattle.std.specs.List.{list_any}
use denote.Enum.Bare.{sameb}
use Rattle.scim_schema.specs.declared.Kind.{Kind}
use Rattle.scim_schema.specs.declared.Attribute.{Attribute}
use Rattle.scim_schema.specs.declared.Attribute.TheVariants.{UserName}
use Rattle.scim_schema.specs.declared.Unit.{Unit as AttributeUnit}
use Rattle.scim_schema.specs.contracts.Attribute.{the_type as the_attribute}
use Rattle.scim_schema.specs.Table.{attributes}
use Rattle.scim_schema.specs.Characteristics.{attribute_characteristics}
use Rattle.scim_schema.specs.Units.{simple, is_same_unit}
use Rattle.scim_schema.specs.Mutability.{is_read_only, is_dropped}
use Rattle.scim_cell.specs.declared.atoms.Atom.{Atom}
use Rattle.scim_cell.specs.declared.atoms.Atom.TheVariants.{Text}
use Rattle.scim_cell.specs.declared.rows.Field.{Field}
use Rattle.scim_cell.specs.Rows.{Row, AreSound}
use Rattle.scim_value.specs.Resource.{IsShort, MembersHaveValues, HasAtMostOnePrimary, HasFewValues}
use Rattle.scim_body.specs.declared.drafts.UseFor.{UseFor}
use Rattle.scim_body.specs.declared.drafts.UseFor.TheVariants.{Creating}

-- a draft: the kind of the resource, the purpose of the body, the units for which the body has a value, and
-- the rows to store
pub record Draft : Type 0 where
  pub kind : Kind
  pub use_for : UseFor
  pub given : List AttributeUnit
  pub rows : List Row

-- whether the body has a value for a unit
abbrev pub gives : Draft → AttributeUnit → Bool
gives d u = list_any (is_same_unit u) d.given

-- whether an atom is an empty text
abbrev pub is_empty : Atom → Bool
is_empty (Text []) = true
is_empty _ = false

-- whether the kind requires an attribute (RFC 7643 section 2.2) and no row has it
abbrev pub is_missing : Kind → List Row → Attribute → Bool
is_missing kind rs a = (attribute_characteristics kind a).required && not (list_any (λ r. sameb the_attribute r.unit.attribute a) rs)

-- whether the rows lack an attribute that the kind requires
unfoldable pub lacks_required : Kind → List Row → Bool
lacks_required kind rs = list_any (is_missing kind rs) (attributes kind)

-- a field may come from a body and be stored: it isn't readOnly (RFC 7643 section 2.2), its leaf isn't
-- dropped, its text has at most 65,536 bytes, and it isn't an empty `userName` (section 4.1.1)
pub record MayBeGiven (kind : Kind) (f : Field) : Type 0 where
  pub writable : is_read_only kind f.leaf ≡ false
  pub kept : is_dropped f.leaf ≡ false
  pub short : IsShort f.atom
  pub filled : f.leaf ≡ simple UserName → is_empty f.atom ≡ false

-- the invariant of a draft: its rows are valid, have only fields that a body may set, and are within the
-- limits of a resource; a draft for Creating has all attributes that the kind requires
pub record IsDraft (d : Draft) : Type 0 where
  pub sound : AreSound d.kind d.rows
  pub may_be_given : All (λ r. All (MayBeGiven d.kind) r.fields) d.rows
  pub members_have_values : MembersHaveValues d.rows
  pub one_primary : HasAtMostOnePrimary d.kind d.rows
  pub few_values : HasFewValues d.kind d.rows
  pub complete : d.use_for ≡ Creating → lacks_required d.kind d.rows ≡ false
