-- When values of a multi-valued attribute are the same, and appending without duplicates (RFC 7643 sections
-- 2.4 and 4.2).
use Rattle.std.specs.Prelude.{Bool, ◌&&◌, is_none, List, [], ◌∷◌, ◌++◌, Option, if◌then◌else◌}
use Rattle.std.specs.List.{list_any}
use Rattle.std.specs.Option.{option_eq}
use denote.Enum.Bare.{sameb}
use Rattle.scim_schema.specs.declared.Attribute.{Attribute}
use Rattle.scim_schema.specs.declared.Attribute.TheVariants.{Members}
use Rattle.scim_schema.specs.declared.SubAttribute.TheVariants.{Value}
use Rattle.scim_schema.specs.contracts.Attribute.{the_type as the_attribute}
use Rattle.scim_schema.specs.Units.{leaf_at}
use Rattle.scim_cell.specs.declared.atoms.Atom.{Atom}
use Rattle.scim_cell.specs.Atoms.{is_same_atom}
use Rattle.scim_cell.specs.Equality.{is_same_row}
use Rattle.scim_cell.specs.Rows.{Row, atom_in}

-- the `value` of a member, or None
abbrev pub member_value : Row → Option Atom
member_value r = atom_in (leaf_at Members Value) r.fields

-- whether the attribute is `members`
abbrev pub is_members : Attribute → Bool
is_members a = sameb the_attribute a Members

-- whether a member has no `value`
abbrev pub is_nameless : Attribute → Row → Bool
is_nameless a r = is_members a && is_none (member_value r)

-- whether two values are the same: members, if they have the same `value` or neither has a `value` (RFC 7643
-- section 4.2); values of other attributes, if their cells are equal
abbrev pub is_same_value : Attribute → Row → Row → Bool
is_same_value a r s = if is_members a then option_eq is_same_atom (member_value r) (member_value s) else is_same_row r s

-- the values `rs`, with `r` appended unless `rs` already contains the same value
abbrev pub with_value : Attribute → List Row → Row → List Row
with_value a rs r = if list_any (λ s. is_same_value a s r) rs then rs else rs ++ r ∷ []

-- the values, with each given value appended unless an earlier value is the same
abbrev pub with_values : Attribute → List Row → List Row → List Row
with_values a rs [] = rs
with_values a rs (r ∷ more) = with_values a (with_value a rs r) more
