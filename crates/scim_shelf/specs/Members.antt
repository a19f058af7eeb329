-- The values of the members of a group (RFC 7643 section 4.2).
use Rattle.std.specs.Prelude.{ℕ, Bool, false, List, nat_eq, Option, None, Some}
use Rattle.std.specs.List.{list_any}
use Rattle.std.specs.Ordering.{nat_cmp}
use Rattle.std.specs.Cmp.Lexicographic.{slice_cmp, pointwise}
use Rattle.std.specs.BTreeSet.{BTreeSet, contains_by}
use denote.Ref.{Bor}
use Rattle.scim_schema.specs.declared.Attribute.TheVariants.{Members}
use Rattle.scim_schema.specs.declared.SubAttribute.TheVariants.{Value}
use Rattle.scim_schema.specs.Units.{leaf_at}
use Rattle.scim_cell.specs.declared.atoms.Atom.{Atom}
use Rattle.scim_cell.specs.Rows.{Row, atom_in}
use Rattle.scim_value.specs.Members.{is_text}

-- Whether a look-up found the text `value`.
abbrev pub is_found : List ℕ → Option (List ℕ) → Bool
is_found value None = false
is_found value (Some text) = pointwise nat_eq value text

-- Whether a value is in a set of borrowed texts.
abbrev pub is_in : List ℕ → BTreeSet (Bor (List ℕ)) → Bool
is_in value texts = contains_by (λ text. slice_cmp nat_cmp value text.now) texts

-- The `value` of a member, if it has one.
abbrev pub value_in : Row → Option Atom
value_in member = atom_in (leaf_at Members Value) member.fields

-- Whether one of these members has the value.
abbrev pub is_value_of : List ℕ → List Row → Bool
is_value_of value members = list_any (λ (m : Row). is_text value (value_in m)) members
