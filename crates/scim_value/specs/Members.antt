-- The members that a group lists (RFC 7643 section 4.2).
use Rattle.std.specs.Prelude.{ℕ, Bool, false, List, nat_eq, Option, Some}
use Rattle.std.specs.List.{list_any}
use Rattle.std.specs.Cmp.Lexicographic.{pointwise}
use Rattle.scim_schema.specs.declared.Attribute.TheVariants.{Members}
use Rattle.scim_schema.specs.declared.SubAttribute.TheVariants.{Value}
use Rattle.scim_schema.specs.Units.{leaf_at, whole}
use Rattle.scim_cell.specs.declared.atoms.Atom.{Atom}
use Rattle.scim_cell.specs.declared.atoms.Atom.TheVariants.{Text}
use Rattle.scim_cell.specs.Content.{Content}
use Rattle.scim_cell.specs.Ids.{id_text}
use Rattle.scim_cell.specs.Rows.{Row, rows, values, atom_in}

-- whether the option contains this text
abbrev pub is_text : List ℕ → Option Atom → Bool
is_text t (Some (Text u)) = pointwise nat_eq t u
is_text t _ = false

-- whether a group has a member with this text as its `value`
abbrev pub lists_value : List ℕ → Content → Bool
lists_value value g = list_any (λ (m : Row). is_text value (atom_in (leaf_at Members Value) m.fields)) (values (whole Members) (rows g))

-- whether a group lists the resource with this id: one of its members has the text of the id as its `value`
abbrev pub lists : List ℕ → Content → Bool
lists id g = lists_value (id_text id) g
