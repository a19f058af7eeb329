-- Laws about what a client sees.
use Rattle.std.specs.Prelude.{◌≡◌, ℕ, true, false, [], ◌∷◌, None, Some}
use Rattle.std.specs.List.{list_any}
use Rattle.scim_schema.specs.declared.Leaf.{Leaf}
use Rattle.scim_schema.specs.declared.Attribute.{Attribute}
use Rattle.scim_schema.specs.Mutability.{is_write_only}
use Rattle.scim_schema.specs.Table.{HasLeaf}
use Rattle.scim_schema.specs.Units.{unit_of}
use Rattle.scim_cell.specs.declared.atoms.Atom.{Atom}
use Rattle.scim_cell.specs.Content.{Content, IsPart}
use Rattle.scim_cell.specs.Rows.{Row, rows, attribute_rows, cell_at, values}
use Rattle.scim_policy.specs.Access.{access, widening}
use Rattle.scim_policy.specs.Opened.{allows}
use Rattle.scim_policy.specs.Patterns.{decide_at}
use Rattle.scim_view.specs.View.{Viewer, may_read, read_in, read_pattern, may_be_seen, shows_some, visible, visible_attributes}

-- the viewer may see this atom of a resource at a leaf and a position
pub record IsSeenAt (v : Viewer) (c : Content) (l : Leaf) (k : ℕ) (atom : Atom) : Type 0 where
  pub there : cell_at l k (rows c) ≡ Some atom
  pub shown : is_write_only c.kind l ≡ false
  pub readable : (decide_at v.policy v.client c l k).allow ≡ true

-- after a change that doesn't widen a viewer's access, the viewer sees no cell that it didn't see before, in an
-- attribute whose values are unchanged
abbrev pub NothingComesIntoView : Type 0
NothingComesIntoView =
    (v : Viewer) (old new : Content)
    → new.kind ≡ old.kind → widening new.kind (access v.policy v.client old) (access v.policy v.client new) ≡ None
    → (l : Leaf) (k : ℕ) (atom : Atom) → HasLeaf new.kind l → values (unit_of l) (rows new) ≡ values (unit_of l) (rows old) → IsSeenAt v new l k atom → IsSeenAt v old l k atom

-- a leaf is seen in no value if no rule of its pattern allows
abbrev pub DeniedLeavesAreUnseen : Type 0
DeniedLeavesAreUnseen =
    (v : Viewer) (c : Content) (l : Leaf) → list_any allows (read_pattern v c l) ≡ false → (r : Row) → may_be_seen (read_in v c) c.kind r l ≡ false

-- no value is seen of an attribute if no rule of its leaves' patterns allows
pub record IsUnseen (v : Viewer) (c : Content) (a : Attribute) : Type 0 where
  pub among_all : attribute_rows a (rows (visible v c)) ≡ []
  pub alone : rows (visible_attributes (a ∷ []) (read_in v c) c) ≡ []

abbrev pub DeniedAttributesAreUnseen : Type 0
DeniedAttributesAreUnseen = (v : Viewer) (c : Content) (a : Attribute) → IsPart c → shows_some (read_pattern v c) c.kind a ≡ false → IsUnseen v c a

-- a leaf that may be read in all values, and isn't writeOnly, is seen in each value
abbrev pub AllowedLeavesAreSeen : Type 0
AllowedLeavesAreSeen =
    (v : Viewer) (c : Content) (l : Leaf) → may_read v c l ≡ true → is_write_only c.kind l ≡ false → (r : Row) → may_be_seen (read_in v c) c.kind r l ≡ true
