-- The resource that a draft creates (RFC 7644 section 3.3).
use Rattle.std.specs.Prelude.{ℕ, List, [], ◌∷◌, ◌++◌}
use Rattle.scim_schema.specs.declared.Kind.{Kind}
use Rattle.scim_schema.specs.declared.Leaf.{Leaf}
use Rattle.scim_schema.specs.declared.SubAttribute.{SubAttribute}
use Rattle.scim_schema.specs.declared.SubAttribute.TheVariants.{ResourceType, Created, LastModified, Location}
use Rattle.scim_schema.specs.declared.Attribute.TheVariants.{Id, Meta}
use Rattle.scim_schema.specs.Names.{kind_name}
use Rattle.scim_schema.specs.Units.{simple, leaf_at, unit_of}
use Rattle.scim_cell.specs.declared.atoms.Atom.{Atom}
use Rattle.scim_cell.specs.declared.atoms.Atom.TheVariants.{Text, Moment}
use Rattle.scim_cell.specs.Content.{Content}
use Rattle.scim_cell.specs.Ids.{id_text}
use Rattle.scim_cell.specs.Rows.{Row, content}
use Rattle.scim_value.specs.Resource.{location}
use Rattle.scim_body.specs.Drafts.{Draft}

-- the row of the leaf's unit with one field: the atom at the leaf
abbrev pub row_of : Leaf → Atom → Row
row_of l atom = record { unit = unit_of l; fields = record { leaf = l; atom = atom } ∷ [] }

-- the row of a sub-attribute of `meta` with this atom
abbrev pub meta_row : SubAttribute → Atom → Row
meta_row b atom = row_of (leaf_at Meta b) atom

-- the row of `id` (RFC 7643 section 3.1)
abbrev pub id_row : List ℕ → Row
id_row id = row_of (simple Id) (Text (id_text id))

-- the rows of `meta` for a resource of a kind with this id, created at this moment, with a location below the
-- base (RFC 7643 section 3.1)
abbrev pub meta_rows : Kind → List ℕ → ℕ → List ℕ → List Row
meta_rows kind id moment base =
    meta_row ResourceType (Text (kind_name kind)) ∷ meta_row Created (Moment moment) ∷ meta_row LastModified (Moment moment) ∷ meta_row Location (Text (location base kind id)) ∷ []

-- the rows of the created resource, in the order of units: `id`, the draft's values, and `meta`
abbrev pub created_rows : Draft → List ℕ → ℕ → List ℕ → List Row
created_rows d id moment base = id_row id ∷ (d.rows ++ meta_rows d.kind id moment base)

-- the resource that a draft creates
unfoldable pub created : Draft → List ℕ → ℕ → List ℕ → Content
created d id moment base = content d.kind id (created_rows d id moment base)
