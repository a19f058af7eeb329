-- Changes of cells that are hidden from a viewer.
use Rattle.std.specs.Prelude.{◌≡◌, ◌⊎◌, ℕ, Bool, false, List, Some}
use Rattle.std.specs.List.{list_any}
use Rattle.std.specs.Option.{option_eq}
use Rattle.scim_schema.specs.declared.Attribute.{Attribute}
use Rattle.scim_schema.specs.declared.Leaf.{Leaf}
use Rattle.scim_schema.specs.Units.{is_same_attribute}
use Rattle.scim_cell.specs.Content.{Content}
use Rattle.scim_cell.specs.Rows.{rows, cell_at}
use Rattle.scim_policy.specs.Control.{is_named_in, is_unique}
use Rattle.scim_policy.specs.Fits.{attribute_before}
use Rattle.scim_policy.specs.Rules.{FilteredPath, KindPaths, Rule}
use Rattle.scim_view.specs.View.{Viewer, may_read}

-- Whether the path's value filter is on the attribute: the attribute stands before the path's brackets.
abbrev pub is_filter_on : Attribute → FilteredPath → Bool
is_filter_on a path = option_eq is_same_attribute (attribute_before path.tree) (Some a)

-- Whether one of the paths has a value filter on the attribute.
abbrev pub has_filter_on : Attribute → List KindPaths → Bool
has_filter_on a paths = list_any (λ (p : KindPaths). list_any (is_filter_on a) p.filtered) paths

-- Whether a rule of the policy has a path with a value filter on the attribute.
abbrev pub has_value_filter : List Rule → Attribute → Bool
has_value_filter policy a = list_any (λ (r : Rule). has_filter_on a r.paths) policy

-- The cell at this leaf and position is unchanged; or the viewer may not read the leaf in the old resource,
-- no target of the policy names the leaf's attribute, no value filter of the policy is on it, and the values of
-- the attribute needn't be unique.
abbrev pub IsHiddenAt : Viewer → Content → Content → Leaf → ℕ → Type 0
IsHiddenAt v old new l k =
    (cell_at l k (rows old) ≡ cell_at l k (rows new))
    ⊎ ((may_read v old l ≡ false) × (is_named_in v.policy l.attribute ≡ false) × (is_unique old.kind l.attribute ≡ false)
    × (has_value_filter v.policy l.attribute ≡ false))
