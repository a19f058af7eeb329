-- The resources other than the one that a request changes.
use Rattle.std.specs.Prelude.{ℕ, Bool, true, false, not, List, Option, None, Some}
use Rattle.scim_cell.specs.Content.{Content}
use Rattle.scim_cell.specs.Equality.{is_same_id}
use Rattle.scim_shelf.specs.Stores.{without}

-- The resources whose id isn't the given one; all resources if no id is given.
abbrev pub beside : Option (List ℕ) → List Content → List Content
beside None cs = cs
beside (Some id) cs = without id cs

-- Whether there is a resource, and its id isn't `own`.
abbrev pub is_another : Option (List ℕ) → Option Content → Bool
is_another own None = false
is_another None (Some c) = true
is_another (Some id) (Some c) = not (is_same_id id c.id)
