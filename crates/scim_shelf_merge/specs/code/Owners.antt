-- The owners of unique names.
use Rattle.std.specs.Prelude.{ℕ, Bool, false, not, List, Option, None, Some}
use Rattle.scim_cell.specs.Content.{Content}
use Rattle.scim_cell.specs.Equality.{is_same_id}

-- whether there is an owner, and its id isn't `own`
abbrev pub is_another : List ℕ → Option Content → Bool
is_another own None = false
is_another own (Some owner) = not (is_same_id own owner.id)
