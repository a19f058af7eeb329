-- Strictly ascending keys, and the code's test for them.
use Rattle.std.specs.Prelude.{◌≡◌, ℤ, Bool, true, ◌&&◌, List, [], ◌∷◌, Option, None, Some}
use Rattle.std.specs.List.{AllByRecursion}
use Rattle.std.specs.Ordering.{is_lt, int_cmp}
use Rattle.std.specs.declared.cmp.Ordering.TheVariants.{Less}
use Rattle.sqlite.specs.Edit.{id_in}
use Rattle.sqlite.specs.Order.{Row, value_cmp}
use Rattle.sqlite.specs.Tree.{IsAscending, rowid}
use Rattle.sqlite.specs.View.{is_int}

-- A row with only the key of another row.
abbrev pub key_alone : Row → Row
key_alone r = rowid r ∷ []

-- The first columns of the rows are numbers and strictly ascending.
pub record AreRising (rows : List Row) : Type 0 where
  pub numbers : AllByRecursion (λ r. is_int (rowid r) ≡ true) rows
  pub rise : IsAscending (λ a b. value_cmp (rowid a) (rowid b) ≡ Less) rows

-- Whether a key is greater than the previous key `last`; true if there is no previous key.
abbrev pub is_above : Option ℤ → ℤ → Bool
is_above None key = true
is_above (Some last) key = is_lt (int_cmp last key)

-- Whether the keys of the rows are strictly ascending, and all greater than the previous key `last`, if any.
abbrev pub rise_from : Option ℤ → List Row → Bool
rise_from last [] = true
rise_from last (r ∷ rows) = is_above last (id_in (rowid r)) && rise_from (Some (id_in (rowid r))) rows
