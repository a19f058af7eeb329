-- The effect of one statement on one table.
use Rattle.std.specs.Prelude.{◌≡◌, ◌≢◌, ℕ, Bool, true, false, not, List, map, filter, length, IsPermutation}
use Rattle.sqlite.specs.Order.{Row}
use Rattle.sqlite.specs.Tree.{put_row}
use Rattle.sqlite.specs.Edit.{is_taken, have_rowids, are_fresh, put_all, IsNoIndex}
use Rattle.sqlite.specs.Effect.{Database}

-- One row is inserted into one table, in which no row had its rowid before. No other table is changed.
pub record Puts (tree : ℕ) (row : Row) (old new : Database) : Type 0 where
  pub schema : new.schema ≡ old.schema
  pub rows : new.trees tree ≡ put_row row (old.trees tree)
  pub fresh : is_taken (old.trees tree) row ≡ false
  pub others : (t : ℕ) → t ≢ tree → IsNoIndex old.schema t → new.trees t ≡ old.trees t

-- The rows that pass the test are deleted from one table. No other table is changed.
pub record Takes (tree : ℕ) (test : Row → Bool) (old new : Database) : Type 0 where
  pub schema : new.schema ≡ old.schema
  pub rows : new.trees tree ≡ filter (λ r. not (test r)) (old.trees tree)
  pub others : (t : ℕ) → t ≢ tree → IsNoIndex old.schema t → new.trees t ≡ old.trees t

-- In one table, each of the `count` rows that pass the test is replaced by its image under `turned`. No other
-- table is changed.
pub record Turns (tree : ℕ) (test : Row → Bool) (turned : Row → Row) (count : ℕ) (old new : Database) : Type 0 where
  pub schema : new.schema ≡ old.schema
  pub news : List Row
  pub same : IsPermutation (map turned (filter test (old.trees tree))) news
  pub counted : count ≡ length news
  pub keyed : have_rowids news ≡ true
  pub fresh : are_fresh (filter (λ r. not (test r)) (old.trees tree)) news ≡ true
  pub rows : new.trees tree ≡ put_all (filter (λ r. not (test r)) (old.trees tree)) news
  pub others : (t : ℕ) → t ≢ tree → IsNoIndex old.schema t → new.trees t ≡ old.trees t
