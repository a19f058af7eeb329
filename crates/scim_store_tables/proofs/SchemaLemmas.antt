-- The parts of the schema, as the code finds them.
use Rattle.std.proofs.Common.{◌≡◌, ◌<◌, ◌≤◌, List, [], ◌∷◌, length, get_or, sym, ap, refl, arith}
use Rattle.std.specs.Fmt.{digits}
use Rattle.scim_store_tables.specs.Tables.{old_schema, store_schema}
use Rattle.scim_store_tables.specs.code.Schema.{old_indexes, store_indexes}

-- the names of the indexes, written out
pub old_indexes_are : old_schema.indexes ≡ old_indexes
unfolding digits
old_indexes_are = refl

pub indexes_are : store_schema.indexes ≡ store_indexes
unfolding digits
indexes_are = refl

-- a list of one element
pub alone : {X : Type 0} (xs : List X) (x : X) → 1 ≤ length xs → length xs < 2 → x ≡ get_or xs 0 x → xs ≡ x ∷ []
alone [] x some few is = absurd (omega arith)
alone (y ∷ []) x some few is = ap (λ z. z ∷ []) (sym is)
alone (y ∷ z ∷ more) x some few is = absurd (omega arith)
