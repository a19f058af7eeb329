-- What the looks ahead of a change tell.
use Rattle.std.proofs.Common.{◌≡◌, ℕ, List, [], ◌∷◌, ◌∙◌, ap, subst, true, codes, map, filter, Option, IsTrue, refl}
use Rattle.std.specs.Prelude.{IsPermutation}
use Rattle.sqlite.specs.declared.types.Value.TheVariants.{Text}
use Rattle.sqlite.specs.Order.{Row}
use Rattle.sqlite.specs.Term.{col}
use Rattle.sqlite.specs.Query.{Query}
use Rattle.sqlite.specs.Listing.{understood}
use Rattle.sqlite.specs.State.{State, IsUnchanged}
use Rattle.sqlite_tied.specs.Compute.{everything}
use Rattle.scim_store_tables.specs.declared.versions.Version.TheVariants.{Two}
use Rattle.scim_store_tables.specs.Lists.{Lists, has_text, pair, triple}
use Rattle.scim_store_tables.specs.Reading.{Rests, Holds, Finds, IsTextOfFirst}
use Rattle.scim_store_tables.specs.Asks.{IsAsk}
use Rattle.scim_store_tables.specs.Queries.{one_table, is_column}
use Rattle.scim_store_tables.proofs.Facts.{answered_columns, found_first, unchanged_rests}
use Rattle.scim_store_tables.proofs.Facts.{Answered}
use Rattle.scim_store_tables.proofs.Facts.{passes_text}

-- ---- the resource of an id

abbrev pub old_text : List ℕ
old_text = codes "SELECT document FROM resource WHERE id = ?1"

abbrev pub old_query : Query
old_query = one_table 2 (is_column 1 0 ∷ []) (col 1 3 ∷ []) []

pub asks_old : IsAsk Two old_text old_query
unfolding understood everything
asks_old = record { names = codes "document" ∷ []; command = refl; plain = (refl, refl); unlisted = refl }

module _ (old new : State) (rows : List Row) (opened : IsTrue old.is_open) where
  pub old_rests : (id : List ℕ) → Answered old_text (Text id ∷ []) old new rows → (lists : Lists) → Holds old lists → Rests old new
  old_rests id answers lists holds = unchanged_rests old new (answers old_query asks_old (holds opened).schema).unchanged

  pub old_found : (id : List ℕ) (found : Option (List ℕ)) → Answered old_text (Text id ∷ []) old new rows → IsTextOfFirst 0 rows found
      → (lists : Lists) → Holds old lists → Finds 2 (filter (has_text 0 id) lists.resources) old new found
  old_found id found answers first lists holds =
      let are = holds opened in
      let it = answers old_query asks_old are.schema in
      found_first 2 _ rows found old new it.unchanged
      (answered_columns 2 (is_column 1 0 ∷ []) (col 1 3 ∷ []) [] old.now.trees (Text id ∷ []) rows lists.resources triple (has_text 0 id) _ (passes_text 2 id []) (λ r. refl) are.resources.same it.answer) first

-- ---- all door codes

abbrev pub codes_text : List ℕ
codes_text = codes "SELECT id, door_code FROM secret"

abbrev pub codes_query : Query
codes_query = one_table 9 [] (col 1 1 ∷ col 1 2 ∷ []) []

pub asks_codes : IsAsk Two codes_text codes_query
unfolding understood everything
asks_codes = record { names = codes "id" ∷ codes "door_code" ∷ []; command = refl; plain = (refl, refl); unlisted = refl }

map_itself : (rows : List Row) → map (λ (r : Row). r) rows ≡ rows
map_itself [] = refl
map_itself (r ∷ rows) = ap (λ xs. r ∷ xs) (map_itself rows)

filter_all : (rows : List Row) → filter (λ (r : Row). true) rows ≡ rows
filter_all [] = refl
filter_all (r ∷ rows) = ap (λ xs. r ∷ xs) (filter_all rows)

-- what is answered are the rows of `secret`, in some order
pub record CodesTold (old new : State) (lists : Lists) (rows : List Row) : Type 0 where
  pub unchanged : IsUnchanged old new
  pub same : IsPermutation lists.secret rows

pub codes_told : (old new : State) (rows : List Row) → IsTrue old.is_open → Answered codes_text [] old new rows → (lists : Lists) → Holds old lists → CodesTold old new lists rows
codes_told old new rows opened answers lists holds =
    let are = holds opened in
    let it = answers codes_query asks_codes are.schema in
    let same = answered_columns 9 [] (col 1 1 ∷ col 1 2 ∷ []) [] old.now.trees [] rows lists.secret pair (λ r. true) (λ r. r) (λ r. refl) (λ r. refl) are.secret.same it.answer in
    record { unchanged = it.unchanged; same = subst (λ (xs : List Row). IsPermutation xs rows) (map_itself _ ∙ filter_all lists.secret) same }
