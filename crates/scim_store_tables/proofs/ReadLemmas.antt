-- What the queries tell of the tables.
use Rattle.std.proofs.Common.{◌≡◌, ℕ, ℤ, pos, List, [], ◌∷◌, map, filter, Option, IsTrue, Ordering, Less, Equal, Greater, false, refl, sym, subst}
use Rattle.std.specs.Prelude.{IsPermutation}
use Rattle.std.specs.Ordering.{is_lt, ordering_then}
use Rattle.std.proofs.lemmas.List.Sorted.{IsPermutation-map, IsPermutation-trans}
use Rattle.sqlite_trees.proofs.ListLemmas.{map-map, filter-map, ascending_weaker}
use Rattle.sqlite.specs.declared.types.Value.TheVariants.{Int, Text}
use Rattle.sqlite.specs.Order.{Row, column, value_cmp}
use Rattle.sqlite.specs.Query.{Query}
use Rattle.sqlite.specs.Term.{col}
use Rattle.sqlite.specs.State.{State, IsUnchanged}
use Rattle.scim_store_tables.specs.Tables.{store_schema}
use Rattle.scim_store_tables.specs.Lists.{Lists, has_text, has_texts, pair, triple, entry}
use Rattle.scim_store_tables.specs.Reading.{columns_cmp, group_alone, Rests, HasTables, Holds, Tells, Finds, IsTextOfFirst, shown, owner_first, group_first, is_resource, is_between}
use Rattle.scim_store_tables.specs.Asks.{IsAsk, IsAnswered}
use Rattle.scim_store_tables.specs.Queries.{is_column, up, tree_of, rows_query, keys_query}
use Rattle.scim_store_tables.specs.declared.versions.Version.TheVariants.{Two}
use Rattle.scim_store_tables.specs.code.Keys.{key_alone}
use Rattle.scim_store_tables.specs.code.Told.{AreRows, AreKeys}
use Rattle.scim_store_tables.specs.Whole.{AreInOrder}
use Rattle.scim_store_tables.specs.declared.queries.Table.{Table}
use Rattle.scim_store_tables.specs.declared.queries.Table.TheVariants.{Setting, Resource, Taken, Member, Audit, Secret}
use Rattle.scim_store_tables.proofs.AskLemmas.{groups_text, groups, asks_groups, resources_text, resources, asks_resources, document_text, document, asks_document, owner_text, owner, asks_owner, secret_text, secret, asks_secret, between_text, between, asks_between}
use Rattle.scim_store_tables.proofs.AnswerLemmas.{passing, answered_columns, found_first, unchanged_rests}
use Rattle.scim_store_tables.proofs.KeyLemmas.{keys_told}
use Rattle.scim_store_tables.proofs.OrderLemmas.{told_in_order, told_where}
use Rattle.scim_store_tables.proofs.TestLemmas.{passes_text, passes_resource, passes_key, passes_between}
use Rattle.scim_store_tables.proofs.TextLemmas.{key_tests, resource_tests, between_tests}

-- ---- all rows of a table, and its keys

ordered : {places : List ℕ} {values : List Row} {old new : State} {rows : List Row} → Tells places values old new rows → IsUnchanged old new × AreInOrder places values rows
ordered told = (told.unchanged, record { same = told.same; order = told.order })

first_alone : (o p : Ordering) → is_lt (ordering_then o (ordering_then p Equal)) ≡ false → is_lt (ordering_then o Equal) ≡ false
first_alone Less p h = h
first_alone Equal p h = refl
first_alone Greater p h = refl

-- what is in order by two columns is by the first
by_first : {values : List Row} {old new : State} {rows : List Row} → Tells (0 ∷ 1 ∷ []) values old new rows → IsUnchanged old new × AreInOrder (0 ∷ []) values rows
by_first {values} {old} {new} {rows} told = (
  told.unchanged,
  record {
    same = told.same;
    order = ascending_weaker (λ a b. is_lt (columns_cmp (0 ∷ 1 ∷ []) b a) ≡ false) (λ a b. is_lt (columns_cmp (0 ∷ []) b a) ≡ false) (λ a b h. first_alone (value_cmp (column b 0) (column a 0)) (value_cmp (column b 1) (column a 1)) h) rows told.order;
  },
)

pub rows_told : (table : Table) (old new : State) (rows : List Row) → IsAnswered (rows_query table) [] old new rows → IsUnchanged old new × AreRows table old.now rows
rows_told Setting old new rows it = ordered (told_in_order 0 (col 1 1 ∷ col 1 2 ∷ []) [] [] old.now.trees rows pair old new refl (λ r. tt) (λ r. refl) it.unchanged it.answer)
rows_told Resource old new rows it = by_first (told_in_order 2 (col 1 1 ∷ col 1 2 ∷ col 1 3 ∷ []) ((col 1 1, up) ∷ (col 1 2, up) ∷ []) (0 ∷ 1 ∷ []) old.now.trees rows triple old new refl (λ r. (refl, (refl, tt))) (λ r. refl) it.unchanged it.answer)
rows_told Taken old new rows it =
    ordered (subst (λ values. Tells (0 ∷ 1 ∷ 2 ∷ []) values old new rows) (sym (map-map owner_first triple (old.now.trees 4)))
    (told_in_order 4 (col 1 3 ∷ col 1 1 ∷ col 1 2 ∷ []) ((col 1 3, up) ∷ (col 1 1, up) ∷ (col 1 2, up) ∷ []) (0 ∷ 1 ∷ 2 ∷ []) old.now.trees rows (λ r. owner_first (triple r)) old new refl (λ r. (refl, (refl, (refl, tt)))) (λ r. refl) it.unchanged it.answer))
rows_told Member old new rows it =
    ordered (subst (λ values. Tells (0 ∷ 1 ∷ []) values old new rows) (sym (map-map group_first pair (old.now.trees 6)))
    (told_in_order 6 (col 1 2 ∷ col 1 1 ∷ []) ((col 1 2, up) ∷ (col 1 1, up) ∷ []) (0 ∷ 1 ∷ []) old.now.trees rows (λ r. group_first (pair r)) old new refl (λ r. (refl, (refl, tt))) (λ r. refl) it.unchanged it.answer))
rows_told Audit old new rows it =
    ordered (told_in_order 8 (col 1 0 ∷ col 1 2 ∷ col 1 3 ∷ col 1 4 ∷ col 1 5 ∷ col 1 6 ∷ col 1 7 ∷ col 1 8 ∷ col 1 9 ∷ col 1 10 ∷ []) ((col 1 0, up) ∷ []) (0 ∷ []) old.now.trees rows entry old new refl (λ r. (refl, tt)) (λ r. refl) it.unchanged it.answer)
rows_told Secret old new rows it = by_first (told_in_order 9 (col 1 1 ∷ col 1 2 ∷ []) ((col 1 1, up) ∷ (col 1 2, up) ∷ []) (0 ∷ 1 ∷ []) old.now.trees rows pair old new refl (λ r. (refl, (refl, tt))) (λ r. refl) it.unchanged it.answer)

pub table_keys_told : (table : Table) (old new : State) (rows : List Row) → IsAnswered (keys_query table) [] old new rows → IsUnchanged old new × AreKeys table old.now rows
table_keys_told table old new rows it =
    let told = ordered (told_in_order (tree_of table) (col 1 0 ∷ []) ((col 1 0, up) ∷ []) (0 ∷ []) old.now.trees rows key_alone old new refl (λ r. (refl, tt)) (λ r. refl) it.unchanged it.answer) in
    let both = keys_told (old.now.trees (tree_of table)) rows told.1 in
    (told.0, record { are = told.1; sound = both.0; complete = both.1 })

-- the query is answered
abbrev pub Answered : List ℕ → Row → State → State → List Row → Type 0
Answered text params old new rows = (q : Query) → IsAsk Two text q → old.now.schema ≡ store_schema → IsAnswered q params old new rows

module _ (old new : State) (rows : List Row) (opened : IsTrue old.is_open) where
  -- ---- all rows of a table

  pub resources_told : Answered resources_text [] old new rows → HasTables old → Tells (0 ∷ []) (shown old.now).resources old new rows
  resources_told answers has =
      let it = answers resources asks_resources (has opened) in
      told_in_order 2 (col 1 1 ∷ col 1 2 ∷ col 1 3 ∷ []) ((col 1 1, up) ∷ []) (0 ∷ []) old.now.trees rows triple old new refl (λ r. (refl, tt)) (λ r. refl) it.unchanged it.answer

  -- ---- by a key

  pub document_rests : (id : List ℕ) (kind : ℕ) → Answered document_text (Text id ∷ Int (pos kind) ∷ []) old new rows → (lists : Lists) → Holds old lists → Rests old new
  document_rests id kind answers lists holds = unchanged_rests old new (answers document asks_document (holds opened).schema).unchanged

  pub document_found : (id : List ℕ) (kind : ℕ) (found : Option (List ℕ)) → Answered document_text (Text id ∷ Int (pos kind) ∷ []) old new rows → IsTextOfFirst 0 rows found
      → (lists : Lists) → Holds old lists → Finds 2 (filter (is_resource id kind) lists.resources) old new found
  document_found id kind found answers first lists holds =
      let are = holds opened in
      let it = answers document asks_document are.schema in
      found_first 2 _ rows found old new it.unchanged
      (answered_columns 2 resource_tests (col 1 3 ∷ []) [] old.now.trees (Text id ∷ Int (pos kind) ∷ []) rows lists.resources triple (is_resource id kind) _ (passes_resource id kind (col 1 3 ∷ [])) (λ r. refl) are.resources.same it.answer) first

  pub owner_rests : (attribute folded : List ℕ) → Answered owner_text (Text attribute ∷ Text folded ∷ []) old new rows → (lists : Lists) → Holds old lists → Rests old new
  owner_rests attribute folded answers lists holds = unchanged_rests old new (answers owner asks_owner (holds opened).schema).unchanged

  pub owner_found : (attribute folded : List ℕ) (found : Option (List ℕ)) → Answered owner_text (Text attribute ∷ Text folded ∷ []) old new rows → IsTextOfFirst 0 rows found
      → (lists : Lists) → Holds old lists → Finds 2 (filter (has_texts attribute folded) lists.taken) old new found
  owner_found attribute folded found answers first lists holds =
      let are = holds opened in
      let it = answers owner asks_owner are.schema in
      found_first 2 _ rows found old new it.unchanged
      (answered_columns 4 key_tests (col 1 3 ∷ []) [] old.now.trees (Text attribute ∷ Text folded ∷ []) rows lists.taken triple (has_texts attribute folded) _ (passes_key 4 attribute folded (col 1 3 ∷ [])) (λ r. refl) are.taken.same it.answer) first

  pub secret_rests : (id : List ℕ) → Answered secret_text (Text id ∷ []) old new rows → (lists : Lists) → Holds old lists → Rests old new
  secret_rests id answers lists holds = unchanged_rests old new (answers secret asks_secret (holds opened).schema).unchanged

  pub secret_found : (id : List ℕ) (found : Option (List ℕ)) → Answered secret_text (Text id ∷ []) old new rows → IsTextOfFirst 0 rows found
      → (lists : Lists) → Holds old lists → Finds 1 (filter (has_text 0 id) lists.secret) old new found
  secret_found id found answers first lists holds =
      let are = holds opened in
      let it = answers secret asks_secret are.schema in
      found_first 1 _ rows found old new it.unchanged
      (answered_columns 9 (is_column 1 0 ∷ []) (col 1 2 ∷ []) [] old.now.trees (Text id ∷ []) rows lists.secret pair (has_text 0 id) _ (passes_text 9 id []) (λ r. refl) are.secret.same it.answer) first

  -- ---- in order, of those that pass

  pub groups_told : (value : List ℕ) → Answered groups_text (Text value ∷ []) old new rows → (lists : Lists) → Holds old lists → Tells (0 ∷ []) (map group_alone (filter (has_text 0 value) lists.member)) old new rows
  groups_told value answers lists holds =
      let are = holds opened in
      let it = answers groups asks_groups are.schema in
      let test = λ (r : Row). has_text 0 value (pair r) in
      let told = told_where 6 (is_column 1 0 ∷ []) (col 1 2 ∷ []) ((col 1 2, up) ∷ []) (0 ∷ []) old.now.trees (Text value ∷ []) rows test (λ r. group_alone (pair r)) old new refl (λ r. (refl, tt)) (λ r. refl) (passes_text 6 value []) it.unchanged it.answer in
      record {
        unchanged = told.unchanged;
        same = IsPermutation-trans _ _ _ (IsPermutation-map group_alone _ _ (passing pair (has_text 0 value) (old.now.trees 6) lists.member are.member.same)) (subst (λ xs. IsPermutation xs rows) (sym (map-map group_alone pair (filter test (old.now.trees 6)))) told.same);
        order = told.order;
      }

  pub between_told : (first end : ℤ) → Answered between_text (Int first ∷ Int end ∷ []) old new rows → HasTables old → Tells (0 ∷ []) (filter (is_between first end) (shown old.now).audit) old new rows
  between_told first end answers has =
      let it = answers between asks_between (has opened) in
      let shows = col 1 0 ∷ col 1 2 ∷ col 1 3 ∷ col 1 4 ∷ col 1 5 ∷ col 1 6 ∷ col 1 7 ∷ col 1 8 ∷ col 1 9 ∷ col 1 10 ∷ [] in
      subst (λ values. Tells (0 ∷ []) values old new rows) (sym (filter-map (is_between first end) entry (old.now.trees 8)))
      (told_where 8 between_tests shows ((col 1 0, up) ∷ []) (0 ∷ []) old.now.trees (Int first ∷ Int end ∷ []) rows (λ r. is_between first end (entry r)) entry old new refl (λ r. (refl, tt)) (λ r. refl) (passes_between first end shows) it.unchanged it.answer)
