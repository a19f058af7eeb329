-- No two rows of a table have the same key.
use Rattle.std.proofs.Common.{◌≡◌, ℕ, List, [], ◌∷◌, ◌&&◌, ◌||◌, not, Bool, true, false, Some, refl, sym, subst, ◌∙◌}
use Rattle.std.specs.List.{list_any, list_all, AllByRecursion}
use Rattle.std.specs.Ordering.{is_eq, is_ne}
use Rattle.std.specs.declared.cmp.Ordering.{Ordering}
use Rattle.std.specs.declared.cmp.Ordering.TheVariants.{Less, Equal, Greater}
use Rattle.std.proofs.lemmas.Map.Text.{is_eq-slice_cmp}
use Rattle.std.proofs.lemmas.Slice.Eq.{bytes_eq-Decides}
use Rattle.sqlite_value.specs.Keys.{plain, first_key}
use Rattle.sqlite_trees.proofs.ListLemmas.{all_weaker, all_both, all-permutation, ascending-map, ascending_weaker, pull_back}
use Rattle.sqlite_schema.specs.Rules.{agree, clashes, differ, equal, guards, passes, Keeps}
use Rattle.sqlite_schema.specs.declared.schema.Constraint.TheVariants.{Unique}
use Rattle.sqlite_schema.specs.declared.schema.Index.{Index}
use Rattle.sqlite.specs.Collation.TheVariants.{Binary}
use Rattle.sqlite.specs.declared.types.Value.{Value}
use Rattle.sqlite.specs.declared.types.Value.TheVariants.{Null, Int, Real, Text, Blob}
use Rattle.sqlite.specs.Effect.{Database, IsDatabase}
use Rattle.sqlite.specs.Ops.{binary, is_true, from_truth}
use Rattle.sqlite.specs.Order.{Row, column, value_cmp}
use Rattle.sqlite.specs.Table.{Table}
use Rattle.sqlite.specs.Tree.{Trees, IsAscending, rowid}
use Rattle.sqlite.specs.View.{is_int}
use Rattle.scim_store_tables.specs.Lists.{IsTableOf, triple}
use Rattle.scim_store_tables.specs.Tables.{store_schema, resource_table, taken_table}
use Rattle.scim_store_tables.proofs.KeyLemmas.{keyed_same}
use Rattle.scim_store_tables.proofs.RowidLemmas.{pairs}
use Rattle.scim_store_tables.proofs.SchemaLemmas.{indexes_are}
use Rattle.scim_store_tables.proofs.TestLemmas.{is_the_text}

-- ---- rows that agree

none_of : (test : Row → Bool) (rows : List Row) → list_any test rows ≡ false → AllByRecursion (λ r. test r ≡ false) rows
none_of test [] none = tt
none_of test (r ∷ rows) none = go (test r) refl none (none_of test rows)
  where
    go : (b : Bool) → test r ≡ b → (b || list_any test rows) ≡ false → (list_any test rows ≡ false → AllByRecursion (λ s. test s ≡ false) rows) → AllByRecursion (λ s. test s ≡ false) (r ∷ rows)
    go true e h rest = absurd cc
    go false e h rest = (e, rest h)

told_ne : (o : Ordering) → is_eq o ≡ false → is_true (from_truth (Some (is_ne o))) ≡ true
told_ne Less h = refl
told_ne Equal h = absurd cc
told_ne Greater h = refl

-- numbers that are apart differ
numbers_differ : (a b : Value) → is_int a ≡ true → is_int b ≡ true → is_eq (value_cmp a b) ≡ false → differ a b ≡ true
unfolding binary
numbers_differ (Int m) (Int n) one two apart = told_ne (value_cmp (Int m) (Int n)) apart
numbers_differ Null b one two apart = absurd cc
numbers_differ (Real x) b one two apart = absurd cc
numbers_differ (Text t) b one two apart = absurd cc
numbers_differ (Blob t) b one two apart = absurd cc
numbers_differ (Int m) Null one two apart = absurd cc
numbers_differ (Int m) (Real x) one two apart = absurd cc
numbers_differ (Int m) (Text t) one two apart = absurd cc
numbers_differ (Int m) (Blob t) one two apart = absurd cc

-- a row agrees with no other row at these places
module _ (places : List ℕ) where
  abbrev Differ : Row → Row → Type 0
  Differ a b = agree plain places a places b ≡ false

  abbrev NoOther : Row → Row → Type 0
  NoOther a b = (agree plain places a places b && differ (rowid a) (rowid b)) ≡ false

  differs : (a b : Row) → is_int (rowid a) ≡ true → is_int (rowid b) ≡ true → is_eq (value_cmp (rowid a) (rowid b)) ≡ false → NoOther a b → Differ a b
  differs a b one two apart none = left (agree plain places a places b) (differ (rowid a) (rowid b)) (numbers_differ (rowid a) (rowid b) one two apart) none
    where
      left : (x y : Bool) → y ≡ true → (x && y) ≡ false → x ≡ false
      left true true e h = h
      left true false e h = absurd cc
      left false y e h = refl

  each_differs : (rows : List Row) → AllByRecursion (λ r. is_int (rowid r) ≡ true) rows → AllByRecursion (λ b. AllByRecursion (λ a. NoOther a b) rows) rows → IsAscending (λ a b. is_eq (value_cmp (rowid a) (rowid b)) ≡ false) rows → IsAscending Differ rows
  each_differs [] keyed none apart = tt
  each_differs (r ∷ rows) keyed none apart = (
    all_both (λ s. (is_int (rowid s) ≡ true) × (is_eq (value_cmp (rowid r) (rowid s)) ≡ false)) (λ s. AllByRecursion (λ a. NoOther a s) (r ∷ rows)) (Differ r) (λ s both here. differs r s keyed.0 both.0 both.1 here.0) rows
        (all_both (λ s. is_int (rowid s) ≡ true) (λ s. is_eq (value_cmp (rowid r) (rowid s)) ≡ false) (λ s. (is_int (rowid s) ≡ true) × (is_eq (value_cmp (rowid r) (rowid s)) ≡ false)) (λ s one two. (one, two)) rows keyed.1 apart.0) none.1,
    each_differs rows keyed.1 (all_weaker (λ b. AllByRecursion (λ a. NoOther a b) (r ∷ rows)) (λ b. AllByRecursion (λ a. NoOther a b) rows) (λ b here. here.1) rows none.1) apart.1,
  )

  -- the rows as they are shown, in another order
  shown_differ : (shows : Row → Row) (R : Row → Row → Type 0) → ((a b : Row) → Differ a b → R (shows a) (shows b)) → (rows values : List Row) → IsTableOf shows rows values → AllByRecursion (λ b. clashes plain places rows b ≡ false) rows → IsAscending R values
  shown_differ shows R less rows values table none =
      let pulled = pull_back shows _ _ table.same rows refl in
      let keys = keyed_same rows pulled.0 pulled.1 table.keys in
      let others = all_weaker (λ b. clashes plain places rows b ≡ false) (λ b. AllByRecursion (λ a. NoOther a b) pulled.0) (λ b free. all-permutation (λ a. NoOther a b) rows pulled.0 pulled.1 (none_of (λ a. agree plain places a places b && differ (rowid a) (rowid b)) rows free)) rows none in
      let here = all-permutation (λ b. AllByRecursion (λ a. NoOther a b) pulled.0) rows pulled.0 pulled.1 others in
      subst (IsAscending R) (sym pulled.2) (ascending-map R shows pulled.0 (ascending_weaker Differ (λ a b. R (shows a) (shows b)) less pulled.0 (each_differs pulled.0 keys.keyed here (pairs (λ r. true) pulled.0 keys.keyed keys.once))))

-- ---- rows with the same texts agree

same_text : (a b : Value) (t : List ℕ) → a ≡ Text t → b ≡ Text t → equal (first_key plain).collation a b ≡ true
unfolding first_key
same_text a b t one two = (λ i. equal Binary (one i) (two i)) ∙ is_the_text (Text t) t ∙ is_eq-slice_cmp t t ∙ (bytes_eq-Decides t t).1 refl

both_true : (a b : Bool) → a ≡ true → b ≡ true → (a && b) ≡ true
both_true true b one two = two
both_true false b one two = absurd cc

-- two rows don't have the same text in the first column
abbrev pub HaveOwnText : Row → Row → Type 0
HaveOwnText a b = (t : List ℕ) → column a 0 ≡ Text t → column b 0 ≡ Text t → ⊥

-- two rows don't have the same texts in the first two columns
abbrev pub HaveOwnTexts : Row → Row → Type 0
HaveOwnTexts a b = (s t : List ℕ) → column a 0 ≡ Text s → column b 0 ≡ Text s → column a 1 ≡ Text t → column b 1 ≡ Text t → ⊥

own_text : (a b : Row) → Differ (1 ∷ []) a b → HaveOwnText (triple a) (triple b)
own_text a b differs t one two = (let same : agree plain (1 ∷ []) a (1 ∷ []) b ≡ true = both_true (equal (first_key plain).collation (column a 1) (column b 1)) true (same_text (column a 1) (column b 1) t one two) refl in let c : true ≡ false = sym same ∙ differs in cc)

own_texts : (a b : Row) → Differ (1 ∷ 2 ∷ []) a b → HaveOwnTexts (triple a) (triple b)
own_texts a b differs s t one two three four =
    (let last = both_true (equal (first_key plain).collation (column a 2) (column b 2)) true (same_text (column a 2) (column b 2) t three four) refl in
    let same : agree plain (1 ∷ 2 ∷ []) a (1 ∷ 2 ∷ []) b ≡ true = both_true (equal (first_key plain).collation (column a 1) (column b 1)) _ (same_text (column a 1) (column b 1) s one two) last in
    let c : true ≡ false = sym same ∙ differs in cc)

-- ---- the keys of the tables

last_true : (c : Bool) → (not c && true) ≡ true → c ≡ false
last_true true h = absurd cc
last_true false h = refl

module _ (db : Trees) where
  abbrev guarded : Table → ℕ → Row → Index → Bool
  guarded table tree row i = not (guards i (record table { tree = tree }) && clashes i.order i.columns (db tree) row)

  free_resource : (row : Row) → passes Unique store_schema db (record resource_table { tree = 2 }) row ≡ true → clashes plain (1 ∷ []) (db 2) row ≡ false
  free_resource row h = last_true (clashes plain (1 ∷ []) (db 2) row) (subst (λ is. list_all (guarded resource_table 2 row) is ≡ true) indexes_are h)

  free_name : (row : Row) → passes Unique store_schema db (record taken_table { tree = 4 }) row ≡ true → clashes plain (1 ∷ 2 ∷ []) (db 4) row ≡ false
  free_name row h = last_true (clashes plain (1 ∷ 2 ∷ []) (db 4) row) (subst (λ is. list_all (guarded taken_table 4 row) is ≡ true) indexes_are h)

  free_resources : Keeps Unique store_schema db → AllByRecursion (λ row. clashes plain (1 ∷ []) (db 2) row ≡ false) (db 2)
  free_resources keeps = all_weaker _ _ free_resource (db 2) keeps.1.0

  free_names : Keeps Unique store_schema db → AllByRecursion (λ row. clashes plain (1 ∷ 2 ∷ []) (db 4) row ≡ false) (db 4)
  free_names keeps = all_weaker _ _ free_name (db 4) keeps.1.1.0

keeps_unique : (db : Database) → db.schema ≡ store_schema → IsDatabase db → Keeps Unique store_schema db.trees
keeps_unique db has sound = subst (λ s. Keeps Unique s db.trees) has (sound.obeys.rules Unique)

-- no two resources have the same id
pub ids_once : (db : Database) (values : List Row) → db.schema ≡ store_schema → IsDatabase db → IsTableOf triple (db.trees 2) values → IsAscending HaveOwnText values
ids_once db values has sound table = shown_differ (1 ∷ []) triple HaveOwnText own_text (db.trees 2) values table (free_resources db.trees (keeps_unique db has sound))

-- no two unique names have the same attribute and text
pub names_once : (db : Database) (values : List Row) → db.schema ≡ store_schema → IsDatabase db → IsTableOf triple (db.trees 4) values → IsAscending HaveOwnTexts values
names_once db values has sound table = shown_differ (1 ∷ 2 ∷ []) triple HaveOwnTexts own_texts (db.trees 4) values table (free_names db.trees (keeps_unique db has sound))
