-- Keys that rise come once each.
use Rattle.std.proofs.Common.{◌≡◌, ℤ, ◌≤◌, List, [], ◌∷◌, map, filter, true, false, cond, length, refl, sym, ap, ◌∙◌, arith}
use Rattle.std.specs.Prelude.{IsPermutation}
use Rattle.std.specs.List.{AllByRecursion}
use Rattle.std.specs.Ordering.{is_eq, is_lt, ordering_reverse, ordering_then}
use Rattle.std.specs.declared.cmp.Ordering.{Ordering}
use Rattle.std.specs.declared.cmp.Ordering.TheVariants.{Less, Equal, Greater}
use Rattle.std.proofs.lemmas.List.{length-map}
use Rattle.std.proofs.lemmas.List.Sorted.{IsPermutation-sym, length_permutation}
use Rattle.sqlite_value.proofs.OrderLemmas.{value_cmp_total}
use Rattle.sqlite_trees.proofs.ListLemmas.{filter-map, filter_none, all_weaker, all-map, all-permutation, all_from_map, IsPermutation-filter}
use Rattle.sqlite.specs.declared.types.Value.{Value}
use Rattle.sqlite.specs.declared.types.Value.TheVariants.{Int}
use Rattle.sqlite.specs.Order.{Row, value_cmp}
use Rattle.sqlite.specs.Tree.{IsAscending, rowid, has_rowid}
use Rattle.scim_store_tables.specs.Lists.{AreKeyed}
use Rattle.scim_store_tables.specs.Reading.{DoNotFall}
use Rattle.scim_store_tables.specs.Whole.{AreInOrder}
use Rattle.scim_store_tables.specs.code.Keys.{AreRising, key_alone}
use Rattle.scim_store_tables.proofs.RowidLemmas.{pairs}

-- ---- keys in another order, and alone

pub keyed_same : (xs ys : List Row) → IsPermutation xs ys → AreKeyed xs → AreKeyed ys
keyed_same xs ys same keys = record {
  keyed = all-permutation _ _ _ same keys.keyed;
  once = λ id. (let len = length_permutation _ _ (IsPermutation-filter (has_rowid id) _ _ same) in let o = keys.once id in omega (arith, len, o));
}

alone_count : (id : ℤ) (table : List Row) → length (filter (has_rowid id) (map key_alone table)) ≡ length (filter (has_rowid id) table)
alone_count id table = ap length (filter-map (has_rowid id) key_alone table) ∙ length-map (filter (has_rowid id) table) key_alone

keyed_alone : (table : List Row) → AreKeyed table → AreKeyed (map key_alone table)
keyed_alone table keys = record {
  keyed = all-map _ key_alone table keys.keyed;
  once = λ id. (let len = alone_count id table in let o = keys.once id in omega (arith, len, o));
}

keyed_back : (table : List Row) → AreKeyed (map key_alone table) → AreKeyed table
keyed_back table keys = record {
  keyed = all_from_map _ key_alone table keys.keyed;
  once = λ id. (let len = alone_count id table in let o = keys.once id in omega (arith, len, o));
}

-- ---- keys in order

-- at most one of those that rise ties with one
few : (id : ℤ) (rows : List Row) → IsAscending (λ a b. value_cmp (rowid a) (rowid b) ≡ Less) rows → length (filter (has_rowid id) rows) ≤ 1
few id [] up = omega arith
few id (r ∷ rows) up = go (value_cmp (rowid r) (Int id)) refl (few id rows up.1)
  where
    go : (o : Ordering) → value_cmp (rowid r) (Int id) ≡ o → length (filter (has_rowid id) rows) ≤ 1 → length (cond (is_eq o) (r ∷ filter (has_rowid id) rows) (filter (has_rowid id) rows)) ≤ 1
    go Less e rest = rest
    go Greater e rest = rest
    go Equal e rest =
        let none : filter (has_rowid id) rows ≡ [] =
        filter_none _ rows (all_weaker _ _ (λ s h. ap is_eq (value_cmp_total.antisymm (rowid s) (Int id) ∙ ap ordering_reverse (sym (value_cmp_total.congr (rowid r) (Int id) (rowid s) e) ∙ h))) rows up.0) in
        rw none (omega arith)

rising_keyed : (rows : List Row) → AreRising rows → AreKeyed rows
rising_keyed rows up = record { keyed = up.numbers; once = λ id. few id rows up.rise }

-- what does not fall and is apart rises
strictly : (a b : Value) → is_lt (ordering_then (value_cmp b a) Equal) ≡ false → is_eq (value_cmp a b) ≡ false → value_cmp a b ≡ Less
strictly a b low apart = go (value_cmp a b) refl (sym (ap (λ o. is_lt (ordering_then o Equal)) (value_cmp_total.antisymm b a)) ∙ low) apart
  where
    go : (o : Ordering) → value_cmp a b ≡ o → is_lt (ordering_then (ordering_reverse o) Equal) ≡ false → is_eq o ≡ false → o ≡ Less
    go Less e low apart = refl
    go Equal e low apart = absurd cc
    go Greater e low apart = absurd cc

each_less : (r : Row) (rows : List Row) → AllByRecursion (λ s. is_lt (ordering_then (value_cmp (rowid s) (rowid r)) Equal) ≡ false) rows → AllByRecursion (λ s. is_eq (value_cmp (rowid r) (rowid s)) ≡ false) rows
    → AllByRecursion (λ s. value_cmp (rowid r) (rowid s) ≡ Less) rows
each_less r [] low apart = tt
each_less r (s ∷ rows) low apart = (strictly (rowid r) (rowid s) low.0 apart.0, each_less r rows low.1 apart.1)

rises : (rows : List Row) → DoNotFall (0 ∷ []) rows → IsAscending (λ r s. is_eq (value_cmp (rowid r) (rowid s)) ≡ false) rows → IsAscending (λ a b. value_cmp (rowid a) (rowid b) ≡ Less) rows
rises [] low apart = tt
rises (r ∷ rows) low apart = (each_less r rows low.0 apart.0, rises rows low.1 apart.1)

keyed_rising : (rows : List Row) → DoNotFall (0 ∷ []) rows → AreKeyed rows → AreRising rows
keyed_rising rows low keys = record { numbers = keys.keyed; rise = rises rows low (pairs (λ r. true) rows keys.keyed keys.once) }

-- keys that are read in order rise just where the table is keyed
pub keys_told : (table rows : List Row) → AreInOrder (0 ∷ []) (map key_alone table) rows → (AreRising rows → AreKeyed table) × (AreKeyed table → AreRising rows)
keys_told table rows are = (
  λ up. keyed_back table (keyed_same rows (map key_alone table) (IsPermutation-sym _ _ are.same) (rising_keyed rows up)),
  λ keys. keyed_rising rows are.order (keyed_same (map key_alone table) rows are.same (keyed_alone table keys)),
)
