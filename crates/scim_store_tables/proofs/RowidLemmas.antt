-- Rows that are taken out by their rowids.
use Rattle.std.proofs.Common.{◌≡◌, ℤ, List, [], ◌∷◌, map, filter, not, ◌||◌, Bool, true, false, cond, length, ◌≤◌, arith, refl, sym, ap, subst, ◌∙◌}
use Rattle.std.specs.Prelude.{IsPermutation}
use Rattle.std.specs.List.{list_any, AllByRecursion}
use Rattle.std.specs.Ordering.{is_eq, ordering_reverse}
use Rattle.std.specs.declared.cmp.Ordering.{Ordering}
use Rattle.std.specs.declared.cmp.Ordering.TheVariants.{Less, Equal, Greater}
use Rattle.std.proofs.lemmas.Cmp.{tied_itself}
use Rattle.std.proofs.lemmas.List.Sorted.{list_any-IsPermutation}
use Rattle.sqlite_trees.proofs.ListLemmas.{filter_all, filter_same, all_weaker}
use Rattle.sqlite_value.proofs.OrderLemmas.{value_cmp_total}
use Rattle.sqlite_rules.proofs.TableLemmas.{int_is}
use Rattle.sqlite.specs.Edit.{without_all, id_in}
use Rattle.sqlite.specs.Order.{Row, value_cmp}
use Rattle.sqlite.specs.Tree.{rowid, has_rowid, without_rowid, IsAscending}
use Rattle.sqlite.specs.View.{is_int}
use Rattle.scim_store_tables.specs.Lists.{AreKeyed}

-- a rowid among those of the rows that pass belongs to a row that passes
module _ (test : Row → Bool) where
  abbrev id_of : Row → ℤ
  id_of r = id_in (rowid r)

  all_true : (rows : List Row) → AllByRecursion (λ (r : Row). true ≡ true) rows
  all_true [] = tt
  all_true (r ∷ rows) = (refl, all_true rows)

  filter_twice : (a b : Row → Bool) (rows : List Row) → filter (λ r. not (b r)) (filter (λ r. not (a r)) rows) ≡ filter (λ r. not (a r || b r)) rows
  filter_twice a b [] = refl
  filter_twice a b (r ∷ rows) = go (a r) (b r) refl (filter_twice a b rows)
    where
      go : (x y : Bool) → b r ≡ y → filter (λ r. not (b r)) (filter (λ r. not (a r)) rows) ≡ filter (λ r. not (a r || b r)) rows
          → filter (λ r. not (b r)) (cond (not x) (r ∷ filter (λ r. not (a r)) rows) (filter (λ r. not (a r)) rows)) ≡ cond (not (x || b r)) (r ∷ filter (λ r. not (a r || b r)) rows) (filter (λ r. not (a r || b r)) rows)
      go true y e more = more
      go false true e more = rw (e, more)
      go false false e more = rw (e, more)

  -- taking out each of the ids takes out the rows that have one of them
  without_each : (ids : List ℤ) (rows : List Row) → without_all rows ids ≡ filter (λ r. not (list_any (λ id. has_rowid id r) ids)) rows
  without_each [] rows = sym (filter_all (λ r. true) rows (all_true rows))
  without_each (id ∷ ids) rows = without_each ids (without_rowid id rows) ∙ filter_twice (has_rowid id) (λ r. list_any (λ id. has_rowid id r) ids) rows

  pub turned : (o : Ordering) → is_eq (ordering_reverse o) ≡ is_eq o
  turned Less = refl
  turned Equal = refl
  turned Greater = refl

  -- two rows with different rowids
  abbrev pub Apart : Row → Row → Type 0
  Apart r s = is_eq (value_cmp (rowid r) (rowid s)) ≡ false

  apart : (r s : Row) → is_int (rowid s) ≡ true → Apart r s → has_rowid (id_of s) r ≡ false
  apart r s int differ = ap (λ v. is_eq (value_cmp (rowid r) v)) (sym (int_is (rowid s) int)) ∙ differ

  apart_back : (r s : Row) → is_int (rowid r) ≡ true → Apart r s → has_rowid (id_of r) s ≡ false
  apart_back r s int differ = ap (λ v. is_eq (value_cmp (rowid s) v)) (sym (int_is (rowid r) int)) ∙ ap is_eq (value_cmp_total.antisymm (rowid s) (rowid r)) ∙ turned (value_cmp (rowid r) (rowid s)) ∙ differ

  apart_from : (r s : Row) → is_int (rowid r) ≡ true → has_rowid (id_of r) s ≡ false → Apart r s
  apart_from r s int other = sym (turned (value_cmp (rowid r) (rowid s))) ∙ sym (ap is_eq (value_cmp_total.antisymm (rowid s) (rowid r))) ∙ ap (λ v. is_eq (value_cmp (rowid s) v)) (int_is (rowid r) int) ∙ other

  itself : (r : Row) → is_int (rowid r) ≡ true → has_rowid (id_of r) r ≡ true
  itself r int = ap (λ v. is_eq (value_cmp (rowid r) v)) (sym (int_is (rowid r) int)) ∙ ap is_eq (tied_itself value_cmp_total (rowid r))

  fewer : (b : Bool) (r : Row) (rows : List Row) → length (cond b (r ∷ rows) rows) ≤ 1 → length rows ≤ 1
  fewer true r rows h = omega arith
  fewer false r rows h = h

  none_left : (p : Row → Bool) (rows : List Row) → length (filter p rows) ≡ 0 → AllByRecursion (λ s. p s ≡ false) rows
  none_left p [] h = tt
  none_left p (s ∷ rows) h = go (p s) refl (none_left p rows) h
    where
      go : (b : Bool) → p s ≡ b → (length (filter p rows) ≡ 0 → AllByRecursion (λ s. p s ≡ false) rows) → length (cond b (s ∷ filter p rows) (filter p rows)) ≡ 0 → AllByRecursion (λ s. p s ≡ false) (s ∷ rows)
      go true e rest h = absurd (omega arith)
      go false e rest h = (e, rest h)

  -- where no rowid comes twice, any two rows are apart
  pub pairs : (rows : List Row) → AllByRecursion (λ r. is_int (rowid r) ≡ true) rows → ((id : ℤ) → length (filter (has_rowid id) rows) ≤ 1) → IsAscending Apart rows
  pairs [] keyed once = tt
  pairs (r ∷ rows) keyed once =
      let here : length (cond (has_rowid (id_of r) r) (r ∷ filter (has_rowid (id_of r)) rows) (filter (has_rowid (id_of r)) rows)) ≤ 1 = once (id_of r) in
      let more : length (r ∷ filter (has_rowid (id_of r)) rows) ≤ 1 = subst (λ b. length (cond b (r ∷ filter (has_rowid (id_of r)) rows) (filter (has_rowid (id_of r)) rows)) ≤ 1) (itself r keyed.0) here in
      let none : length (filter (has_rowid (id_of r)) rows) ≡ 0 = omega arith in
      (all_weaker _ _ (λ s other. apart_from r s keyed.0 other) rows (none_left (has_rowid (id_of r)) rows none), pairs rows keyed.1 (λ id. fewer (has_rowid id r) r (filter (has_rowid id) rows) (once id)))

  none_above : (r : Row) (rows : List Row) → AllByRecursion (Apart r) rows → AllByRecursion (λ r. is_int (rowid r) ≡ true) rows → list_any (λ id. has_rowid id r) (map id_of (filter test rows)) ≡ false
  none_above r [] above keyed = refl
  none_above r (s ∷ rows) above keyed =
      elim (test s) as (λ b. list_any (λ id. has_rowid id r) (map id_of (cond b (s ∷ filter test rows) (filter test rows))) ≡ false)
      [ true ↦ rw (apart r s keyed.0 above.0, none_above r rows above.1 keyed.1) | false ↦ none_above r rows above.1 keyed.1 ]

  more_ids : (r : Row) (rows all : List Row) → is_int (rowid r) ≡ true → AllByRecursion (Apart r) all → AllByRecursion (λ s. list_any (λ id. has_rowid id s) (map id_of (filter test rows)) ≡ test s) all
      → AllByRecursion (λ s. list_any (λ id. has_rowid id s) (map id_of (filter test (r ∷ rows))) ≡ test s) all
  more_ids r rows [] int above own = tt
  more_ids r rows (s ∷ all) int above own =
      let here = elim (test r) as (λ b. list_any (λ id. has_rowid id s) (map id_of (cond b (r ∷ filter test rows) (filter test rows))) ≡ test s)
      [ true ↦ rw (apart_back r s int above.0, own.0) | false ↦ own.0 ] in
      (here, more_ids r rows all int above.1 own.1)

  -- in a table the ids of the rows that pass are on these alone
  own_ids : (rows : List Row) → IsAscending Apart rows → AllByRecursion (λ r. is_int (rowid r) ≡ true) rows → AllByRecursion (λ r. list_any (λ id. has_rowid id r) (map id_of (filter test rows)) ≡ test r) rows
  own_ids [] table keyed = tt
  own_ids (r ∷ rows) table keyed =
      let here = elim (test r) as (λ b. list_any (λ id. has_rowid id r) (map id_of (cond b (r ∷ filter test rows) (filter test rows))) ≡ b)
      [ true ↦ rw (itself r keyed.0) | false ↦ none_above r rows table.0 keyed.1 ] in
      (here, more_ids r rows rows keyed.0 table.0 (own_ids rows table.1 keyed.1))

  pub without_found : (rows : List Row) (ids : List ℤ) → AreKeyed rows → IsPermutation (map id_of (filter test rows)) ids → without_all rows ids ≡ filter (λ r. not (test r)) rows
  without_found rows ids keys same =
      let each : (r : Row) → list_any (λ id. has_rowid id r) ids ≡ list_any (λ id. has_rowid id r) (map id_of (filter test rows)) = λ r. sym (list_any-IsPermutation (λ id. has_rowid id r) _ _ same) in
      without_each ids rows ∙ filter_same (λ r. not (list_any (λ id. has_rowid id r) ids)) (λ r. not (test r)) rows (all_weaker _ _ (λ r e. ap not (each r ∙ e)) rows (own_ids rows (pairs rows keys.keyed keys.once) keys.keyed))
