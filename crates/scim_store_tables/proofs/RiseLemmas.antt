-- Keys that rise from one to the next rise.
use Rattle.std.proofs.Common.{◌≡◌, ℕ, ℤ, ◌+◌, ◌<◌, ◌≤◌, List, [], ◌∷◌, drop, take, length, get_or, ◌&&◌, Bool, true, false, Option, None, Some, refl, sym, ap, subst, ◌∙◌}
use Rattle.std.specs.List.{AllByRecursion}
use Rattle.std.specs.Ordering.{is_lt, int_cmp}
use Rattle.std.specs.declared.cmp.Ordering.{Ordering}
use Rattle.std.specs.declared.cmp.Ordering.TheVariants.{Less, Equal, Greater}
use Rattle.std.proofs.lemmas.List.{drop_more, drop_all, take_all}
use Rattle.sqlite_value.proofs.OrderLemmas.{value_cmp_total, value_cmp-Int}
use Rattle.sqlite_rules.proofs.TableLemmas.{int_is}
use Rattle.sqlite_trees.proofs.ListLemmas.{all_weaker}
use Rattle.sqlite.specs.declared.types.Value.TheVariants.{Int}
use Rattle.sqlite.specs.Edit.{id_in}
use Rattle.sqlite.specs.Order.{Row, value_cmp}
use Rattle.sqlite.specs.Tree.{IsAscending, rowid}
use Rattle.sqlite.specs.View.{is_int}
use Rattle.scim_store_tables.specs.code.Keys.{AreRising}
use Rattle.scim_store_tables.specs.code.Keys.{is_above, rise_from}

and_parts : (a b : Bool) → (a && b) ≡ true → (a ≡ true) × (b ≡ true)
and_parts true b h = (refl, h)
and_parts false b h = absurd cc

less : (o : Ordering) → is_lt o ≡ true → o ≡ Less
less Less h = refl
less Equal h = absurd cc
less Greater h = absurd cc

abbrev Ints : List Row → Type 0
Ints = AllByRecursion (λ r. is_int (rowid r) ≡ true)

abbrev Rise : List Row → Type 0
Rise = IsAscending (λ a b. value_cmp (rowid a) (rowid b) ≡ Less)

-- a key that is a number, compared with a number
against : (last : ℤ) (r : Row) → is_int (rowid r) ≡ true → value_cmp (Int last) (rowid r) ≡ int_cmp last (id_in (rowid r))
against last r int = ap (value_cmp (Int last)) (int_is (rowid r) int) ∙ value_cmp-Int last (id_in (rowid r))

above_all : (last : ℤ) (rows : List Row) → Ints rows → rise_from (Some last) rows ≡ true → AllByRecursion (λ s. value_cmp (Int last) (rowid s) ≡ Less) rows × Rise rows
above_all last [] ints h = (tt, tt)
above_all last (r ∷ rows) ints h =
    let parts = and_parts _ _ h in
    let rest = above_all (id_in (rowid r)) rows ints.1 parts.1 in
    let here : value_cmp (Int last) (rowid r) ≡ Less = against last r ints.0 ∙ less _ parts.0 in
    let own : AllByRecursion (λ s. value_cmp (rowid r) (rowid s) ≡ Less) rows = all_weaker _ _ (λ s e. ap (λ v. value_cmp v (rowid s)) (int_is (rowid r) ints.0) ∙ e) rows rest.0 in
    ((here, all_weaker _ _ (λ s e. value_cmp_total.trans (Int last) (rowid r) (rowid s) here e) rows own), (own, rest.1))

rise_from_none : (rows : List Row) → Ints rows → rise_from None rows ≡ true → Rise rows
rise_from_none [] ints h = tt
rise_from_none (r ∷ rows) ints h =
    let rest = above_all (id_in (rowid r)) rows ints.1 h in
    (all_weaker _ _ (λ s e. ap (λ v. value_cmp v (rowid s)) (int_is (rowid r) ints.0) ∙ e) rows rest.0, rest.1)

pub rising : (rows : List Row) → Ints rows → rise_from None rows ≡ true → AreRising rows
rising rows ints h = record { numbers = ints; rise = rise_from_none rows ints h }

back_from : (last : ℤ) (rows : List Row) → Ints rows → AllByRecursion (λ s. value_cmp (Int last) (rowid s) ≡ Less) rows → Rise rows → rise_from (Some last) rows ≡ true
back_from last [] ints above up = refl
back_from last (r ∷ rows) ints above up =
    let here : is_lt (int_cmp last (id_in (rowid r))) ≡ true = ap is_lt (sym (against last r ints.0) ∙ above.0) in
    let rest = back_from (id_in (rowid r)) rows ints.1 (all_weaker _ _ (λ s e. ap (λ v. value_cmp v (rowid s)) (sym (int_is (rowid r) ints.0)) ∙ e) rows up.0) up.1 in
    rw (here, rest)

pub rising_back : (rows : List Row) → AreRising rows → rise_from None rows ≡ true
rising_back [] up = refl
rising_back (r ∷ rows) up = back_from (id_in (rowid r)) rows up.numbers.1 (all_weaker _ _ (λ s e. ap (λ v. value_cmp v (rowid s)) (sym (int_is (rowid r) up.numbers.0)) ∙ e) rows up.rise.0) up.rise.1

-- the keys don't rise where one isn't above the one in front of it
pub not_rising : (rows : List Row) (i : ℕ) (row : Row) (last : Option ℤ) (key : ℤ) → i < length rows → row ≡ get_or rows i row → rise_from None rows ≡ rise_from last (drop i rows) → rowid row ≡ Int key → is_above last key ≡ false → ¬ AreRising rows
not_rising rows i row last key low is passed at above up =
    let all : true ≡ rise_from last (drop i rows) = sym (rising_back rows up) ∙ passed in
    let behind : drop i rows ≡ row ∷ drop (i + 1) rows = drop_more rows i row low ∙ ap (λ r. r ∷ drop (i + 1) rows) (sym is) in
    let here : is_above last (id_in (rowid row)) ≡ false = ap (λ v. is_above last (id_in v)) at ∙ above in
    let parts = and_parts _ _ (sym (all ∙ ap (rise_from last) behind)) in
    (let no : true ≡ false = sym parts.0 ∙ here in cc)

-- the keys rise where the loop has passed all
pub all_rise : (rows : List Row) (i : ℕ) (last : Option ℤ) → length rows ≤ i → rise_from None rows ≡ rise_from last (drop i rows) → AllByRecursion (λ r. is_int (rowid r) ≡ true) (take i rows) → AreRising rows
all_rise rows i last end passed ints = rising rows (subst Ints (take_all i rows end) ints) (passed ∙ ap (rise_from last) (drop_all i rows end))
