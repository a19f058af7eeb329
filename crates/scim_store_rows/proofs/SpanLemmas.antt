-- The rows of the audit between two numbers.
use Rattle.std.proofs.Common.{◌≡◌, ℕ, zero, suc, ◌+◌, ◌-◌, ◌<◌, ◌≤◌, ◌⊎◌, inl, inr, pos, min, max, refl, sym, ap, subst, ◌∙◌, arith, true, false, Bool, ◌&&◌, List, [], ◌∷◌, filter, take, drop, length, lt→ltb, w64}
use Rattle.std.specs.Prelude.{IsPermutation, FitsSigned}
use Rattle.std.proofs.Math.Facts.{sfits_lit}
use Rattle.std.specs.List.{AllByRecursion}
use Rattle.std.specs.Cmp.{int_cmp_is}
use Rattle.std.specs.Ordering.{is_lt, is_ge, ordering_then}
use Rattle.std.specs.declared.cmp.Ordering.{Ordering}
use Rattle.std.specs.declared.cmp.Ordering.TheVariants.{Less, Equal, Greater}
use Rattle.std.proofs.lemmas.Bool.{cases_lt}
use Rattle.std.proofs.lemmas.List.{nil_from_length, take_all, length-take, length-drop}
use Rattle.std.proofs.lemmas.List.Sorted.{IsPermutation-trans, IsPermutation-sym}
use Rattle.sqlite_value.proofs.OrderLemmas.{value_cmp-Int}
use Rattle.sqlite.specs.declared.types.Value.TheVariants.{Int}
use Rattle.sqlite.specs.Order.{Row, value_cmp}
use Rattle.sqlite.specs.Tree.{IsAscending}
use Rattle.scim_audit.specs.declared.audit_rows.AuditRow.{AuditRow}
use Rattle.sqlite.specs.State.{State}
use Rattle.sqlite_trees.proofs.ListLemmas.{IsPermutation-filter}
use Rattle.scim_shelf.specs.Stores.{Store}
use Rattle.scim_store_tables.specs.Audit.{last_number}
use Rattle.scim_store_tables.specs.Reading.{Tells, HasTables, shown, columns_cmp, is_between}
use Rattle.scim_store_tables.proofs.Facts.{told_rising}
use Rattle.scim_store_rows.specs.Audit.{audit_row, audit_rows}
use Rattle.scim_store_rows.specs.Auditing.{TellsRows}
use Rattle.scim_store_rows.proofs.ReadLemmas.{length-audit_rows}
use Rattle.scim_store_rows.specs.Finding.{StandsIn}
use Rattle.scim_store_rows.specs.code.Spans.{IsSpan}

-- ---- numbers in order

less : (m n : ℕ) → m < n → value_cmp (Int (pos m)) (Int (pos n)) ≡ Less
less m n low = value_cmp-Int (pos m) (pos n) ∙ sym (int_cmp_is (pos m) (pos n) Less (record { lt = lt→ltb m n low }))

greater : (m n : ℕ) → n < m → value_cmp (Int (pos m)) (Int (pos n)) ≡ Greater
greater m n low = value_cmp-Int (pos m) (pos n) ∙ sym (int_cmp_is (pos m) (pos n) Greater (record { lt = lt→ltb n m low }))

equal : (m n : ℕ) → m ≡ n → value_cmp (Int (pos m)) (Int (pos n)) ≡ Equal
equal m n same = value_cmp-Int (pos m) (pos n) ∙ sym (int_cmp_is (pos m) (pos n) Equal (ap pos same))

at_least : (m n : ℕ) → n ≤ m → is_ge (value_cmp (Int (pos m)) (Int (pos n))) ≡ true
at_least m n high = go (cases_lt n m)
  where
    go : (n < m) ⊎ (m ≤ n) → is_ge (value_cmp (Int (pos m)) (Int (pos n))) ≡ true
    go (inl low) = ap is_ge (greater m n low)
    go (inr past) = ap is_ge (equal m n (let same : m ≡ n = omega (arith, high, past) in same))

not_below : (m n : ℕ) → n ≤ m → is_lt (value_cmp (Int (pos m)) (Int (pos n))) ≡ false
not_below m n high = go (cases_lt n m)
  where
    go : (n < m) ⊎ (m ≤ n) → is_lt (value_cmp (Int (pos m)) (Int (pos n))) ≡ false
    go (inl low) = ap is_lt (greater m n low)
    go (inr past) = ap is_lt (equal m n (let same : m ≡ n = omega (arith, high, past) in same))

and_false : (b : Bool) → (b && false) ≡ false
and_false true = refl
and_false false = refl

-- ---- the rows between two numbers

passes : (first end n : ℕ) (r : AuditRow) → first ≤ n → n < end → is_between (pos first) (pos end) (audit_row n r) ≡ true
passes first end n r from to = (λ i. at_least n first from i && ap is_lt (less n end to) i)

fails_before : (first end n : ℕ) (r : AuditRow) → n < first → is_between (pos first) (pos end) (audit_row n r) ≡ false
fails_before first end n r before = ap (λ o. is_ge o && is_lt (value_cmp (Int (pos n)) (Int (pos end)))) (less n first before)

fails_past : (first end n : ℕ) (r : AuditRow) → end ≤ n → is_between (pos first) (pos end) (audit_row n r) ≡ false
fails_past first end n r past = ap (λ b. is_ge (value_cmp (Int (pos n)) (Int (pos first))) && b) (not_below n end past) ∙ and_false _

none_past : (first end n : ℕ) (rs : List AuditRow) → end ≤ n → filter (is_between (pos first) (pos end)) (audit_rows n rs) ≡ []
none_past first end n [] past = refl
none_past first end n (r ∷ rs) past = rw (fails_past first end n r past) (none_past first end (n + 1) rs (omega (arith, past)))

some_within : (first end n k : ℕ) (rs : List AuditRow) → first ≤ n → end ≡ n + k → filter (is_between (pos first) (pos end)) (audit_rows n rs) ≡ take k (audit_rows n rs)
some_within first end n zero rs from is = none_past first end n rs (omega (arith, is))
some_within first end n (suc k) [] from is = refl
some_within first end n (suc k) (r ∷ rs) from is =
    rw (passes first end n r from (omega (arith, is))) (ap (λ (rows : List Row). audit_row n r ∷ rows) (some_within first end (n + 1) k rs (omega (arith, from)) (omega (arith, is))))

-- those between two numbers are so many behind the first
pub rows_between : (first end n j k : ℕ) (rs : List AuditRow) → first ≡ n + j → end ≡ first + k → filter (is_between (pos first) (pos end)) (audit_rows n rs) ≡ take k (drop j (audit_rows n rs))
rows_between first end n zero k rs begins ends = some_within first end n k rs (omega (arith, begins)) (omega (arith, begins, ends))
rows_between first end n (suc j) k [] begins ends = nothing k
  where
    nothing : (k : ℕ) → [] ≡ take k (let none : List Row = [] in none)
    nothing zero = refl
    nothing (suc k) = refl
rows_between first end n (suc j) k (r ∷ rs) begins ends =
    rw (fails_before first end n r (omega (arith, begins))) (rows_between first end (n + 1) j k rs (omega (arith, begins)) ends)

-- ---- rows with their numbers

pub drop-audit_rows : (n m j : ℕ) (rs : List AuditRow) → m ≡ n + j → drop j (audit_rows n rs) ≡ audit_rows m (drop j rs)
drop-audit_rows n m zero rs is = ap (λ k. audit_rows k rs) (let same : n ≡ m = omega (arith, is) in same)
drop-audit_rows n m (suc j) [] is = refl
drop-audit_rows n m (suc j) (r ∷ rs) is = drop-audit_rows (n + 1) m j rs (omega (arith, is))

pub take-audit_rows : (n k : ℕ) (rs : List AuditRow) → take k (audit_rows n rs) ≡ audit_rows n (take k rs)
take-audit_rows n zero rs = refl
take-audit_rows n (suc k) [] = refl
take-audit_rows n (suc k) (r ∷ rs) = ap (λ (rows : List Row). audit_row n r ∷ rows) (take-audit_rows (n + 1) k rs)

-- each row comes before those with higher numbers
above : (m n : ℕ) (r : AuditRow) (rs : List AuditRow) → m < n → AllByRecursion (λ row. columns_cmp (0 ∷ []) (audit_row m r) row ≡ Less) (audit_rows n rs)
above m n r [] low = tt
above m n r (s ∷ rs) low = (ap (λ (o : Ordering). ordering_then o Equal) (less m n low), above m (n + 1) r rs (omega (arith, low)))

pub rows_rise : (n : ℕ) (rs : List AuditRow) → IsAscending (λ a b. columns_cmp (0 ∷ []) a b ≡ Less) (audit_rows n rs)
rows_rise n [] = tt
rows_rise n (r ∷ rs) = (above n (n + 1) r rs (omega arith), rows_rise (n + 1) rs)

-- ---- the rows that are asked for

-- What is read of the rows between two numbers are those that are asked for, unless they reach the last number: then there may be more.
pub span_read : (from count first end : ℕ) (audit read : List AuditRow) (rows : List Row) → first ≡ min (max from 1) 9223372036854775806 → end ≡ min (max from 1 + count) last_number
    → rows ≡ filter (is_between (pos first) (pos end)) (audit_rows 1 audit) → audit_rows first read ≡ rows → (end ≡ last_number → first + length rows ≡ end → ⊥)
    → audit_rows (max from 1) read ≡ take count (drop (from - 1) (audit_rows 1 audit))
span_read from count first end audit read rows begins ends told reads apart =
    let kept : rows ≡ take (end - first) (drop (first - 1) (audit_rows 1 audit)) = told ∙ rows_between first end 1 (first - 1) (end - first) audit (omega (arith, begins)) (omega (arith, begins, ends)) in
    go (cases_lt end last_number) (cases_lt (max from 1) 9223372036854775807) kept
  where
    numbered : max from 1 ≡ first → audit_rows (max from 1) read ≡ rows
    numbered same = ap (λ n. audit_rows n read) same ∙ reads

    go : (end < last_number) ⊎ (last_number ≤ end) → (max from 1 < 9223372036854775807) ⊎ (9223372036854775807 ≤ max from 1) → rows ≡ take (end - first) (drop (first - 1) (audit_rows 1 audit))
        → audit_rows (max from 1) read ≡ take count (drop (from - 1) (audit_rows 1 audit))
    go (inl early) _ kept =
        let same : max from 1 ≡ first = omega (arith, begins, ends, early) in
        let many : end - first ≡ count = omega (arith, begins, ends, early) in
        let skipped : first - 1 ≡ from - 1 = omega (arith, begins, ends, early) in
        numbered same ∙ kept ∙ ap (λ k. take k (drop (first - 1) (audit_rows 1 audit))) many ∙ ap (λ j. take count (drop j (audit_rows 1 audit))) skipped
    go (inr late) within kept =
        let last : end ≡ last_number = omega (arith, ends, late) in
        let long : length rows ≡ min (end - first) (length (drop (first - 1) (audit_rows 1 audit))) = ap length kept ∙ length-take (end - first) (drop (first - 1) (audit_rows 1 audit)) in
        let short : length (drop (first - 1) (audit_rows 1 audit)) < end - first = omega (arith, long, apart last, begins, ends, last) in
        let all : rows ≡ drop (first - 1) (audit_rows 1 audit) = kept ∙ take_all (end - first) (drop (first - 1) (audit_rows 1 audit)) (omega (arith, short)) in
        whole within last short all
      where
        whole : (max from 1 < 9223372036854775807) ⊎ (9223372036854775807 ≤ max from 1) → end ≡ last_number → length (drop (first - 1) (audit_rows 1 audit)) < end - first → rows ≡ drop (first - 1) (audit_rows 1 audit)
            → audit_rows (max from 1) read ≡ take count (drop (from - 1) (audit_rows 1 audit))
        whole (inl low) last short all =
            let same : max from 1 ≡ first = omega (arith, begins, low) in
            let skipped : first - 1 ≡ from - 1 = omega (arith, begins, low) in
            let rest : length (drop (from - 1) (audit_rows 1 audit)) ≤ count = subst (λ j. length (drop j (audit_rows 1 audit)) ≤ count) skipped (omega (arith, short, begins, ends, low)) in
            numbered same ∙ all ∙ ap (λ j. drop j (audit_rows 1 audit)) skipped ∙ sym (take_all count (drop (from - 1) (audit_rows 1 audit)) rest)
        whole (inr high) last short all =
            let none : length (drop (first - 1) (audit_rows 1 audit)) ≡ 0 = omega (arith, short, begins, last, high) in
            let no_rows : length (audit_rows first read) ≡ 0 = ap length (reads ∙ all) ∙ none in
            let no_read : read ≡ [] = nil_from_length read (sym (length-audit_rows first read) ∙ no_rows) in
            let past : length (drop (from - 1) (audit_rows 1 audit)) ≡ 0 = length-drop (from - 1) (audit_rows 1 audit) ∙ (let z : length (audit_rows 1 audit) - (from - 1) ≡ 0 = omega (arith, none, length-drop (first - 1) (audit_rows 1 audit), begins, high) in z) in
            let nothing : drop (from - 1) (audit_rows 1 audit) ≡ [] = nil_from_length (drop (from - 1) (audit_rows 1 audit)) past in
            ap (audit_rows (max from 1)) no_read ∙ sym (ap (take count) nothing ∙ take_all count [] (omega arith))

-- a number is one of SQL
pub fits : (n : ℕ) → n ≤ last_number → FitsSigned w64 (pos n)
fits n low = sfits_lit {w = w64} {z = pos n} (lt→ltb n 9223372036854775808 (omega (arith, low)))

-- what a query between two numbers finds
abbrev pub TellsBetween : ℕ → ℕ → State → State → List Row → Type 0
TellsBetween first end old new rows = HasTables old → Tells (0 ∷ []) (filter (is_between (pos first) (pos end)) (shown old.now).audit) old new rows

pub tells_rows : (base : List ℕ) (from count first end : ℕ) (old new : State) (rows : List Row) (read : List AuditRow) (store : Store) → IsSpan from count first end → TellsBetween first end old new rows → audit_rows first read ≡ rows
    → (end ≡ last_number → first + length rows ≡ end → ⊥) → StandsIn base old store → TellsRows from count store old new read
tells_rows base from count first end old new rows read store span tells reads apart stands =
    let test = is_between (pos first) (pos end) in
    let told = tells (λ opened. (stands opened).tables.schema) in
    let s = stands told.unchanged.0.was_open in
    let kept : IsPermutation (filter test (audit_rows 1 store.audit)) rows = IsPermutation-trans _ _ _ (IsPermutation-filter test _ _ (IsPermutation-sym _ _ s.tables.audit)) told.same in
    let within = take (end - first) (drop (first - 1) store.audit) in
    let values : filter test (audit_rows 1 store.audit) ≡ audit_rows first within =
    rows_between first end 1 (first - 1) (end - first) store.audit (omega (arith, span.begins)) (omega (arith, span.begins, span.ends))
    ∙ ap (take (end - first)) (drop-audit_rows 1 first (first - 1) store.audit (omega (arith, span.begins)))
    ∙ take-audit_rows first (end - first) (drop (first - 1) store.audit) in
    let rising = subst (IsAscending (λ a b. columns_cmp (0 ∷ []) a b ≡ Less)) (sym values) (rows_rise first within) in
    let are : rows ≡ filter test (audit_rows 1 store.audit) = told_rising (0 ∷ []) (filter test (audit_rows 1 store.audit)) rows old new rising (record { unchanged = told.unchanged; same = kept; order = told.order }) in
    record { are = span_read from count first end store.audit read rows span.begins span.ends are reads apart; unchanged = told.unchanged }
