-- Windows of the audit, and the first fault in them.
use Rattle.std.proofs.Common.{◌≡◌, ℕ, suc, zero, ◌+◌, ◌<◌, ◌≤◌, ◌⊎◌, inl, inr, pos, sym, ap, subst, ◌∙◌, arith, true, false, Bool, cond, ◌&&◌, List, [], ◌∷◌, filter, Result, IfOk, OnErr, lt→ltb, w64}
use Rattle.std.specs.Prelude.{FitsSigned, Contains}
use Rattle.std.specs.Global.{Vec}
use Rattle.std.proofs.Math.Facts.{sfits_lit}
use Rattle.std.specs.Cmp.{int_cmp_is}
use Rattle.std.specs.Ordering.{is_lt, is_ge}
use Rattle.std.specs.declared.cmp.Ordering.TheVariants.{Less, Equal, Greater}
use Rattle.std.proofs.lemmas.Bool.{cases_lt}
use Rattle.std.proofs.lemmas.List.Elements.{All-filter, All-contains, All-contains_itself}
use Rattle.std.proofs.lemmas.List.Sorted.{IsPermutation-sym, Contains-permutation}
use Rattle.sqlite_value.proofs.OrderLemmas.{value_cmp-Int}
use Rattle.sqlite.specs.declared.error.Error.{Error}
use Rattle.sqlite.specs.declared.types.Value.TheVariants.{Int}
use Rattle.sqlite.specs.Order.{Row, column, value_cmp}
use Rattle.sqlite.specs.State.{State, HasCleanDisk}
use Rattle.scim_store_tables.specs.Audit.{last_number, number}
use Rattle.scim_store_tables.specs.Reading.{Rests, Spares, HasTables, Tells, shown, is_between}
use Rattle.scim_store_tables.specs.declared.versions.Version.TheVariants.{Two}
use Rattle.scim_store_tables.proofs.Facts.{if_then}
use Rattle.scim_store_causes.specs.Audit.{HasRow, HasEach}
use Rattle.scim_store_causes.specs.code.Looks.{Looks}
use Rattle.scim_store_causes.specs.code.Faults.{AreBetween, IsFaultFrom, IsFaultIn}
use Rattle.scim_store_causes.specs.declared.audit_causes.AuditFault.{AuditFault}
use Rattle.scim_store_causes.specs.declared.audit_causes.AuditFault.TheVariants.{Missing, Invalid}
use Rattle.scim_store_causes.proofs.LookLemmas.{shows_unchanged}

-- ---- numbers in order

less : (m n : ℕ) → m < n → value_cmp (Int (pos m)) (Int (pos n)) ≡ Less
less m n low = value_cmp-Int (pos m) (pos n) ∙ sym (int_cmp_is (pos m) (pos n) Less (record { lt = lt→ltb m n low }))

greater : (m n : ℕ) → n < m → value_cmp (Int (pos m)) (Int (pos n)) ≡ Greater
greater m n low = value_cmp-Int (pos m) (pos n) ∙ sym (int_cmp_is (pos m) (pos n) Greater (record { lt = lt→ltb n m low }))

equal : (m n : ℕ) → m ≡ n → value_cmp (Int (pos m)) (Int (pos n)) ≡ Equal
equal m n same = value_cmp-Int (pos m) (pos n) ∙ sym (int_cmp_is (pos m) (pos n) Equal (ap pos same))

at_least : (m n : ℕ) → n ≤ m → is_ge (value_cmp (Int (pos m)) (Int (pos n))) ≡ true
at_least m n high = go (cases_lt n m)
  where
    go : (n < m) ⊎ (m ≤ n) → is_ge (value_cmp (Int (pos m)) (Int (pos n))) ≡ true
    go (inl low) = ap is_ge (greater m n low)
    go (inr past) = ap is_ge (equal m n (let same : m ≡ n = omega (arith, high, past) in same))

-- a row with a number between the two passes
passes : (first end n : ℕ) (row : Row) → column row 0 ≡ number n → first ≤ n → n < end → is_between (pos first) (pos end) row ≡ true
passes first end n row at from to = rw at (λ i. at_least n first from i && ap is_lt (less n end to) i)

-- ---- the rows that pass a test

-- what is among the rows that pass is among all
filtered : {X : Type 0} (p : X → Bool) (xs : List X) (x : X) → Contains (filter p xs) x → Contains xs x
filtered p xs x within = All-contains (Contains xs) (filter p xs) x (All-filter p (Contains xs) xs (All-contains_itself xs)) within

behind : {X : Type 0} (x : X) (xs : List X) (y : X) → Contains xs y → Contains (x ∷ xs) y
behind x xs y (k, low, at) = (suc k, omega (arith, low), at)

-- what is among all and passes is among those that pass
passing : {X : Type 0} (p : X → Bool) (xs : List X) (y : X) → Contains xs y → p y ≡ true → Contains (filter p xs) y
passing p [] y (k, low, at) t = absurd (omega (arith, low))
passing p (x ∷ xs) y (zero, low, at) t = subst (λ b. Contains (cond b (x ∷ filter p xs) (filter p xs)) y) (sym (ap p at ∙ t)) (0, omega arith, at)
passing p (x ∷ xs) y (suc k, low, at) t = go (p x) (passing p xs y (k, omega (arith, low), at) t)
  where
    go : (b : Bool) → Contains (filter p xs) y → Contains (cond b (x ∷ filter p xs) (filter p xs)) y
    go true within = behind x (filter p xs) y within
    go false within = within

-- ---- a window

-- a number is one of SQL
pub fits : (n : ℕ) → n ≤ last_number → FitsSigned w64 (pos n)
fits n low = sfits_lit {w = w64} {z = pos n} (lt→ltb n 9223372036854775808 (omega (arith, low)))

-- What a query between two numbers tells.
abbrev pub TellsBetween : ℕ → ℕ → State → State → List Row → Type 0
TellsBetween first end old new rows = HasTables old → Tells (0 ∷ []) (filter (is_between (pos first) (pos end)) (shown old.now).audit) old new rows

told_between : (first end : ℕ) (old new : State) (rows : List Row) → Tells (0 ∷ []) (filter (is_between (pos first) (pos end)) (shown old.now).audit) old new rows → AreBetween first end (shown old.now).audit rows
told_between first end old new rows tells =
    let audit = (shown old.now).audit in
    let test = is_between (pos first) (pos end) in
    record {
      kept = λ row within. filtered test audit row (Contains-permutation rows (filter test audit) row (IsPermutation-sym _ _ tells.same) within);
      all = λ row n within at from to. Contains-permutation (filter test audit) rows row tells.same (passing test audit row within (passes first end n row at from to));
    }

pub window_looks : (first end : ℕ) (old new : State) (r : Result (Vec Row) Error) → (old.in_transaction ≡ false → new.in_transaction ≡ false) → Spares old new → (HasCleanDisk new → IfOk r (λ rows. TellsBetween first end old new rows.items)) → (HasCleanDisk new → OnErr r (Rests old new))
    → Looks Two (λ db rows. AreBetween first end (shown db).audit rows.items) old new r
window_looks first end old new r mode spares read rests = record {
  mode = mode;
  spares = spares;
  told = λ clean has. if_then r _ _ (λ rows tells. (let it = tells has in (shows_unchanged old new it.unchanged, told_between first end old new rows.items it))) (read clean);
  rests = λ clean has. rests clean;
}

-- ---- window by window

pub each_none : (rows : List Row) (first : ℕ) → HasEach rows first first
each_none rows first n from to = absurd (omega (arith, from, to))

kept_row : (first end : ℕ) (audit rows : List Row) (n : ℕ) → AreBetween first end audit rows → HasRow rows n → HasRow audit n
kept_row first end audit rows n between (row, within, at) = (row, between.kept row within, at)

pub each_more : (first end : ℕ) (audit rows : List Row) (n : ℕ) → HasEach audit 1 first → AreBetween first end audit rows → HasEach rows first n → HasEach audit 1 n
each_more first end audit rows n each between more m from to = go (cases_lt m first)
  where
    go : (m < first) ⊎ (first ≤ m) → HasRow audit m
    go (inl low) = each m from low
    go (inr high) = kept_row first end audit rows m between (more m high to)

pub fault_found : (first end : ℕ) (audit rows : List Row) (fault : AuditFault) → end ≡ first + 160 → HasEach audit 1 first → AreBetween first end audit rows → IsFaultFrom rows first fault → IsFaultIn audit fault
fault_found first end audit rows (Missing n) ends each between found = (each_more first end audit rows n each between found.2, λ has. found.3 (has.0, between.all has.0 n has.1 has.2 found.0 (omega (arith, found.1, ends)), has.2))
fault_found first end audit rows (Invalid n) ends each between (row, within, at, bad) = (row, between.kept row within, at, bad)

-- a later row of a window is one of the audit
pub later_found : (first end : ℕ) (audit rows : List Row) (n : ℕ) → AreBetween first end audit rows → (m : ℕ) × (n < m) × HasRow rows m → (m : ℕ) × (n < m) × HasRow audit m
later_found first end audit rows n between (m, above, has) = (m, above, kept_row first end audit rows m between has)
