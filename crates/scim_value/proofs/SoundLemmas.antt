-- Rows in order of unit.
use Rattle.std.proofs.Common.{◌≡◌, ℕ, zero, suc, ◌+◌, ◌≤◌, ◌<◌, refl, sym, ◌∙◌, ap, subst, Bool, true, false, ◌&&◌, ◌||◌, arith, List, [], ◌∷◌, ◌++◌, append_assoc, map, filter, inl, inr, length, length-drop, get_or, drop, take}
use Rattle.std.specs.Prelude.{All, AllPairs, not}
use Rattle.std.specs.List.{list_any}
use Rattle.std.specs.List.Sorted.{IsPartitionedBy, IsPartitionPoint}
use Rattle.std.proofs.lemmas.Bool.{cases_Bool}
use Rattle.std.proofs.lemmas.List.{get_or-drop}
use Rattle.std.proofs.lemmas.List.Elements.{All-head, All-tail, All-filter, All-map, All-weaker, All-append, filter_passes}
use Rattle.std.proofs.lemmas.List.Kept.{AllPairs-filter, AllPairs-cons}
use Rattle.std.proofs.Math.Seq.{take-append-add, take-append_seam, drop-append-add, drop-append_seam}
use Rattle.std.specs.declared.cmp.Ordering.{Ordering}
use Rattle.std.specs.declared.cmp.Ordering.TheVariants.{Less, Equal, Greater}
use Rattle.std.specs.Ordering.{is_lt, is_eq, is_gt, ordering_reverse}
use Rattle.std.specs.Cmp.{tied_itself, upto}
use Rattle.scim_schema.specs.declared.Kind.{Kind}
use Rattle.scim_schema.specs.Characteristics.{is_multi_valued}
use Rattle.scim_schema.specs.declared.Leaf.{Leaf}
use Rattle.scim_schema.specs.declared.Unit.{Unit as AttributeUnit}
use Rattle.scim_cell.specs.Place.{unit_cmp}
use Rattle.scim_cell.proofs.Facts.{PartsRise}
use Rattle.scim_value.proofs.OrderLemmas.{unit_total}
use Rattle.scim_cell.specs.declared.rows.Field.{Field}
use Rattle.scim_cell.specs.Rows.{Row, has_fields, restricted_row, restricted, IsSoundField, IsSoundRow, Precedes, AreSound, AreValues, put_values}

abbrev pub NotAfter : Row → Row → Type 0
NotAfter r s = is_gt (unit_cmp r.unit s.unit) ≡ false

abbrev pub Before : Row → Row → Type 0
Before r s = Precedes r.unit s.unit

pub not_after : (rs : List Row) → AllPairs Before rs → AllPairs NotAfter rs
not_after rs h i j d l m = (h i j d l m).0

tail_pairs : (P : Row → Row → Type 0) (r : Row) (rs : List Row) → AllPairs P (r ∷ rs) → AllPairs P rs
tail_pairs P r rs h i j d l m = h (suc i) (suc j) d (omega arith) (omega arith)

head_pairs : (P : Row → Row → Type 0) (r : Row) (rs : List Row) → AllPairs P (r ∷ rs) → All (P r) rs
head_pairs P r rs h k d l = h zero (suc k) d (omega arith) (omega arith)

map_pairs : (keep : Row → Leaf → Bool) (rs : List Row) → AllPairs Before rs → AllPairs Before (map (restricted_row keep) rs)
map_pairs keep [] h = λ i j d l m. absurd (omega arith)
map_pairs keep (r ∷ rs) h =
    AllPairs-cons Before (restricted_row keep r) (map (restricted_row keep) rs)
    (All-map (Before (restricted_row keep r)) (restricted_row keep) rs (head_pairs Before r rs h)) (map_pairs keep rs (tail_pairs Before r rs h))

-- what is left is sound
pub restricted_sound : (kind : Kind) (keep : Row → Leaf → Bool) (rs : List Row) → AreSound kind rs → AreSound kind (restricted keep rs)
restricted_sound kind keep rs h =
    let own : All (λ r. IsSoundRow kind (restricted_row keep r)) rs = All-weaker (IsSoundRow kind) (λ r. IsSoundRow kind (restricted_row keep r))
    (λ r a. record { own = All-filter (λ (c : Field). keep r c.leaf) (IsSoundField kind r.unit) r.fields a.own; in_order = AllPairs-filter PartsRise (λ (c : Field). keep r c.leaf) r.fields a.in_order }) rs h.own in
    record {
      full = filter_passes has_fields (map (restricted_row keep) rs);
      own = All-filter has_fields (IsSoundRow kind) (map (restricted_row keep) rs) (All-map (IsSoundRow kind) (restricted_row keep) rs own);
      in_order = AllPairs-filter Before has_fields (map (restricted_row keep) rs) (map_pairs keep rs h.in_order);
    }

pub rises : (rs : List Row) → AllPairs NotAfter rs → (i j : ℕ) (d : Row) → i ≤ j → j < length rs → NotAfter (get_or rs i d) (get_or rs j d)
rises [] h i j d le l = absurd (omega arith)
rises (r ∷ rs) h zero zero d le l = ap is_gt (tied_itself unit_total r.unit)
rises (r ∷ rs) h zero (suc j) d le l = h zero (suc j) d (omega arith) l
rises (r ∷ rs) h (suc i) zero d le l = absurd (omega arith)
rises (r ∷ rs) h (suc i) (suc j) d le l = rises rs (tail_pairs NotAfter r rs h) i j d (omega arith) (omega arith)

less : (o : Ordering) → is_lt o ≡ true → o ≡ Less
less Less e = refl
less Equal e = cc
less Greater e = cc

lt_back : (a b u : AttributeUnit) (o : Ordering) → unit_cmp a b ≡ o → is_gt o ≡ false → is_lt (unit_cmp b u) ≡ true → is_lt (unit_cmp a u) ≡ true
lt_back a b u Less e n l = ap is_lt (unit_total.trans a b u e (less _ l))
lt_back a b u Equal e n l = ap is_lt (unit_total.congr a b u e) ∙ l
lt_back a b u Greater e n l = cc

pub not_flip : (b : Bool) → not b ≡ true → b ≡ false
not_flip true e = cc
not_flip false e = refl

pub partitioned_lt : (u : AttributeUnit) (rs : List Row) → AllPairs NotAfter rs → IsPartitionedBy (λ (r : Row). is_lt (unit_cmp r.unit u)) rs
partitioned_lt u rs h i j d le l t = lt_back _ _ u _ refl (rises rs h i j d le l) t

pub partitioned_le : (u : AttributeUnit) (rs : List Row) → AllPairs NotAfter rs → IsPartitionedBy (λ (r : Row). not (is_gt (unit_cmp r.unit u))) rs
partitioned_le u rs h i j d le l t = ap not (upto unit_total _ _ u (rises rs h i j d le l) (not_flip _ t))

pub partitioned_drop : {X : Type 0} (p : X → Bool) (xs : List X) (n : ℕ) → IsPartitionedBy p xs → IsPartitionedBy p (drop n xs)
partitioned_drop p xs n h i j d le l t =
    let m : n + j < length xs = omega (arith, length-drop n xs, l) in
    rw get_or-drop (h (n + i) (n + j) d (omega arith) m (rw get_or-drop at t))

-- a list parted at a point
pub parted : {X : Type 0} (p : X → Bool) (xs : List X) (i : ℕ) → i ≤ length xs → IsPartitionPoint (λ y. p y ≡ true) (λ y. p y ≡ false) xs i
    → (take i xs ≡ filter p xs) × (drop i xs ≡ filter (λ y. not (p y)) xs)
parted p [] zero l h = (refl, refl)
parted p [] (suc i) l h = absurd (omega arith)
parted p (c ∷ cs) zero l h =
    let own : p c ≡ false = h.1 zero c (omega arith) (omega arith) in
    let rest = parted p cs zero (omega arith) ((λ k d a b. absurd (omega arith)), (λ k d a b. h.1 (suc k) d (omega arith) (omega arith))) in
    rw own (rest.0, ap (λ ys. c ∷ ys) rest.1)
parted p (c ∷ cs) (suc i) l h =
    let own : p c ≡ true = h.0 zero c (omega arith) (omega arith) in
    let rest = parted p cs i (omega arith) ((λ k d a b. h.0 (suc k) d (omega arith) (omega arith)), (λ k d a b. h.1 (suc k) d (omega arith) (omega arith))) in
    rw own (ap (λ ys. c ∷ ys) rest.0, rest.1)

back_false : (b c : Bool) → (b ≡ true → c ≡ true) → c ≡ false → b ≡ false
back_false true c f n = let t : c ≡ true = f refl in cc
back_false false c f n = refl

-- where the first fails, none passes
pub point_zero : {X : Type 0} (p : X → Bool) (xs : List X) → IsPartitionedBy p xs → ((d : X) → 0 < length xs → p (get_or xs 0 d) ≡ false) → IsPartitionPoint (λ y. p y ≡ true) (λ y. p y ≡ false) xs 0
point_zero p xs h n = ((λ k d x y. absurd (omega arith)), (λ k d x y. back_false (p (get_or xs k d)) (p (get_or xs 0 d)) (h zero k d (omega arith) y) (n d (omega (arith, y)))))

-- `x || false` is false
pub no_other : (b : Bool) → b || false ≡ false → b ≡ false
no_other true e = e
no_other false e = refl

beyond : (o : Ordering) → not (is_lt o) ≡ true → is_eq o ≡ false → not (is_gt o) ≡ false
beyond Less l e = cc
beyond Equal l e = cc
beyond Greater l e = refl

-- the first row that is left, of another unit, stands after the unit
pub first_after : (u : AttributeUnit) (rs rest : List Row) (i : ℕ) → rest ≡ drop i rs → i ≤ length rs
    → IsPartitionPoint (λ (y : Row). is_lt (unit_cmp y.unit u) ≡ true) (λ (y : Row). is_lt (unit_cmp y.unit u) ≡ false) rs i
    → list_any (λ (r : Row). is_eq (unit_cmp r.unit u)) (take 1 rest) ≡ false → (d : Row) → 0 < length rest → not (is_gt (unit_cmp (get_or rest 0 d).unit u)) ≡ false
first_after u rs [] i e l p n d m = absurd (omega (arith, m))
first_after u rs (r ∷ rest) i e l p n d m =
    let kept : All (λ (y : Row). not (is_lt (unit_cmp y.unit u)) ≡ true) (r ∷ rest)
    = subst (All (λ (y : Row). not (is_lt (unit_cmp y.unit u)) ≡ true)) (sym (e ∙ (parted (λ (y : Row). is_lt (unit_cmp y.unit u)) rs i l p).1)) (filter_passes (λ (y : Row). not (is_lt (unit_cmp y.unit u))) rs) in
    beyond (unit_cmp r.unit u) (All-head (λ (y : Row). not (is_lt (unit_cmp y.unit u)) ≡ true) r rest kept) (no_other _ n)

pub filter_filter : {X : Type 0} (p q r : X → Bool) → ((c : X) → r c ≡ p c && q c) → (xs : List X) → filter q (filter p xs) ≡ filter r xs
filter_filter p q r h [] = refl
filter_filter p q r h (c ∷ cs) =
    let ih = filter_filter p q r h cs in
    elim (cases_Bool (p c)) [
      | inl t ↦ elim (cases_Bool (q c)) [
        | inl v ↦ let w : r c ≡ true = rw (h c, t, v) refl in rw (t, v, w) (ap (λ ys. c ∷ ys) ih)
        | inr v ↦ let w : r c ≡ false = rw (h c, t, v) refl in rw (t, v, w) ih
      ]
      | inr t ↦ let w : r c ≡ false = rw (h c, t) refl in rw (t, w) ih
    ]

eq_both : (o : Ordering) → is_eq o ≡ not (is_lt o) && not (is_gt o)
eq_both Less = refl
eq_both Equal = refl
eq_both Greater = refl

gt_both : (o : Ordering) → is_gt o ≡ not (is_lt o) && not (not (is_gt o))
gt_both Less = refl
gt_both Equal = refl
gt_both Greater = refl

module _ (u : AttributeUnit) where
  abbrev pub side : Row → Ordering
  side r = unit_cmp r.unit u

  pub split_rows : (rs before rest own later : List Row) (i j : ℕ) → before ≡ take i rs → rest ≡ drop i rs → own ≡ take j rest → later ≡ drop j rest
      → i ≤ length rs → j ≤ length rest
      → IsPartitionPoint (λ y. is_lt (side y) ≡ true) (λ y. is_lt (side y) ≡ false) rs i
      → IsPartitionPoint (λ y. not (is_gt (side y)) ≡ true) (λ y. not (is_gt (side y)) ≡ false) rest j
      → (before ≡ filter (λ (r : Row). is_lt (unit_cmp r.unit u)) rs) × (own ≡ filter (λ (r : Row). is_eq (unit_cmp r.unit u)) rs) × (later ≡ filter (λ (r : Row). is_gt (unit_cmp r.unit u)) rs)
  split_rows rs before rest own later i j eb er eo el li lj pi pj =
      let first = parted (λ y. is_lt (side y)) rs i li pi in
      let second = parted (λ y. not (is_gt (side y))) rest j lj pj in
      let back = er ∙ first.1 in (
        eb ∙ first.0,
        eo ∙ second.0 ∙ ap (filter (λ y. not (is_gt (side y)))) back ∙ filter_filter (λ y. not (is_lt (side y))) (λ y. not (is_gt (side y))) (λ y. is_eq (side y)) (λ y. eq_both (side y)) rs,
        el ∙ second.1 ∙ ap (filter (λ y. not (not (is_gt (side y))))) back ∙ filter_filter (λ y. not (is_lt (side y))) (λ y. not (not (is_gt (side y)))) (λ y. is_gt (side y)) (λ y. gt_both (side y)) rs,
      )

-- two lists in order, one after another
pub pairs_append : (xs ys : List Row) → AllPairs Before xs → AllPairs Before ys → All (λ x. All (Before x) ys) xs → AllPairs Before (xs ++ ys)
pairs_append [] ys a b c = b
pairs_append (x ∷ xs) ys a b c =
    AllPairs-cons Before x (xs ++ ys) (All-append (Before x) xs ys (head_pairs Before x xs a) (All-head (λ z. All (Before z) ys) x xs c))
    (pairs_append xs ys (tail_pairs Before x xs a) b (All-tail (λ z. All (Before z) ys) x xs c))

pub across : (P Q : Row → Type 0) → ((r s : Row) → P r → Q s → Before r s) → (xs ys : List Row) → All P xs → All Q ys → All (λ x. All (Before x) ys) xs
across P Q f xs ys a b = All-weaker P (λ x. All (Before x) ys) (λ x p. All-weaker Q (Before x) (λ y q. f x y p q) ys b) xs a

lt_not_gt : (o : Ordering) → is_lt o ≡ true → is_gt o ≡ false
lt_not_gt Less e = refl
lt_not_gt Equal e = cc
lt_not_gt Greater e = cc

turned : (o : Ordering) → is_gt o ≡ true → is_lt (ordering_reverse o) ≡ true
turned Less e = cc
turned Equal e = cc
turned Greater e = refl

lt_not_eq : (o : Ordering) (b : Bool) → is_lt o ≡ true → is_eq o ≡ true → b ≡ true
lt_not_eq Less b l e = cc
lt_not_eq Equal b l e = cc
lt_not_eq Greater b l e = cc

pub precedes_less : (u v : AttributeUnit) → is_lt (unit_cmp u v) ≡ true → Precedes u v
precedes_less u v l = (lt_not_gt _ l, λ e. lt_not_eq _ _ l e)

-- values of a unit put in are sound
pub put_sound : (kind : Kind) (u : AttributeUnit) (vs rs : List Row) → AreValues kind u vs → AreSound kind rs → AreSound kind (put_values u vs rs)
put_sound kind u vs rs v h =
    let fit = v.few in
    let a = v.own in
    let before = filter (λ (r : Row). is_lt (unit_cmp r.unit u)) rs in
    let later = filter (λ (r : Row). is_gt (unit_cmp r.unit u)) rs in
    let lows : All (λ r. is_lt (unit_cmp r.unit u) ≡ true) before = filter_passes (λ (r : Row). is_lt (unit_cmp r.unit u)) rs in
    let highs : All (λ r. is_gt (unit_cmp r.unit u) ≡ true) later = filter_passes (λ (r : Row). is_gt (unit_cmp r.unit u)) rs in
    let owns : All (λ r. r.unit ≡ u) vs = All-weaker (λ r. (r.unit ≡ u) × (has_fields r ≡ true) × IsSoundRow kind r) (λ r. r.unit ≡ u) (λ r p. p.0) vs a in
    let not_up : (r s : Row) → r.unit ≡ u → is_gt (unit_cmp s.unit u) ≡ true → Before r s
    = λ r s e g. subst (λ (v : AttributeUnit). Precedes v s.unit) (sym e) (precedes_less u s.unit (ap is_lt (unit_total.antisymm u s.unit) ∙ turned _ g)) in
    let low_own : (r s : Row) → is_lt (unit_cmp r.unit u) ≡ true → s.unit ≡ u → Before r s
    = λ r s l e. precedes_less r.unit s.unit (ap (λ v. is_lt (unit_cmp r.unit v)) e ∙ l) in
    let low_up : (r s : Row) → is_lt (unit_cmp r.unit u) ≡ true → is_gt (unit_cmp s.unit u) ≡ true → Before r s
    = λ r s l g. precedes_less r.unit s.unit (lt_back r.unit u s.unit _ refl (lt_not_gt _ l) (ap is_lt (unit_total.antisymm u s.unit) ∙ turned _ g)) in
    let tied : is_multi_valued u.attribute ≡ true → (r s : Row) → r.unit ≡ u → s.unit ≡ u → Before r s
    = λ many r s e f. ((λ i. is_gt (unit_cmp (e i) (f i))) ∙ ap is_gt (tied_itself unit_total u), λ t. ap (λ (v : AttributeUnit). is_multi_valued v.attribute) e ∙ many) in
    let own_order : AllPairs Before vs = λ i j d l m. elim fit [
      | inl many ↦ tied many (get_or vs i d) (get_or vs j d) (owns i d (omega arith)) (owns j d m)
      | inr few ↦ absurd (omega (arith, few, l, m))
    ] in
    let keeps = λ (p : Row → Bool). λ (P : Row → Type 0). All-filter p P rs in
    record {
      full = All-append (λ r. has_fields r ≡ true) before (vs ++ later) (keeps _ (λ r. has_fields r ≡ true) h.full) (All-append (λ r. has_fields r ≡ true) vs later (All-weaker (λ r. (r.unit ≡ u) × (has_fields r ≡ true) × IsSoundRow kind r) (λ r. has_fields r ≡ true) (λ r p. p.1) vs a) (keeps _ (λ r. has_fields r ≡ true) h.full));
      own = All-append (IsSoundRow kind) before (vs ++ later) (keeps _ (IsSoundRow kind) h.own) (All-append (IsSoundRow kind) vs later (All-weaker (λ r. (r.unit ≡ u) × (has_fields r ≡ true) × IsSoundRow kind r) (IsSoundRow kind) (λ r p. p.2) vs a) (keeps _ (IsSoundRow kind) h.own));
      in_order = pairs_append before (vs ++ later) (AllPairs-filter Before (λ (r : Row). is_lt (unit_cmp r.unit u)) rs h.in_order)
          (pairs_append vs later own_order (AllPairs-filter Before (λ (r : Row). is_gt (unit_cmp r.unit u)) rs h.in_order) (across _ _ not_up vs later owns highs))
          (All-weaker (λ r. is_lt (unit_cmp r.unit u) ≡ true) (λ x. All (Before x) (vs ++ later))
          (λ x l. All-append (Before x) vs later (All-weaker (λ r. r.unit ≡ u) (Before x) (λ y e. low_own x y l e) vs owns) (All-weaker (λ r. is_gt (unit_cmp r.unit u) ≡ true) (Before x) (λ y g. low_up x y l g) later highs)) before lows);
    }

-- the rows of other units moved, with values between them
pub put_moved : (u : AttributeUnit) (all before own later vs : List Row) → all ≡ before ++ (own ++ later)
    → before ≡ filter (λ (r : Row). is_lt (unit_cmp r.unit u)) all → later ≡ filter (λ (r : Row). is_gt (unit_cmp r.unit u)) all
    → take (length before) (take (length before + length own) all) ++ vs ++ drop (length before + length own) all ≡ put_values u vs all
put_moved u all before own later vs e lows highs =
    let kept : take (length before + length own) all ≡ before ++ own
    = ap (take (length before + length own)) e ∙ take-append-add before (own ++ later) (length own) ∙ ap (λ (rs : List Row). before ++ rs) (take-append_seam own later) in
    let first : take (length before) (take (length before + length own) all) ≡ before = ap (take (length before)) kept ∙ take-append_seam before own in
    let last : drop (length before + length own) all ≡ later
    = ap (drop (length before + length own)) e ∙ drop-append-add before (own ++ later) (length own) ∙ drop-append_seam own later in
    (λ i. first i ++ vs ++ last i) ∙ append_assoc before vs later ∙ (λ i. lows i ++ (vs ++ highs i))
