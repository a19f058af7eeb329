-- Rows in groups by unit.
use Rattle.std.proofs.Common.{◌≡◌, ℕ, zero, suc, ◌+◌, ◌-◌, ◌<◌, ◌≤◌, refl, sym, ◌∙◌, ap, subst, Bool, true, false, arith, inl, inr, List, [], ◌∷◌, ◌++◌, append_assoc, length, take, drop, get_or, length-drop, filter}
use Rattle.std.specs.Prelude.{All, AllPairs}
use Rattle.std.specs.List.{insert, HoldsAt, AllWithin}
use Rattle.std.specs.List.Sorted.{IsNonDecreasingBy, IsPartitionedBy, IsPartitionPoint}
use Rattle.std.specs.declared.cmp.Ordering.{Ordering}
use Rattle.std.specs.declared.cmp.Ordering.TheVariants.{Less, Equal, Greater}
use Rattle.std.specs.Ordering.{is_lt, is_eq, is_gt, ordering_index, ordering_reverse}
use Rattle.std.specs.Cmp.{alike_right, tied_itself}
use Rattle.std.proofs.lemmas.Bool.{cases_lt}
use Rattle.std.proofs.lemmas.List.{append-nil, get_or-drop, get_or-take, length-take, take-append-drop}
use Rattle.std.proofs.lemmas.List.Concat.{flat_map-append}
use Rattle.std.proofs.lemmas.List.Elements.{All-append, All-cons, All-drop, All-from_get_or, All-head, All-nil, All-tail, All-take, All-weaker, filter-append}
use Rattle.std.proofs.lemmas.List.Kept.{AllPairs-cons}
use Rattle.std.proofs.Math.Seq.{drop-append_seam, drop-cons, take-append_seam}
use Rattle.scim_schema.specs.declared.Unit.{Unit as AttributeUnit}
use Rattle.scim_cell.specs.Place.{unit_cmp}
use Rattle.scim_cell.specs.Rows.{Row, Precedes, values, put_values}
use Rattle.scim_value.proofs.Facts.{unit_same, unit_total}
use Rattle.scim_patch_steps.specs.declared.unit_rows.UnitRows.{UnitRows}
use Rattle.scim_patch_steps.specs.code.Groups.{joined, IsOwn, AreGroups, IsTaken}

-- ---- lists in order

pub pairs_take : {X : Type 0} (R : X → X → Type 0) (n : ℕ) (xs : List X) → AllPairs R xs → AllPairs R (take n xs)
pairs_take R n xs h i j d l m =
    let size = length-take n xs in
    let first = get_or-take n xs i d (omega (arith, l, m, size)) in
    let second = get_or-take n xs j d (omega (arith, m, size)) in
    subst (λ x. R x (get_or (take n xs) j d)) (sym first) (subst (R (get_or xs i d)) (sym second) (h i j d l (omega (arith, m, size))))

pairs_drop : {X : Type 0} (R : X → X → Type 0) (n : ℕ) (xs : List X) → AllPairs R xs → AllPairs R (drop n xs)
pairs_drop R n xs h i j d l m =
    let size = length-drop n xs in
    subst (λ x. R x (get_or (drop n xs) j d)) (sym (get_or-drop n xs i d)) (subst (R (get_or xs (n + i) d)) (sym (get_or-drop n xs j d)) (h (n + i) (n + j) d (omega (arith, l)) (omega (arith, m, size))))

head_pairs : {X : Type 0} (R : X → X → Type 0) (x : X) (xs : List X) → AllPairs R (x ∷ xs) → All (R x) xs
head_pairs R x xs h k d l = h zero (suc k) d (omega arith) (omega arith)

tail_pairs : {X : Type 0} (R : X → X → Type 0) (x : X) (xs : List X) → AllPairs R (x ∷ xs) → AllPairs R xs
tail_pairs R x xs h i j d l m = h (suc i) (suc j) d (omega arith) (omega arith)

-- two lists in order, one after another
pairs_over : {X : Type 0} (R : X → X → Type 0) (xs ys : List X) → AllPairs R xs → AllPairs R ys → All (λ x. All (R x) ys) xs → AllPairs R (xs ++ ys)
pairs_over R [] ys a b c = b
pairs_over R (x ∷ xs) ys a b c =
    AllPairs-cons R x (xs ++ ys) (All-append (R x) xs ys (head_pairs R x xs a) (All-head (λ z. All (R z) ys) x xs c))
    (pairs_over R xs ys (tail_pairs R x xs a) b (All-tail (λ z. All (R z) ys) x xs c))

front_all : {X : Type 0} (P : X → Type 0) (xs : List X) (i : ℕ) → i ≤ length xs → AllWithin P xs 0 i → All P (take i xs)
front_all P xs i within h k d l =
    let below : k < i = omega (arith, l, length-take i xs) in
    subst P (sym (get_or-take i xs k d below)) (h k d (omega arith) below)

back_all : {X : Type 0} (P : X → Type 0) (xs : List X) (i : ℕ) → AllWithin P xs i (length xs) → All P (drop i xs)
back_all P xs i h k d l = subst P (sym (get_or-drop i xs k d)) (h (i + k) d (omega arith) (omega (arith, l, length-drop i xs)))

-- ---- the order of units

turned : (u v : AttributeUnit) → unit_cmp u v ≡ Greater → unit_cmp v u ≡ Less
turned u v e = unit_total.antisymm v u ∙ ap ordering_reverse e

turned_back : (u v : AttributeUnit) → unit_cmp u v ≡ Less → unit_cmp v u ≡ Greater
turned_back u v e = unit_total.antisymm v u ∙ ap ordering_reverse e

less : (o : Ordering) → is_lt o ≡ true → o ≡ Less
less Less e = refl
less Equal e = cc
less Greater e = cc

tied : (o : Ordering) → is_lt o ≡ false → is_gt o ≡ false → is_eq o ≡ true
tied Less l g = cc
tied Equal l g = refl
tied Greater l g = cc

lt_back : (a b u : AttributeUnit) (o : Ordering) → unit_cmp a b ≡ o → is_gt o ≡ false → is_lt (unit_cmp b u) ≡ true → is_lt (unit_cmp a u) ≡ true
lt_back a b u Less e n l = ap is_lt (unit_total.trans a b u e (less _ l))
lt_back a b u Equal e n l = ap is_lt (unit_total.congr a b u e) ∙ l
lt_back a b u Greater e n l = cc

-- ---- the values of a unit among rows

kept_where : (p : Ordering → Bool) (o : Ordering) (u : AttributeUnit) → p o ≡ true → (rs : List Row) → All (λ (r : Row). unit_cmp r.unit u ≡ o) rs → filter (λ (r : Row). p (unit_cmp r.unit u)) rs ≡ rs
kept_where p o u t [] a = refl
kept_where p o u t (r ∷ rs) a =
    let own : p (unit_cmp r.unit u) ≡ true = ap p (All-head (λ (r : Row). unit_cmp r.unit u ≡ o) r rs a) ∙ t in
    rw own (ap (λ xs. r ∷ xs) (kept_where p o u t rs (All-tail (λ (r : Row). unit_cmp r.unit u ≡ o) r rs a)))

dropped_where : (p : Ordering → Bool) (o : Ordering) (u : AttributeUnit) → p o ≡ false → (rs : List Row) → All (λ (r : Row). unit_cmp r.unit u ≡ o) rs → filter (λ (r : Row). p (unit_cmp r.unit u)) rs ≡ []
dropped_where p o u t [] a = refl
dropped_where p o u t (r ∷ rs) a =
    let own : p (unit_cmp r.unit u) ≡ false = ap p (All-head (λ (r : Row). unit_cmp r.unit u ≡ o) r rs a) ∙ t in
    rw own (dropped_where p o u t rs (All-tail (λ (r : Row). unit_cmp r.unit u ≡ o) r rs a))

-- rows of units before it, of it and behind it
module _ (u : AttributeUnit) (low own high : List Row) (below : All (λ (r : Row). unit_cmp r.unit u ≡ Less) low)
    (of_unit : All (λ (r : Row). r.unit ≡ u) own) (above : All (λ (r : Row). unit_cmp r.unit u ≡ Greater) high) where
  level : All (λ (r : Row). unit_cmp r.unit u ≡ Equal) own
  level = All-weaker (λ (r : Row). r.unit ≡ u) (λ (r : Row). unit_cmp r.unit u ≡ Equal) (λ r e. ap (λ v. unit_cmp v u) e ∙ tied_itself unit_total u) own of_unit

  parts : (p : Ordering → Bool) → filter (λ (r : Row). p (unit_cmp r.unit u)) (low ++ (own ++ high))
      ≡ filter (λ (r : Row). p (unit_cmp r.unit u)) low ++ (filter (λ (r : Row). p (unit_cmp r.unit u)) own ++ filter (λ (r : Row). p (unit_cmp r.unit u)) high)
  parts p =
      filter-append (λ (r : Row). p (unit_cmp r.unit u)) low (own ++ high)
      ∙ ap (λ rs. filter (λ (r : Row). p (unit_cmp r.unit u)) low ++ rs) (filter-append (λ (r : Row). p (unit_cmp r.unit u)) own high)

  pub values_apart : values u (low ++ (own ++ high)) ≡ own
  values_apart =
      parts is_eq
      ∙ (λ i. dropped_where is_eq Less u refl low below i ++ (kept_where is_eq Equal u refl own level i ++ dropped_where is_eq Greater u refl high above i))
      ∙ append-nil own

  pub put_apart : (vs : List Row) → put_values u vs (low ++ (own ++ high)) ≡ low ++ (vs ++ high)
  put_apart vs =
      let first = parts is_lt ∙ (λ i. kept_where is_lt Less u refl low below i ++ (dropped_where is_lt Equal u refl own level i ++ dropped_where is_lt Greater u refl high above i)) ∙ append-nil low in
      let second = parts is_gt ∙ (λ i. dropped_where is_gt Less u refl low below i ++ (dropped_where is_gt Equal u refl own level i ++ kept_where is_gt Greater u refl high above i)) in
      λ i. first i ++ (vs ++ second i)

-- ---- groups

abbrev Rises : UnitRows → UnitRows → Type 0
Rises g h = unit_cmp g.unit h.unit ≡ Less

joined-append : (gs hs : List UnitRows) → joined (gs ++ hs) ≡ joined gs ++ joined hs
joined-append gs hs = flat_map-append (λ (g : UnitRows). g.rows.items) gs hs

-- the rows of groups stand where their units do
joined_where : (o : Ordering) (u : AttributeUnit) (gs : List UnitRows) → All IsOwn gs → All (λ (g : UnitRows). unit_cmp g.unit u ≡ o) gs → All (λ (r : Row). unit_cmp r.unit u ≡ o) (joined gs)
joined_where o u [] own where_ = All-nil (λ (r : Row). unit_cmp r.unit u ≡ o)
joined_where o u (g ∷ gs) own where_ =
    let first = All-head (λ (g : UnitRows). unit_cmp g.unit u ≡ o) g gs where_ in
    All-append (λ (r : Row). unit_cmp r.unit u ≡ o) g.rows.items (joined gs)
    (All-weaker (λ (r : Row). r.unit ≡ g.unit) (λ (r : Row). unit_cmp r.unit u ≡ o) (λ r e. ap (λ v. unit_cmp v u) e ∙ first) g.rows.items (All-head IsOwn g gs own))
    (joined_where o u gs (All-tail IsOwn g gs own) (All-tail (λ (g : UnitRows). unit_cmp g.unit u ≡ o) g gs where_))

-- the rows of a unit whose group was taken out are its values, and a group in its place has the values instead
module _ (u : AttributeUnit) (before : List UnitRows) (index : ℕ) (own : List Row) (left : List UnitRows) (t : IsTaken u before index own left) where
  lows : All (λ (r : Row). unit_cmp r.unit u ≡ Less) (joined t.low)
  lows = joined_where Less u t.low t.low_groups.own t.below

  highs : All (λ (r : Row). unit_cmp r.unit u ≡ Greater) (joined t.high)
  highs = joined_where Greater u t.high t.high_groups.own t.above

  pub taken_values : values u (joined before) ≡ own
  taken_values = ap (values u) t.rows_are ∙ values_apart u (joined t.low) own (joined t.high) lows t.of_unit highs

  inserted : (g : UnitRows) → insert left index g ≡ t.low ++ g ∷ t.high
  inserted g = (λ i. insert (t.left_is i) (t.index_is i) g) ∙ (λ i. take-append_seam t.low t.high i ++ g ∷ drop-append_seam t.low t.high i)

  pub put_back : (g : UnitRows) → joined (insert left index g) ≡ put_values u g.rows.items (joined before)
  put_back g =
      ap joined (inserted g) ∙ joined-append t.low (g ∷ t.high)
      ∙ sym (ap (put_values u g.rows.items) t.rows_are ∙ put_apart u (joined t.low) own (joined t.high) lows t.of_unit highs g.rows.items)

  pub groups_again : (g : UnitRows) → g.unit ≡ u → IsOwn g → AreGroups (insert left index g)
  groups_again g e own_rows =
      let up : All (Rises g) t.high
      = All-weaker (λ (h : UnitRows). unit_cmp h.unit u ≡ Greater) (Rises g) (λ h a. ap (λ v. unit_cmp v h.unit) e ∙ turned h.unit u a) t.high t.above in
      let down : All (λ l. All (Rises l) (g ∷ t.high)) t.low
      = All-weaker (λ (l : UnitRows). unit_cmp l.unit u ≡ Less) (λ l. All (Rises l) (g ∷ t.high))
      (λ l b. All-cons (Rises l) g t.high (ap (unit_cmp l.unit) e ∙ b)
      (All-weaker (λ (h : UnitRows). unit_cmp h.unit u ≡ Greater) (Rises l) (λ h a. unit_total.trans l.unit u h.unit b (turned h.unit u a)) t.high t.above)) t.low t.below in
      subst AreGroups (sym (inserted g)) (record {
        own = All-append IsOwn t.low (g ∷ t.high) t.low_groups.own (All-cons IsOwn g t.high own_rows t.high_groups.own);
        ascending = pairs_over Rises t.low (g ∷ t.high) t.low_groups.ascending (AllPairs-cons Rises g t.high up t.high_groups.ascending) down;
      })

-- ---- the search for a group

later_index : (a b u : AttributeUnit) (r : Ordering) → unit_cmp b u ≡ r → unit_cmp a b ≡ Less → ordering_index (unit_cmp a u) ≤ ordering_index r
later_index a b u Less e h = rw (unit_total.trans a b u h e) (omega arith)
later_index a b u Equal e h = rw (sym (alike_right unit_total b u a e) ∙ h) (omega arith)
later_index a b u Greater e h = elim (unit_cmp a u) as (λ r. ordering_index r ≤ 2) [ Less ↦ omega arith | Equal ↦ omega arith | Greater ↦ omega arith ]

pub searchable : (u : AttributeUnit) (gs : List UnitRows) → AreGroups gs → IsNonDecreasingBy (λ (g : UnitRows). ordering_index (unit_cmp g.unit u)) gs
searchable u gs h i j d le l = elim (cases_lt i j) [
  | inl less ↦ later_index (get_or gs i d).unit (get_or gs j d).unit u _ refl (h.ascending i j d less l)
  | inr more ↦
      let same : i ≡ j = omega (arith, le, more) in
      subst (λ k. ordering_index (unit_cmp (get_or gs i d).unit u) ≤ ordering_index (unit_cmp (get_or gs k d).unit u)) same (omega arith)
]

groups_take : (n : ℕ) (gs : List UnitRows) → AreGroups gs → AreGroups (take n gs)
groups_take n gs h = record { own = All-take IsOwn n gs h.own; ascending = pairs_take Rises n gs h.ascending }

groups_drop : (n : ℕ) (gs : List UnitRows) → AreGroups gs → AreGroups (drop n gs)
groups_drop n gs h = record { own = All-drop IsOwn n gs h.own; ascending = pairs_drop Rises n gs h.ascending }

-- where the unit has no group
pub taken_none : (u : AttributeUnit) (gs : List UnitRows) (i : ℕ) → AreGroups gs → i ≤ length gs
    → IsPartitionPoint (λ (g : UnitRows). unit_cmp g.unit u ≡ Less) (λ (g : UnitRows). unit_cmp g.unit u ≡ Greater) gs i → IsTaken u gs i [] gs
taken_none u gs i h within point = record {
  low = take i gs;
  high = drop i gs;
  left_is = sym (take-append-drop i gs);
  index_is = omega (arith, length-take i gs);
  rows_are = ap joined (sym (take-append-drop i gs)) ∙ joined-append (take i gs) (drop i gs);
  of_unit = All-nil (λ (r : Row). r.unit ≡ u);
  low_groups = groups_take i gs h;
  high_groups = groups_drop i gs h;
  below = front_all (λ (g : UnitRows). unit_cmp g.unit u ≡ Less) gs i within point.0;
  above = back_all (λ (g : UnitRows). unit_cmp g.unit u ≡ Greater) gs i point.1;
}

-- and where it has one
pub taken_one : (u : AttributeUnit) (gs : List UnitRows) (i : ℕ) (g : UnitRows) (left : List UnitRows) → AreGroups gs → i < length gs
    → HoldsAt (λ (g : UnitRows). unit_cmp g.unit u ≡ Equal) gs i → g ≡ get_or gs i g → left ≡ take i gs ++ drop (suc i) gs → IsTaken u gs i g.rows.items left
taken_one u gs i g left h within ties is parted =
    let same : g.unit ≡ u = ap (λ (h : UnitRows). h.unit) is ∙ unit_same (get_or gs i g).unit u (ap is_eq (ties g)) in
    let at : (d : UnitRows) → (get_or gs i d).unit ≡ u = λ d. unit_same (get_or gs i d).unit u (ap is_eq (ties d)) in
    let whole : gs ≡ take i gs ++ g ∷ drop (suc i) gs = sym (take-append-drop i gs) ∙ ap (λ hs. take i gs ++ hs) (drop-cons gs i g within) ∙ ap (λ x. take i gs ++ x ∷ drop (suc i) gs) (sym is) in
    let own : IsOwn g = subst IsOwn (sym is) (h.own i g within) in
    record {
      low = take i gs;
      high = drop (suc i) gs;
      left_is = parted;
      index_is = omega (arith, length-take i gs);
      rows_are = ap joined whole ∙ joined-append (take i gs) (g ∷ drop (suc i) gs);
      of_unit = All-weaker (λ (r : Row). r.unit ≡ g.unit) (λ (r : Row). r.unit ≡ u) (λ r e. e ∙ same) g.rows.items own;
      low_groups = groups_take i gs h;
      high_groups = groups_drop (suc i) gs h;
      below = front_all (λ (g : UnitRows). unit_cmp g.unit u ≡ Less) gs i (omega arith) (λ k d low high. ap (unit_cmp (get_or gs k d).unit) (sym (at d)) ∙ h.ascending k i d high within);
      above = back_all (λ (g : UnitRows). unit_cmp g.unit u ≡ Greater) gs (suc i) (λ k d low high.
          turned_back u (get_or gs k d).unit (ap (λ v. unit_cmp v (get_or gs k d).unit) (sym (at d)) ∙ h.ascending i k d (omega (arith, low)) high));
    }

-- ---- the groups of rows

abbrev pub Before : Row → Row → Type 0
Before r s = Precedes r.unit s.unit

pub partitioned : (u : AttributeUnit) (rs : List Row) → AllPairs Before rs → IsPartitionedBy (λ (r : Row). is_lt (unit_cmp r.unit u)) rs
partitioned u rs h i j d le l t = elim (cases_lt i j) [
  | inl less ↦ lt_back (get_or rs i d).unit (get_or rs j d).unit u _ refl (h i j d less l).0 t
  | inr more ↦ (let same : j ≡ i = omega (arith, le, more) in subst (λ k. is_lt (unit_cmp (get_or rs k d).unit u) ≡ true) same t)
]

-- the rows that are left stand before the groups, and together they are the rows of which the groups are made
pub record IsGrouped (all rs : List Row) (gs : List UnitRows) : Type 0 where
  pub in_order : AllPairs Before rs
  pub whole : rs ++ joined gs ≡ all
  pub groups : AreGroups gs
  pub below : All (λ (g : UnitRows). All (λ (r : Row). unit_cmp r.unit g.unit ≡ Less) rs) gs

pub grouped_none : (rs : List Row) → AllPairs Before rs → IsGrouped rs rs []
grouped_none rs h = record {
  in_order = h;
  whole = append-nil rs;
  groups = record { own = All-nil IsOwn; ascending = λ i j d l m. absurd (omega (arith, m)) };
  below = All-nil (λ (g : UnitRows). All (λ (r : Row). unit_cmp r.unit g.unit ≡ Less) rs);
}

-- the rows of the last row's unit
module _ (all rs : List Row) (gs : List UnitRows) (h : IsGrouped all rs gs) (last : Row) (is : last ≡ get_or rs (length rs - 1) last) (some : 0 < length rs)
    (i : ℕ) (within : i ≤ length rs)
    (point : IsPartitionPoint (λ (r : Row). is_lt (unit_cmp r.unit last.unit) ≡ true) (λ (r : Row). is_lt (unit_cmp r.unit last.unit) ≡ false) rs i) where
  -- there are some
  pub starts : i < length rs
  starts = elim (cases_lt i (length rs)) [
    | inl less ↦ less
    | inr more ↦ absurd (
        let own : is_lt (unit_cmp last.unit last.unit) ≡ true = subst (λ (r : Row). is_lt (unit_cmp r.unit last.unit) ≡ true) (sym is) (point.0 (length rs - 1) last (omega arith) (omega (arith, some, more))) in
        let level = ap is_lt (tied_itself unit_total last.unit) in
        cc)
  ]

  of_last : (k : ℕ) → i ≤ k → k < length rs → (get_or rs k last).unit ≡ last.unit
  of_last k low high = elim (cases_lt k (length rs - 1)) [
    | inl less ↦
        let up : is_gt (unit_cmp (get_or rs k last).unit last.unit) ≡ false
        = subst (λ (r : Row). is_gt (unit_cmp (get_or rs k last).unit r.unit) ≡ false) (sym is) (h.in_order k (length rs - 1) last less (omega (arith, some))).0 in
        unit_same (get_or rs k last).unit last.unit (tied _ (point.1 k last low high) up)
    | inr more ↦
        let same : length rs - 1 ≡ k = omega (arith, more, high) in
        subst (λ (n : ℕ). (get_or rs n last).unit ≡ last.unit) same (ap (λ (r : Row). r.unit) (sym is))
  ]

  -- they are a group before the others
  pub grouped_more : (g : UnitRows) → g.unit ≡ last.unit → g.rows.items ≡ drop i rs → IsGrouped all (take i rs) (g ∷ gs)
  grouped_more g unit own =
      let rows_own : IsOwn g
      = subst (All (λ (r : Row). r.unit ≡ g.unit)) (sym own) (All-from_get_or (λ (r : Row). r.unit ≡ g.unit) (drop i rs) last
      (λ k l. subst (λ (r : Row). r.unit ≡ g.unit) (sym (get_or-drop i rs k last)) (of_last (i + k) (omega arith) (omega (arith, l, length-drop i rs)) ∙ sym unit))) in
      let up : All (Rises g) gs
      = All-weaker (λ (h : UnitRows). All (λ (r : Row). unit_cmp r.unit h.unit ≡ Less) rs) (Rises g)
      (λ h a. ap (λ v. unit_cmp v h.unit) unit ∙ subst (λ (r : Row). unit_cmp r.unit h.unit ≡ Less) (sym is) (a (length rs - 1) last (omega (arith, some)))) gs h.below in
      let before : All (λ (r : Row). unit_cmp r.unit g.unit ≡ Less) (take i rs)
      = front_all (λ (r : Row). unit_cmp r.unit g.unit ≡ Less) rs i within (λ k d low high. ap (unit_cmp (get_or rs k d).unit) unit ∙ less _ (point.0 k d low high)) in
      record {
        in_order = pairs_take Before i rs h.in_order;
        whole = ap (λ xs. take i rs ++ (xs ++ joined gs)) own ∙ sym (append_assoc (take i rs) (drop i rs) (joined gs)) ∙ ap (λ xs. xs ++ joined gs) (take-append-drop i rs) ∙ h.whole;
        groups = record { own = All-cons IsOwn g gs rows_own h.groups.own; ascending = AllPairs-cons Rises g gs up h.groups.ascending };
        below = All-cons (λ (g : UnitRows). All (λ (r : Row). unit_cmp r.unit g.unit ≡ Less) (take i rs)) g gs before
            (All-weaker (λ (h : UnitRows). All (λ (r : Row). unit_cmp r.unit h.unit ≡ Less) rs) (λ (h : UnitRows). All (λ (r : Row). unit_cmp r.unit h.unit ≡ Less) (take i rs))
            (λ h a. All-take (λ (r : Row). unit_cmp r.unit h.unit ≡ Less) i rs a) gs h.below);
      }
