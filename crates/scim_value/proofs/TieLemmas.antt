-- Rows as cells by place, and back.
use Rattle.std.proofs.Common.{◌≡◌, ℕ, zero, suc, ◌+◌, ◌<◌, refl, sym, ◌∙◌, ap, subst, eq-eqb, Bool, true, false, ◌&&◌, eqb, arith, List, [], ◌∷◌, ◌++◌, map, inl, inr, get_or}
use Rattle.std.specs.Prelude.{Option, None, Some, if◌then◌else◌, All, AllPairs}
use Rattle.std.proofs.lemmas.Bool.{cases_Bool}
use Rattle.std.proofs.lemmas.List.Elements.{All-head, All-tail, All-map}
use denote.Enum.Bare.{sameb, same_true, true_same, tag_one}
use Rattle.std.specs.declared.cmp.Ordering.{Ordering}
use Rattle.std.specs.declared.cmp.Ordering.TheVariants.{Less, Equal, Greater}
use Rattle.std.specs.Ordering.{nat_cmp, ordering_then, is_eq, is_gt}
use Rattle.std.specs.Cmp.{ranked}
use Rattle.std.specs.FinMap.{entries}
use Rattle.scim_schema.specs.declared.Kind.{Kind}
use Rattle.scim_schema.specs.declared.Attribute.{Attribute}
use Rattle.scim_schema.specs.declared.Leaf.{Leaf}
use Rattle.scim_schema.specs.contracts.Attribute.{the_type as the_attribute}
use Rattle.scim_schema.specs.declared.Unit.{Unit as AttributeUnit}
use Rattle.scim_schema.specs.Units.{unit_of}
use Rattle.scim_schema.specs.Characteristics.{is_multi_valued}
use Rattle.scim_cell.specs.declared.places.Place.{Place}
use Rattle.scim_cell.specs.Place.{unit_cmp, place_at, attribute_number, sub_attribute_number}
use Rattle.scim_cell.specs.Content.{Entry, IsPart, ArePartCells}
use Rattle.scim_value.specs.code.Chain.{Follows, IsChain}
use Rattle.scim_cell.specs.Rows.{Row, field_of, goes_with, rows_of, next_position, numbered, rows, has_fields, content, IsSoundField, IsSoundRow, Precedes, AreSound}
use Rattle.scim_value.proofs.PartLemmas.{entries-from_true}
use Rattle.scim_value.proofs.ChainLemmas.{is_sorted-chain, ArePartCells-chain}
use Rattle.scim_value.proofs.OrderLemmas.{nat_less, nat_tied, first_less, second_less}
use Rattle.scim_value.proofs.RowLemmas.{number_at, run, after, rows_split}
use Rattle.scim_cell.specs.declared.rows.Field.{Field}

-- the cells of a row at its position
abbrev pub placed : ℕ → List Field → List Entry
placed k cs = map (number_at k) cs

run_over : (t : Place → Bool) (xs ys : List Entry) → All (λ (x : Entry). t x.0 ≡ true) xs → (run t ys ≡ []) × (after t ys ≡ ys) → (run t (xs ++ ys) ≡ xs) × (after t (xs ++ ys) ≡ ys)
run_over t [] ys a n = n
run_over t (x ∷ xs) ys a n =
    let own : t x.0 ≡ true = All-head (λ (z : Entry). t z.0 ≡ true) x xs a in
    let rest = run_over t xs ys (All-tail (λ (z : Entry). t z.0 ≡ true) x xs a) n in
    rw own (ap (λ zs. x ∷ zs) rest.0, rest.1)

next_differs : (k : ℕ) → eqb k (k + 1) ≡ false
next_differs k = grind arith

asub_attribute_numbers : (a b : Attribute) (k : ℕ) → (is_multi_valued a && (sameb the_attribute a b && eqb k (if sameb the_attribute a b && is_multi_valued b then k + 1 else 0))) ≡ false
asub_attribute_numbers a b k = elim (cases_Bool (is_multi_valued a)) [
  | inr n ↦ rw n refl
  | inl m ↦ elim (cases_Bool (sameb the_attribute a b)) [
    | inr n ↦ rw (m, n) refl
    | inl s ↦
        let e : a ≡ b = same_true the_attribute tt _ _ s in
        let mb : is_multi_valued b ≡ true = ap is_multi_valued (sym e) ∙ m in
        rw (m, s, mb) (next_differs k)
  ]
]

-- the next row's cells do not go with this one's
apart_rows : (l q : Leaf) (u v : AttributeUnit) (k : ℕ) → l.attribute ≡ u.attribute → q.attribute ≡ v.attribute → goes_with (place_at l k) (place_at q (next_position (Some (u, k)) v)) ≡ false
unfolding goes_with
apart_rows l q u v k a b =
    (λ i. is_multi_valued (a i) && (sameb the_attribute (a i) (b i) && eqb k (if sameb the_attribute u.attribute v.attribute && is_multi_valued v.attribute then k + 1 else 0)))
    ∙ asub_attribute_numbers u.attribute v.attribute k

pub attribute_of : (l : Leaf) (u : AttributeUnit) → unit_of l ≡ u → l.attribute ≡ u.attribute
attribute_of l u e = ap (λ (u : AttributeUnit). u.attribute) e

none_row : (kind : Kind) (l : Leaf) (u v : AttributeUnit) (k : ℕ) (hs : List Field) (rest : List Entry) → l.attribute ≡ u.attribute → has_fields (record { unit = v; fields = hs }) ≡ true → All (IsSoundField kind v) hs
    → (run (goes_with (place_at l k)) (placed (next_position (Some (u, k)) v) hs ++ rest) ≡ [])
    × (after (goes_with (place_at l k)) (placed (next_position (Some (u, k)) v) hs ++ rest) ≡ placed (next_position (Some (u, k)) v) hs ++ rest)
none_row kind l u v k [] rest a f o = cc
none_row kind l u v k (h ∷ hs) rest a f o =
    let own = All-head (IsSoundField kind v) h hs o in
    let n = apart_rows l h.leaf u v k a (attribute_of _ _ own.0) in
    rw n (refl, refl)

none_next : (kind : Kind) (l : Leaf) (u : AttributeUnit) (k : ℕ) (rs : List Row) → l.attribute ≡ u.attribute → All (λ r. has_fields r ≡ true) rs → All (IsSoundRow kind) rs
    → (run (goes_with (place_at l k)) (numbered (Some (u, k)) rs) ≡ []) × (after (goes_with (place_at l k)) (numbered (Some (u, k)) rs) ≡ numbered (Some (u, k)) rs)
none_next kind l u k [] a f o = (refl, refl)
none_next kind l u k (r ∷ rs) a f o = none_row kind l u r.unit k r.fields _ a (All-head (λ r. has_fields r ≡ true) r rs f) (All-head (IsSoundRow kind) r rs o).own

-- two cells of one value are of an attribute with many
pub many_of_two : (h g : Leaf) → unit_of h ≡ unit_of g → sub_attribute_number h.sub_attribute < sub_attribute_number g.sub_attribute → is_multi_valued h.attribute ≡ true
many_of_two h g e l = elim (cases_Bool (is_multi_valued h.attribute)) [
  | inl m ↦ m
  | inr n ↦
      let a : h.attribute ≡ g.attribute = ap (λ (u : AttributeUnit). u.attribute) e in
      let ng : is_multi_valued g.attribute ≡ false = sym (ap is_multi_valued a) ∙ n in
      let p : (if is_multi_valued h.attribute then None else h.sub_attribute) ≡ (if is_multi_valued g.attribute then None else g.sub_attribute) = ap (λ (u : AttributeUnit). u.sub_attribute) e in
      let q : h.sub_attribute ≡ g.sub_attribute = rw (n, ng) at p in
      let r : sub_attribute_number h.sub_attribute ≡ sub_attribute_number g.sub_attribute = ap sub_attribute_number q in
      absurd (omega arith)
]

with_own : (h g : Leaf) (k : ℕ) → unit_of h ≡ unit_of g → sub_attribute_number h.sub_attribute < sub_attribute_number g.sub_attribute → goes_with (place_at h k) (place_at g k) ≡ true
unfolding goes_with
with_own h g k e l =
    let a : h.attribute ≡ g.attribute = ap (λ (u : AttributeUnit). u.attribute) e in
    let m = many_of_two h g e l in
    let s : sameb the_attribute h.attribute g.attribute ≡ true = true_same the_attribute h.attribute g.attribute a in
    let same : eqb k k ≡ true = eq-eqb k k refl in
    rw (m, s, same) refl

row_runs : (kind : Kind) (u : AttributeUnit) (h : Field) (hs : List Field) (k : ℕ) → IsSoundRow kind (record { unit = u; fields = h ∷ hs }) → All (λ (x : Entry). goes_with (place_at h.leaf k) x.0 ≡ true) (placed k hs)
row_runs kind u h hs k s =
    let T : Entry → Type 0 = λ x. goes_with (place_at h.leaf k) x.0 ≡ true in
    All-map T (number_at k) hs
    (λ i d l. with_own h.leaf (get_or hs i d).leaf k ((s.own zero d (omega arith)).0 ∙ sym ((s.own (suc i) d (omega arith)).0)) (s.in_order zero (suc i) d (omega arith) (omega arith)))

held_back : (k : ℕ) (hs : List Field) → map field_of (placed k hs) ≡ hs
held_back k [] = refl
held_back k (h ∷ hs) = ap (λ xs. h ∷ xs) (held_back k hs)

back_row : (kind : Kind) (k : ℕ) (u : AttributeUnit) (hs : List Field) (rs : List Row) → has_fields (record { unit = u; fields = hs }) ≡ true → IsSoundRow kind (record { unit = u; fields = hs })
    → All (λ r. has_fields r ≡ true) rs → All (IsSoundRow kind) rs → rows_of (numbered (Some (u, k)) rs) ≡ rs
    → rows_of (placed k hs ++ numbered (Some (u, k)) rs) ≡ record { unit = u; fields = hs } ∷ rs
back_row kind k u [] rs f s fs os ih = cc
back_row kind k u (h ∷ hs) rs f s fs os ih =
    let unit : unit_of h.leaf ≡ u = (All-head (IsSoundField kind u) h hs s.own).0 in
    let rest = numbered (Some (u, k)) rs in
    let split = run_over (goes_with (place_at h.leaf k)) (placed k hs) rest (row_runs kind u h hs k s) (none_next kind h.leaf u k rs (attribute_of _ _ unit) fs os) in
    rows_split (number_at k h) (placed k hs ++ rest)
    ∙ (λ i. record { unit = unit i; fields = h ∷ map field_of (split.0 i) } ∷ rows_of (split.1 i))
    ∙ (λ i. record { unit = u; fields = h ∷ held_back k hs i } ∷ ih i)

-- the values of numbered rows are the rows
pub rows_numbered : (kind : Kind) (last : Option (AttributeUnit × ℕ)) (rs : List Row) → All (λ r. has_fields r ≡ true) rs → All (IsSoundRow kind) rs → rows_of (numbered last rs) ≡ rs
rows_numbered kind last [] f o = refl
rows_numbered kind last (r ∷ rs) f o =
    let fs = All-tail (λ r. has_fields r ≡ true) r rs f in
    let os = All-tail (IsSoundRow kind) r rs o in
    back_row kind (next_position last r.unit) r.unit r.fields rs (All-head (λ r. has_fields r ≡ true) r rs f) (All-head (IsSoundRow kind) r rs o) fs os (rows_numbered kind (Some (r.unit, next_position last r.unit)) rs fs os)

-- numbered rows are a chain
only_less : (o : Ordering) (m : Bool) → is_gt o ≡ false → (is_eq o ≡ true → m ≡ true) → m ≡ false → o ≡ Less
only_less Less m g e n = refl
only_less Equal m g e n = let t : m ≡ true = e refl in cc
only_less Greater m g e n = cc

first_only : (a b : Attribute) (o r : Ordering) → nat_cmp (attribute_number a) (attribute_number b) ≡ o → is_gt (ordering_then o r) ≡ false → sameb the_attribute a b ≡ false → o ≡ Less
first_only a b Less r e g n = refl
first_only a b Equal r e g n =
    let t : attribute_number a ≡ attribute_number b = ranked _ _ Equal (sym e) in
    let same : sameb the_attribute a b ≡ true = true_same the_attribute a b (tag_one the_attribute tt a b t) in
    cc
first_only a b Greater r e g n = cc

attribute_tie : (a b : Attribute) → a ≡ b → nat_cmp (attribute_number a) (attribute_number b) ≡ Equal
attribute_tie a b e = nat_tied _ _ (ap attribute_number e)

follows_next : (kind : Kind) (l q : Leaf) (k : ℕ) → (is_multi_valued l.attribute ≡ false → k ≡ 0) → Precedes (unit_of l) (unit_of q)
    → Follows (Some (place_at l k)) (place_at q (next_position (Some (unit_of l, k)) (unit_of q)))
follows_next kind l q k zero_at before =
    let at : ℕ → Type 0 = λ n. Follows (Some (place_at l k)) (place_at q n) in
    let by_attribute = nat_cmp (attribute_number l.attribute) (attribute_number q.attribute) in
    elim (cases_Bool (sameb the_attribute l.attribute q.attribute)) [
      | inl s ↦
          let e : l.attribute ≡ q.attribute = same_true the_attribute tt _ _ s in
          let tie = attribute_tie l.attribute q.attribute e in
          elim (cases_Bool (is_multi_valued l.attribute)) [
            | inl m ↦
                let mb : is_multi_valued q.attribute ≡ true = ap is_multi_valued (sym e) ∙ m in
                let n : next_position (Some (unit_of l, k)) (unit_of q) ≡ k + 1 = rw (s, mb) refl in
                subst at (sym n) (second_less by_attribute _ tie (first_less _ _ (nat_less k (k + 1) (omega arith))), inr (mb, e, omega arith))
            | inr m ↦
                let mb : is_multi_valued q.attribute ≡ false = ap is_multi_valued (sym e) ∙ m in
                let n : next_position (Some (unit_of l, k)) (unit_of q) ≡ 0 = rw (s, mb) refl in
                let units : unit_cmp (unit_of l) (unit_of q) ≡ nat_cmp (sub_attribute_number l.sub_attribute) (sub_attribute_number q.sub_attribute)
                = λ i. ordering_then (tie i) (nat_cmp (sub_attribute_number (if m i then None else l.sub_attribute)) (sub_attribute_number (if mb i then None else q.sub_attribute))) in
                let parts : nat_cmp (sub_attribute_number l.sub_attribute) (sub_attribute_number q.sub_attribute) ≡ Less
                = only_less _ (is_multi_valued l.attribute) (ap is_gt (sym units) ∙ before.0) (λ t. before.1 (ap is_eq units ∙ t)) m in
                subst at (sym n) (second_less by_attribute _ tie (second_less _ _ (nat_tied k 0 (zero_at m)) parts), inl refl)
          ]
      | inr s ↦
          let n : next_position (Some (unit_of l, k)) (unit_of q) ≡ 0 = rw s refl in
          subst at (sym n) (first_less by_attribute _ (first_only l.attribute q.attribute _ _ refl before.0 s), inl refl)
    ]

follows_own : (kind : Kind) (g h : Leaf) (k : ℕ) → unit_of g ≡ unit_of h → sub_attribute_number g.sub_attribute < sub_attribute_number h.sub_attribute → Follows (Some (place_at g k)) (place_at h k)
follows_own kind g h k e l =
    let a : g.attribute ≡ h.attribute = ap (λ (u : AttributeUnit). u.attribute) e in
    let m : is_multi_valued h.attribute ≡ true = ap is_multi_valued (sym a) ∙ many_of_two g h e l in (
      second_less (nat_cmp (attribute_number g.attribute) (attribute_number h.attribute)) _ (attribute_tie _ _ a) (second_less (nat_cmp k k) _ (nat_tied k k refl) (nat_less _ _ l)),
      inr (m, a, omega arith),
    )

chain_row : (kind : Kind) (v : AttributeUnit) (n : ℕ) (g : Field) (hs : List Field) (tail : List Entry) → All (IsSoundField kind v) (g ∷ hs) → AllPairs (λ (c : Field) (d : Field). sub_attribute_number c.leaf.sub_attribute < sub_attribute_number d.leaf.sub_attribute) (g ∷ hs)
    → ((l : Leaf) → unit_of l ≡ v → IsChain kind (Some (place_at l n)) tail) → IsChain kind (Some (place_at g.leaf n)) (placed n hs ++ tail)
chain_row kind v n g [] tail o r next = next g.leaf (All-head (IsSoundField kind v) g [] o).0
chain_row kind v n g (h ∷ hs) tail o r next =
    let os = All-tail (IsSoundField kind v) g (h ∷ hs) o in
    let first = All-head (IsSoundField kind v) g (h ∷ hs) o in
    let second = All-head (IsSoundField kind v) h hs os in (
      (second.1, second.2),
      follows_own kind g.leaf h.leaf n (first.0 ∙ sym second.0) (r zero (suc zero) h (omega arith) (omega arith)),
      chain_row kind v n h hs tail os (λ i j d l m. r (suc i) (suc j) d (omega arith) (omega arith)) next,
    )

chain_step : (kind : Kind) (last : Option Place) (v : AttributeUnit) (n : ℕ) (hs : List Field) (tail : List Entry) → has_fields (record { unit = v; fields = hs }) ≡ true → IsSoundRow kind (record { unit = v; fields = hs })
    → ((l : Leaf) → unit_of l ≡ v → Follows last (place_at l n)) → ((l : Leaf) → unit_of l ≡ v → IsChain kind (Some (place_at l n)) tail) → IsChain kind last (placed n hs ++ tail)
chain_step kind last v n [] tail f s here next = cc
chain_step kind last v n (h ∷ hs) tail f s here next =
    let own = All-head (IsSoundField kind v) h hs s.own in
    ((own.1, own.2), here h.leaf own.0, chain_row kind v n h hs tail s.own s.in_order next)

pub zero_next : (last : Option (AttributeUnit × ℕ)) (v : AttributeUnit) → is_multi_valued v.attribute ≡ false → next_position last v ≡ 0
zero_next None v m = refl
zero_next (Some last) v m = elim (cases_Bool (sameb the_attribute last.0.attribute v.attribute)) [
  | inl s ↦ rw (s, m) refl
  | inr s ↦ rw s refl
]

zero_leaf : (last : Option (AttributeUnit × ℕ)) (v : AttributeUnit) (l : Leaf) → unit_of l ≡ v → is_multi_valued l.attribute ≡ false → next_position last v ≡ 0
zero_leaf last v l e m = zero_next last v (ap is_multi_valued (sym (attribute_of _ _ e)) ∙ m)

chain_rest : (kind : Kind) (l : Leaf) (k : ℕ) (rs : List Row) → (is_multi_valued l.attribute ≡ false → k ≡ 0) → All (λ (s : Row). Precedes (unit_of l) s.unit) rs → AreSound kind rs
    → IsChain kind (Some (place_at l k)) (numbered (Some (unit_of l, k)) rs)
chain_rest kind l k [] z b h = tt
chain_rest kind l k (r ∷ rs) z b h =
    let n = next_position (Some (unit_of l, k)) r.unit in
    let own = All-head (λ (s : Row). Precedes (unit_of l) s.unit) r rs b in
    let rest : AreSound kind rs = record { full = All-tail (λ r. has_fields r ≡ true) r rs h.full; own = All-tail (IsSoundRow kind) r rs h.own; in_order = λ i j d x m. h.in_order (suc i) (suc j) d (omega arith) (omega arith) } in
    let later : All (λ (s : Row). Precedes r.unit s.unit) rs = λ i d m. h.in_order zero (suc i) d (omega arith) (omega arith) in
    chain_step kind _ r.unit n r.fields _ (All-head (λ r. has_fields r ≡ true) r rs h.full) (All-head (IsSoundRow kind) r rs h.own)
    (λ q e. subst (λ (v : AttributeUnit). Follows (Some (place_at l k)) (place_at q (next_position (Some (unit_of l, k)) v))) e (follows_next kind l q k z (subst (λ (v : AttributeUnit). Precedes (unit_of l) v) (sym e) own)))
    (λ q e. subst (λ (v : AttributeUnit). IsChain kind (Some (place_at q n)) (numbered (Some (v, n)) rs)) e
    (chain_rest kind q n rs (zero_leaf (Some (unit_of l, k)) r.unit q e) (subst (λ (v : AttributeUnit). All (λ (s : Row). Precedes v s.unit) rs) (sym e) later) rest))

pub chain_rows : (kind : Kind) (rs : List Row) → AreSound kind rs → IsChain kind None (numbered None rs)
chain_rows kind [] h = tt
chain_rows kind (r ∷ rs) h =
    let rest : AreSound kind rs = record { full = All-tail (λ r. has_fields r ≡ true) r rs h.full; own = All-tail (IsSoundRow kind) r rs h.own; in_order = λ i j d x m. h.in_order (suc i) (suc j) d (omega arith) (omega arith) } in
    let later : All (λ (s : Row). Precedes r.unit s.unit) rs = λ i d m. h.in_order zero (suc i) d (omega arith) (omega arith) in
    chain_step kind None r.unit 0 r.fields _ (All-head (λ r. has_fields r ≡ true) r rs h.full) (All-head (IsSoundRow kind) r rs h.own) (λ q e. refl)
    (λ q e. subst (λ (v : AttributeUnit). IsChain kind (Some (place_at q 0)) (numbered (Some (v, 0)) rs)) e
    (chain_rest kind q 0 rs (λ m. refl) (subst (λ (v : AttributeUnit). All (λ (s : Row). Precedes v s.unit) rs) (sym e) later) rest))

pub entries_content : (kind : Kind) (id : List ℕ) (rs : List Row) → AreSound kind rs → entries (content kind id rs).cells ≡ numbered None rs
entries_content kind id rs h = entries-from_true _ (is_sorted-chain kind None _ (chain_rows kind rs h))

-- the rows of sound rows' content are those rows
pub rows_content : (kind : Kind) (id : List ℕ) (rs : List Row) → AreSound kind rs → rows (content kind id rs) ≡ rs
rows_content kind id rs h = ap (λ (es : List Entry). rows_of es) (entries_content kind id rs h) ∙ rows_numbered kind None rs h.full h.own

-- and it is a part
pub part_content : (kind : Kind) (id : List ℕ) (rs : List Row) → AreSound kind rs → IsPart (content kind id rs)
part_content kind id rs h = subst (λ (es : List Entry). ArePartCells kind es) (sym (entries_content kind id rs h)) (ArePartCells-chain kind _ (chain_rows kind rs h))
