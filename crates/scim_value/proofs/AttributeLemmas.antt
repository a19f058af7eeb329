-- The rows of an attribute.
use Rattle.std.proofs.Common.{◌≡◌, ℕ, zero, ◌≤◌, ◌<◌, refl, sym, ◌∙◌, ap, ap₂, subst, inl, inr, true, false, Bool, ◌&&◌, arith, List, [], ◌∷◌, filter, length, get_or, drop, take}
use Rattle.std.specs.Prelude.{All, AllPairs, not, if◌then◌else◌}
use Rattle.std.specs.List.{list_any}
use Rattle.std.specs.List.Sorted.{IsPartitionedBy, IsPartitionPoint}
use Rattle.std.specs.declared.cmp.Ordering.{Ordering}
use Rattle.std.specs.declared.cmp.Ordering.TheVariants.{Less, Equal, Greater}
use Rattle.std.specs.Ordering.{is_gt, is_eq, nat_cmp, ordering_then}
use Rattle.std.proofs.lemmas.Bool.Decides.{nat_tests}
use Rattle.std.proofs.lemmas.List.Elements.{filter_passes, All-head}
use Rattle.std.proofs.lemmas.Bool.{cases_Bool}
use Rattle.std.specs.Cmp.{tied_itself}
use lib.Dec.{leb, eqb, ltb}
use denote.Enum.Bare.{sameb, true_same, same_true}
use Rattle.std.proofs.Math.Bool.{and-false}
use Rattle.scim_schema.specs.declared.Kind.{Kind}
use Rattle.scim_schema.specs.Characteristics.{is_multi_valued}
use Rattle.scim_schema.specs.Units.{whole}
use Rattle.scim_schema.specs.declared.Attribute.{Attribute}
use Rattle.scim_schema.specs.declared.Unit.{Unit as AttributeUnit}
use Rattle.scim_schema.specs.contracts.Attribute.{the_type as the_attribute}
use Rattle.scim_cell.specs.Place.{unit_cmp, attribute_number}
use Rattle.scim_cell.specs.Rows.{Row, attribute_rows, values, has_fields, IsSoundRow, AreSound}
use Rattle.scim_value.proofs.OrderLemmas.{unit_same, unit_total}
use Rattle.scim_value.proofs.GetLemmas.{tail_sound}
use Rattle.scim_value.proofs.ListingLemmas.{row_in}
use Rattle.scim_value.proofs.SoundLemmas.{NotAfter, rises, parted, partitioned_drop, filter_filter, point_zero, no_other, not_flip}

-- ---- rows in order, parted by attribute

abbrev pub number : Row → ℕ
number r = attribute_number r.unit.attribute

abbrev pub is_before : Attribute → Row → Bool
is_before a r = ltb (number r) (attribute_number a)

abbrev pub is_upto : Attribute → Row → Bool
is_upto a r = leb (number r) (attribute_number a)

-- rows in order of unit are in order of attribute
first_not_greater : (o p : Ordering) → is_gt (ordering_then o p) ≡ false → is_gt o ≡ false
first_not_greater Less p h = refl
first_not_greater Equal p h = refl
first_not_greater Greater p h = cc

at_most : (m n : ℕ) → is_gt (nat_cmp m n) ≡ false → m ≤ n
at_most m n h = grind (arith, nat_tests)

numbers_rise : (rs : List Row) → AllPairs NotAfter rs → (i j : ℕ) (d : Row) → i ≤ j → j < length rs → number (get_or rs i d) ≤ number (get_or rs j d)
numbers_rise rs h i j d le l = at_most _ _ (first_not_greater _ _ (rises rs h i j d le l))

-- so those before an attribute, and those up to it, stand first
less_back : (m n k : ℕ) → m ≤ n → ltb n k ≡ true → ltb m k ≡ true
less_back m n k h t = grind (arith, nat_tests)

upto_back : (m n k : ℕ) → m ≤ n → leb n k ≡ true → leb m k ≡ true
upto_back m n k h t = grind (arith, nat_tests)

pub partitioned_before : (a : Attribute) (rs : List Row) → AllPairs NotAfter rs → IsPartitionedBy (is_before a) rs
partitioned_before a rs h i j d le l t = less_back _ _ _ (numbers_rise rs h i j d le l) t

pub partitioned_upto : (a : Attribute) (rs : List Row) (n : ℕ) → AllPairs NotAfter rs → IsPartitionedBy (is_upto a) (drop n rs)
partitioned_upto a rs n h = partitioned_drop (is_upto a) rs n (λ i j d le l t. upto_back _ _ _ (numbers_rise rs h i j d le l) t)

-- an attribute is one that isn't before and is up to
both : (m n : ℕ) → eqb m n ≡ not (ltb m n) && leb m n
both m n = grind (arith, nat_tests)

-- what is left of the rows before the attribute has its rows at the front
pub front : (a : Attribute) (rs rest : List Row) (i : ℕ) → rest ≡ drop i rs → i ≤ length rs → IsPartitionPoint (λ y. is_before a y ≡ true) (λ y. is_before a y ≡ false) rs i
    → filter (is_upto a) rest ≡ attribute_rows a rs
front a rs rest i e l p =
    ap (filter (is_upto a)) (e ∙ (parted (is_before a) rs i l p).1)
    ∙ filter_filter (λ y. not (is_before a y)) (is_upto a) (λ y. sameb the_attribute y.unit.attribute a) (λ y. both (number y) (attribute_number a)) rs

-- neither before nor equal: beyond
not_upto : (m n : ℕ) → ltb m n ≡ false → eqb m n ≡ false → leb m n ≡ false
not_upto m n h e = grind (arith, nat_tests)

-- these are the rows of the attribute
pub own_rows : (a : Attribute) (rs rest own : List Row) (i j : ℕ) → rest ≡ drop i rs → own ≡ take j rest → i ≤ length rs → j ≤ length rest
    → IsPartitionPoint (λ y. is_before a y ≡ true) (λ y. is_before a y ≡ false) rs i
    → IsPartitionPoint (λ y. is_upto a y ≡ true) (λ y. is_upto a y ≡ false) rest j
    → own ≡ attribute_rows a rs
own_rows a rs rest own i j er eo li lj pi pj = eo ∙ (parted (is_upto a) rest j lj pj).0 ∙ front a rs rest i er li pi

-- where the first that is left is of another attribute, there are none
pub no_rows : (a : Attribute) (rs rest : List Row) (i : ℕ) → rest ≡ drop i rs → i ≤ length rs
    → IsPartitionPoint (λ y. is_before a y ≡ true) (λ y. is_before a y ≡ false) rs i → IsPartitionedBy (is_upto a) rest
    → list_any (λ (r : Row). sameb the_attribute r.unit.attribute a) (take 1 rest) ≡ false → [] ≡ attribute_rows a rs
no_rows a rs [] i e l p h n = front a rs [] i e l p
no_rows a rs (r ∷ rest) i e l p h n =
    let kept : All (λ y. not (is_before a y) ≡ true) (r ∷ rest) = subst (All (λ y. not (is_before a y) ≡ true)) (sym (e ∙ (parted (is_before a) rs i l p).1)) (filter_passes (λ y. not (is_before a y)) rs) in
    let own = All-head (λ y. not (is_before a y) ≡ true) r rest kept in
    let first : is_upto a r ≡ false = not_upto (number r) (attribute_number a) (not_flip _ own) (no_other _ n) in
    (parted (is_upto a) (r ∷ rest) zero (omega arith) (point_zero (is_upto a) (r ∷ rest) h (λ d m. first))).0 ∙ front a rs (r ∷ rest) i e l p

-- ---- values among the rows of their attribute

-- what ties with a unit is of its attribute
own_test : (u : AttributeUnit) (r : Row) → is_eq (unit_cmp r.unit u) ≡ sameb the_attribute r.unit.attribute u.attribute && is_eq (unit_cmp r.unit u)
own_test u r = elim (cases_Bool (is_eq (unit_cmp r.unit u))) [
  | inl t ↦ let s : sameb the_attribute r.unit.attribute u.attribute ≡ true = true_same the_attribute r.unit.attribute u.attribute (ap (λ (v : AttributeUnit). v.attribute) (unit_same r.unit u t)) in rw (t, s) refl
  | inr n ↦ rw n (sym (and-false (sameb the_attribute r.unit.attribute u.attribute)))
]

-- the values of a unit are among the rows of its attribute
pub values_own : (u : AttributeUnit) (rs : List Row) → values u (attribute_rows u.attribute rs) ≡ values u rs
values_own u rs = filter_filter (λ y. sameb the_attribute y.unit.attribute u.attribute) (λ y. is_eq (unit_cmp y.unit u)) (λ y. is_eq (unit_cmp y.unit u)) (own_test u) rs

-- a sound row of a multi-valued attribute is a value of it
whole_test : (kind : Kind) (a : Attribute) (r : Row) → is_multi_valued a ≡ true → has_fields r ≡ true → IsSoundRow kind r → is_eq (unit_cmp r.unit (whole a)) ≡ sameb the_attribute r.unit.attribute a
whole_test kind a r m full own = elim (cases_Bool (sameb the_attribute r.unit.attribute a)) [
  | inl t ↦
      let e : r.unit.attribute ≡ a = same_true the_attribute tt _ _ t in
      let u : whole a ≡ r.unit = ap whole (sym e) ∙ (row_in kind r.unit r.fields full own.own).1 (ap is_multi_valued e ∙ m) in
      ap (λ v. is_eq (unit_cmp r.unit v)) u ∙ ap is_eq (tied_itself unit_total r.unit) ∙ sym t
  | inr n ↦ own_test (whole a) r ∙ ap (λ b. b && is_eq (unit_cmp r.unit (whole a))) n ∙ sym n
]

-- those of a multi-valued attribute are all of them
pub values_all : (kind : Kind) (a : Attribute) (rs : List Row) → is_multi_valued a ≡ true → AreSound kind rs → values (whole a) rs ≡ attribute_rows a rs
values_all kind a [] m h = refl
values_all kind a (r ∷ rs) m h =
    let here = whole_test kind a r m (All-head (λ r. has_fields r ≡ true) r rs h.full) (All-head (IsSoundRow kind) r rs h.own) in
    ap₂ (λ b vs. if b then r ∷ vs else vs) here (values_all kind a rs m (tail_sound kind r rs h))
