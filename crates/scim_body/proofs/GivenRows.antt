-- The rows that a body gives of one attribute may stand in a resource.
use Rattle.std.proofs.Common.{◌≡◌, ◌<◌, ◌≤◌, ◌∙◌, ℕ, suc, Bool, true, false, ◌&&◌, List, [], ◌∷◌, ◌++◌, append-nil, Option, None, Some, option_map, length, get_or, map, filter, count_by, refl, ap, sym, subst, inl, inr, arith, true≢false}
use Rattle.std.specs.Prelude.{All, AllPairs, Contains, IsSome, is_none, not, nat_lt, cond, ◌||◌, if◌then◌else◌}
use Rattle.std.specs.List.{flat_map, list_any}
use Rattle.std.specs.declared.cmp.Ordering.{Ordering}
use Rattle.std.specs.declared.cmp.Ordering.TheVariants.{Less, Equal}
use Rattle.std.specs.Ordering.{nat_cmp, ordering_then, is_lt, is_eq, is_gt}
use Rattle.std.specs.Cmp.{nat_cmp_is}
use Rattle.std.proofs.lemmas.Bool.{cases_Bool, or_parts, ltb-false, not-true}
use Rattle.std.proofs.lemmas.List.Elements.{All-nil, All-cons, All-head, All-weaker, All-map, All-push, All-filter, filter_passes}
use Rattle.std.proofs.lemmas.List.Filters.{length-filter_both, sum_by-filter_both}
use Rattle.std.proofs.lemmas.List.Folds.{flat_map-map}
use Rattle.std.proofs.lemmas.List.Kept.{AllPairs-filter}
use Rattle.std.proofs.lemmas.List.Sums.{count_by-le-length}
use denote.Enum.Bare.{true_same}
use Rattle.serde_json.specs.Data.{Data}
use Rattle.serde_json.specs.Find.{as_array}
use Rattle.scim_schema.specs.declared.Kind.{Kind}
use Rattle.scim_schema.specs.declared.Attribute.{Attribute}
use Rattle.scim_schema.specs.declared.Attribute.TheVariants.{UserName, Members}
use Rattle.scim_schema.specs.declared.SubAttribute.TheVariants.{Value}
use Rattle.scim_schema.specs.declared.Leaf.{Leaf}
use Rattle.scim_schema.specs.declared.Unit.{Unit as AttributeUnit}
use Rattle.scim_schema.specs.contracts.Attribute.{the_type as the_attribute}
use Rattle.scim_schema.specs.Table.{attributes, HasLeaf}
use Rattle.scim_schema.specs.Characteristics.{characteristics_of, is_multi_valued}
use Rattle.scim_schema.specs.Units.{simple, leaf_at, unit_of, whole}
use Rattle.scim_schema.specs.Mutability.{is_read_only, is_dropped}
use Rattle.scim_cell.specs.declared.atoms.Atom.{Atom}
use Rattle.scim_cell.specs.declared.rows.Field.{Field}
use Rattle.scim_cell.specs.Content.{HasType}
use Rattle.scim_cell.specs.Place.{attribute_number, sub_attribute_number, unit_cmp}
use Rattle.scim_cell.specs.Rows.{Row, has_fields, values, atom_in, is_primary, IsSoundField, IsSoundRow, Precedes}
use Rattle.scim_value.specs.Resource.{IsShort}
use Rattle.scim_value.proofs.Facts.{precedes_less, unit_same}
use Rattle.scim_body.specs.BodyNames.{listed}
use Rattle.scim_cell.specs.SameValues.{member_value, is_members, is_nameless, is_same_value, with_value, with_values}
use Rattle.scim_body.specs.BodyValues.{is_absent, fields_of, value_with, value_of, are_refused, checked, listed_values, values_of}
use Rattle.scim_body.specs.Drafts.{MayBeGiven, is_empty}
use Rattle.scim_body.specs.Bodies.{Given, field_given, whole_given}
use Rattle.scim_body.proofs.CollectedLemmas.{mapped, chained, not_refused, unless, none_passes, kept_map, one_pair, pairs_map, collected_all}
use Rattle.scim_body.proofs.LeafTables.{many_unit}
use Rattle.scim_body.proofs.GivenFields.{Rises, AreFields, fields_given}

-- ---- the order of units

-- a number ties with itself
number_tied : (n : ℕ) → nat_cmp n n ≡ Equal
number_tied n = sym (nat_cmp_is n n Equal refl)

-- and is less than a higher one
number_less : (m n : ℕ) → m < n → nat_cmp m n ≡ Less
number_less m n h = sym (nat_cmp_is m n Less h)

-- two ties make a tie
both_tied : (o p : Ordering) → o ≡ Equal → p ≡ Equal → ordering_then o p ≡ Equal
both_tied o p e f = rw (e, f)

-- what is less by the first order is less
first_less : (o p : Ordering) → o ≡ Less → ordering_then o p ≡ Less
first_less o p e = rw e

-- so is what ties by the first and is less by the second
second_less : (o p : Ordering) → o ≡ Equal → p ≡ Less → ordering_then o p ≡ Less
second_less o p e f = rw (e, f)

-- a unit ties with itself
unit_tied : (u : AttributeUnit) → unit_cmp u u ≡ Equal
unit_tied u = both_tied _ _ (number_tied (attribute_number u.attribute)) (number_tied (sub_attribute_number u.sub_attribute))

-- a unit of a lower attribute precedes one of a higher
pub attribute_precedes : (u v : AttributeUnit) → attribute_number u.attribute < attribute_number v.attribute → Precedes u v
attribute_precedes u v h = precedes_less u v (ap is_lt (first_less _ _ (number_less _ _ h)))

-- of one attribute, a lower sub-attribute precedes a higher
sub_attribute_precedes : (u v : AttributeUnit) → u.attribute ≡ v.attribute → sub_attribute_number u.sub_attribute < sub_attribute_number v.sub_attribute → Precedes u v
sub_attribute_precedes u v e h =
    let same : nat_cmp (attribute_number u.attribute) (attribute_number v.attribute) ≡ Equal
    = ap (λ a. nat_cmp (attribute_number a) (attribute_number v.attribute)) e ∙ number_tied (attribute_number v.attribute) in
    precedes_less u v (ap is_lt (second_less _ _ same (number_less _ _ h)))

-- a unit that isn't another doesn't tie with it
pub other_unit : (u v : AttributeUnit) → (u ≡ v → ⊥) → is_eq (unit_cmp u v) ≡ false
other_unit u v n = elim (cases_Bool (is_eq (unit_cmp u v))) [
  | inl t ↦ absurd (n (unit_same u v t))
  | inr e ↦ e
]

-- one row may stand before another
abbrev pub Before : Row → Row → Type 0
Before r s = Precedes r.unit s.unit

-- rows in order, all of a unit that isn't multi-valued, are one at most
at_most_one : (u : AttributeUnit) (rs : List Row) → is_multi_valued u.attribute ≡ false → All (λ (r : Row). r.unit ≡ u) rs → AllPairs Before rs → length rs ≤ 1
at_most_one u [] single own pairs = omega arith
at_most_one u (r ∷ []) single own pairs = omega arith
at_most_one u (r ∷ s ∷ rs) single own pairs =
    let first : r.unit ≡ u = own 0 r (omega arith) in
    let second : s.unit ≡ u = own 1 r (omega arith) in
    let tied : is_eq (unit_cmp r.unit s.unit) ≡ true = (λ i. is_eq (unit_cmp (first i) (second i))) ∙ ap is_eq (unit_tied u) in
    let many : is_multi_valued r.unit.attribute ≡ true = (pairs 0 1 r (omega arith) (omega arith)).1 tied in
    absurd (true≢false (sym many ∙ ap (λ (v : AttributeUnit). is_multi_valued v.attribute) first ∙ single))

-- ---- rows of an attribute

-- a row that a body may give
pub record IsGivenRow (kind : Kind) (r : Row) : Type 0 where
  pub full : has_fields r ≡ true
  pub own : IsSoundRow kind r
  pub may_be_given : All (MayBeGiven kind) r.fields
  pub named : r.unit.attribute ≡ Members → IsSome (atom_in (leaf_at Members Value) r.fields)

-- rows that a body may give of an attribute
pub record AreGivenRows (kind : Kind) (a : Attribute) (rs : List Row) : Type 0 where
  pub of_attribute : All (λ (r : Row). r.unit.attribute ≡ a) rs
  pub own : All (IsGivenRow kind) rs
  pub in_order : AllPairs Before rs
  pub one_primary : count_by is_primary (values (whole a) rs) ≤ 1
  pub few : length (values (whole a) rs) ≤ 10000

-- none are
pub no_rows : (kind : Kind) (a : Attribute) → AreGivenRows kind a []
no_rows kind a = record {
  of_attribute = All-nil (λ (r : Row). r.unit.attribute ≡ a);
  own = All-nil (IsGivenRow kind);
  in_order = one_pair Before [] (omega arith);
  one_primary = omega arith;
  few = omega arith;
}

-- ---- attributes with one value

-- a field of the attribute that may be written; it may be a password
pub record IsSingle (kind : Kind) (a : Attribute) (f : Field) : Type 0 where
  pub of_attribute : f.leaf.attribute ≡ a
  pub writable : is_read_only kind f.leaf ≡ false
  pub short : IsShort f.atom
  pub filled : f.leaf ≡ simple UserName → is_empty f.atom ≡ false
  pub of_kind : HasLeaf kind f.leaf
  pub typed : HasType (characteristics_of kind f.leaf).attribute_type f.atom

-- the row of a field of its own
abbrev pub row_with : Field → Row
row_with f = record { unit = unit_of f.leaf; fields = f ∷ [] }

-- a row of a single-valued attribute isn't one of `members`
not_members : (a b : Attribute) → is_multi_valued a ≡ false → b ≡ a → b ≡ Members → ⊥
not_members a b single e m = let many : is_multi_valued a ≡ true = ap is_multi_valued (sym e ∙ m) in true≢false (sym many ∙ single)

-- a field that is kept makes a row that may be given
pub single_row : (kind : Kind) (a : Attribute) (f : Field) → is_multi_valued a ≡ false → IsSingle kind a f → is_dropped f.leaf ≡ false → IsGivenRow kind (row_with f)
single_row kind a f single h kept = record {
  full = refl;
  own = record {
    own = All-cons (IsSoundField kind (unit_of f.leaf)) f [] (refl, h.of_kind, h.typed) (All-nil (IsSoundField kind (unit_of f.leaf)));
    in_order = one_pair (λ (x y : Field). sub_attribute_number x.leaf.sub_attribute < sub_attribute_number y.leaf.sub_attribute) (f ∷ []) (omega arith);
  };
  may_be_given = All-cons (MayBeGiven kind) f [] (record { writable = h.writable; kept = kept; short = h.short; filled = h.filled }) (All-nil (MayBeGiven kind));
  named = λ e. absurd (not_members a f.leaf.attribute single h.of_attribute e);
}

-- a leaf of a single-valued attribute is its own unit
single_unit : (a : Attribute) (l : Leaf) → is_multi_valued a ≡ false → l.attribute ≡ a → (unit_of l).sub_attribute ≡ l.sub_attribute
single_unit a l single e = let one : is_multi_valued l.attribute ≡ false = ap is_multi_valued e ∙ single in ap (λ (many : Bool). if many then None else l.sub_attribute) one

-- rows of two fields stand in the order of the fields
single_before : (kind : Kind) (a : Attribute) (f g : Field) → is_multi_valued a ≡ false → IsSingle kind a f → IsSingle kind a g → Rises f g → Before (row_with f) (row_with g)
single_before kind a f g single x y less =
    let e = ap sub_attribute_number (single_unit a f.leaf single x.of_attribute) in
    let k = ap sub_attribute_number (single_unit a g.leaf single y.of_attribute) in
    let lower : sub_attribute_number (unit_of f.leaf).sub_attribute < sub_attribute_number (unit_of g.leaf).sub_attribute = omega (arith, e, k, less) in
    sub_attribute_precedes (unit_of f.leaf) (unit_of g.leaf) (x.of_attribute ∙ sym y.of_attribute) lower

-- a field that is kept
abbrev is_kept : Field → Bool
is_kept f = not (is_dropped f.leaf)

-- the rows of fields that are kept
kept_rows : (kind : Kind) (a : Attribute) (fs : List Field) → is_multi_valued a ≡ false → All (IsSingle kind a) fs → AllPairs Rises fs → All (λ f. is_kept f ≡ true) fs
    → AreGivenRows kind a (map row_with fs)
kept_rows kind a fs single own rise kept =
    let pairs : AllPairs Before (map row_with fs)
    = pairs_map Before row_with fs (λ i j d l m. single_before kind a (get_or fs i d) (get_or fs j d) single (own i d (omega arith)) (own j d m) (rise i j d l m)) in
    let here = filter_passes (λ (r : Row). is_eq (unit_cmp r.unit (whole a))) (map row_with fs) in
    let one : length (values (whole a) (map row_with fs)) ≤ 1
    = at_most_one (whole a) (values (whole a) (map row_with fs)) single
    (All-weaker (λ (r : Row). is_eq (unit_cmp r.unit (whole a)) ≡ true) (λ (r : Row). r.unit ≡ whole a) (λ r t. unit_same r.unit (whole a) t) (values (whole a) (map row_with fs)) here)
    (AllPairs-filter Before (λ (r : Row). is_eq (unit_cmp r.unit (whole a))) (map row_with fs) pairs) in
    record {
      of_attribute = All-map (λ (r : Row). r.unit.attribute ≡ a) row_with fs (All-weaker (IsSingle kind a) (λ f. f.leaf.attribute ≡ a) (λ f h. h.of_attribute) fs own);
      own = All-map (IsGivenRow kind) row_with fs (λ i d l. single_row kind a (get_or fs i d) single (own i d l) (not-true _ (kept i d l)));
      in_order = pairs;
      one_primary = omega (arith, count_by-le-length is_primary (values (whole a) (map row_with fs)));
      few = omega arith;
    }

-- the rows of fields, without those that aren't kept
pub single_rows : (kind : Kind) (a : Attribute) (fs : List Field) → is_multi_valued a ≡ false → All (IsSingle kind a) fs → AllPairs Rises fs
    → AreGivenRows kind a (flat_map (λ (g : Given). g.values) (map field_given fs))
single_rows kind a fs single own rise =
    let made : flat_map (λ (g : Given). g.values) (map field_given fs) ≡ map row_with (filter is_kept fs)
    = flat_map-map (λ (g : Given). g.values) field_given fs ∙ kept_map (λ (f : Field). is_dropped f.leaf) row_with fs in
    subst (AreGivenRows kind a) (sym made)
    (kept_rows kind a (filter is_kept fs) single (All-filter is_kept (IsSingle kind a) fs own) (AllPairs-filter Rises is_kept fs rise) (filter_passes is_kept fs))

-- ---- attributes with many values

-- a value of a multi-valued attribute
pub record IsValueOf (kind : Kind) (a : Attribute) (r : Row) : Type 0 where
  pub unit : r.unit ≡ whole a
  pub full : has_fields r ≡ true
  pub own : IsSoundRow kind r
  pub may_be_given : All (MayBeGiven kind) r.fields

-- fields make a value
pub value_made : (kind : Kind) (a : Attribute) (fs : List Field) → is_multi_valued a ≡ true → AreFields kind a fs → All (IsValueOf kind a) (value_with a fs)
value_made kind a [] many h = All-nil (IsValueOf kind a)
value_made kind a (f ∷ fs) many h =
    let sound : All (IsSoundField kind (whole a)) (f ∷ fs)
    = λ i d l. (let o = h.own i d l in (ap unit_of o.1.leaf ∙ many_unit a o.0 many, o.1.of_kind, o.1.typed)) in
    let given : All (MayBeGiven kind) (f ∷ fs) = λ i d l. (h.own i d l).1.may_be_given in
    All-cons (IsValueOf kind a) (record { unit = whole a; fields = f ∷ fs }) []
    (record { unit = refl; full = refl; own = record { own = sound; in_order = h.in_order }; may_be_given = given }) (All-nil (IsValueOf kind a))

-- so does what is read of an item
item_made : (kind : Kind) (a : Attribute) (d : Data) (rs : List Row) → Contains (attributes kind) a → is_read_only kind (simple a) ≡ false → is_multi_valued a ≡ true
    → value_of kind a d ≡ Some rs → All (IsValueOf kind a) rs
item_made kind a d rs has writable many h =
    unless (All (IsValueOf kind a)) (is_absent d) (option_map (value_with a) (fields_of kind a d)) rs (All-nil (IsValueOf kind a))
    (λ n e. (let m = mapped (value_with a) (fields_of kind a d) rs e in
    subst (All (IsValueOf kind a)) m.2 (value_made kind a m.0 many (fields_given kind a d m.0 has writable m.1)))) h

-- what holds of values holds of those of them that are no others
pub with_all : (P : Row → Type 0) (a : Attribute) (rs more : List Row) → All P rs → All P more → All P (with_values a rs more)
with_all P a rs [] h k = h
with_all P a rs (r ∷ more) h k =
    let added : All P (with_value a rs r) = go (list_any (λ s. is_same_value a s r) rs) in
    with_all P a (with_value a rs r) more added (λ i d l. k (suc i) d (omega arith))
  where
    go : (b : Bool) → All P (if b then rs else rs ++ r ∷ [])
    go true = h
    go false = All-push P rs r h (All-head P r more k)

-- of what is kept by a filter no more passes a test than of all
count_filter : (p q : Row → Bool) (rs : List Row) → count_by q (filter p rs) ≤ count_by q rs
count_filter p q rs = omega (arith, sum_by-filter_both p (λ r. not (p r)) (λ r. refl) (λ r. cond (q r) 1 0) rs)

-- nor is it longer
length_filter : (p : Row → Bool) (rs : List Row) → length (filter p rs) ≤ length rs
length_filter p rs = omega (arith, length-filter_both p (λ r. not (p r)) (λ r. refl) rs)

-- a member that isn't nameless has a `value`
has_name : (o : Option Atom) (b : Bool) → b ≡ true → b && is_none o ≡ false → IsSome o
has_name None b t h = absurd (cc (t, h))
has_name (Some x) b t h = refl

-- values that aren't refused are rows of the attribute
values_given : (kind : Kind) (a : Attribute) (rs : List Row) → is_multi_valued a ≡ true → All (IsValueOf kind a) rs → are_refused a rs ≡ false → AreGivenRows kind a rs
values_given kind a rs many own h =
    let refused = or_parts (nat_lt 1 (count_by is_primary rs) || nat_lt 10000 (length rs)) (list_any (is_nameless a) rs) h in
    let numbers = or_parts (nat_lt 1 (count_by is_primary rs)) (nat_lt 10000 (length rs)) refused.0 in
    let named = none_passes (is_nameless a) rs refused.1 in
    let test = λ (r : Row). is_eq (unit_cmp r.unit (whole a)) in
    record {
      of_attribute = All-weaker (IsValueOf kind a) (λ (r : Row). r.unit.attribute ≡ a) (λ r o. ap (λ (u : AttributeUnit). u.attribute) o.unit) rs own;
      own = λ i d l. (let o = own i d l in record {
        full = o.full;
        own = o.own;
        may_be_given = o.may_be_given;
        named = λ e. has_name (member_value (get_or rs i d)) (is_members a) (true_same the_attribute a Members (sym (ap (λ (u : AttributeUnit). u.attribute) o.unit) ∙ e)) (named i d l);
      });
      in_order = λ i j d l m. (let x = (own i d (omega arith)).unit in let y = (own j d m).unit in
          ((λ k. is_gt (unit_cmp (x k) (y k))) ∙ ap is_gt (unit_tied (whole a)), λ t. ap (λ (u : AttributeUnit). is_multi_valued u.attribute) x ∙ many));
      one_primary = omega (arith, count_filter test is_primary rs, ltb-false 1 (count_by is_primary rs) numbers.0);
      few = omega (arith, length_filter test rs, ltb-false 10000 (length rs) numbers.1);
    }

-- the values that are listed for a multi-valued attribute
pub values_listed : (kind : Kind) (a : Attribute) (d : Data) (rs : List Row) → Contains (attributes kind) a → is_read_only kind (simple a) ≡ false → is_multi_valued a ≡ true
    → listed_values kind a d ≡ Some rs → All (IsValueOf kind a) rs
values_listed kind a d rs has writable many h =
    collected_all (λ (d : Data). Unit {0}) (IsValueOf kind a) (value_of kind a) (λ e vs q r. item_made kind a e vs has writable many r) (listed (as_array d) d) (λ i e l. tt) rs h

-- the values that are read of a multi-valued attribute
pub values_read : (kind : Kind) (a : Attribute) (d : Data) (rs : List Row) → Contains (attributes kind) a → is_read_only kind (simple a) ≡ false → is_multi_valued a ≡ true
    → values_of kind a d ≡ Some rs → AreGivenRows kind a rs
values_read kind a d rs has writable many h =
    let c = chained (λ vs. checked a (with_values a [] vs)) (listed_values kind a d) rs h in
    let own : All (IsValueOf kind a) c.0 = values_listed kind a d c.0 has writable many c.1 in
    let kept = not_refused (are_refused a (with_values a [] c.0)) (with_values a [] c.0) rs c.2 in
    subst (AreGivenRows kind a) kept.1 (values_given kind a (with_values a [] c.0) many (with_all (IsValueOf kind a) a [] c.0 (All-nil (IsValueOf kind a)) own) kept.0)

-- the rows of a unit that has values are those values
pub whole_rows : (a : Attribute) (rs : List Row) → flat_map (λ (g : Given). g.values) (whole_given a rs) ≡ rs
whole_rows a [] = refl
whole_rows a (r ∷ rs) = append-nil (r ∷ rs)
