-- Fields of one value that a resource may keep: put in their place, given over others, taken away.
use Rattle.std.proofs.Common.{◌≡◌, ◌≢◌, ◌≤◌, ◌<◌, ◌∙◌, ℕ, zero, suc, Bool, true, false, refl, sym, ap, subst, arith, inl, inr, List, [], ◌∷◌, ◌++◌, length, filter}
use Rattle.std.specs.Prelude.{Option, None, Some, option_map, option_and_then, nat_le, if◌then◌else◌, All, AllPairs, Contains, not, ◌&&◌, ◌||◌}
use Rattle.std.specs.List.{list_all, list_any}
use Rattle.std.specs.declared.cmp.Ordering.{Ordering}
use Rattle.std.specs.declared.cmp.Ordering.TheVariants.{Equal}
use Rattle.std.specs.Ordering.{nat_cmp, ordering_then, is_lt, is_gt}
use Rattle.std.specs.Cmp.{nat_cmp_is}
use Rattle.std.proofs.lemmas.Bool.{cases_Bool, leb-true}
use Rattle.std.proofs.lemmas.Bool.Decides.{nat_tests}
use Rattle.std.proofs.lemmas.Option.{same_Some, cond_some}
use Rattle.std.proofs.lemmas.List.Elements.{All-nil, All-cons, All-head, All-tail, All-append, All-weaker, All-filter, filter_passes}
use Rattle.std.proofs.lemmas.List.Kept.{AllPairs-cons, AllPairs-filter}
use Rattle.std.proofs.lemmas.List.Sums.{AllPass-from_list_all}
use Rattle.std.proofs.lemmas.Map.Views.{Contains-from_any}
use denote.Enum.Bare.{sameb}
use Rattle.scim_schema.specs.declared.Kind.{Kind}
use Rattle.scim_schema.specs.declared.Kind.TheVariants.{User, Group}
use Rattle.scim_schema.specs.declared.Attribute.TheVariants.{Groups}
use Rattle.scim_schema.specs.declared.Leaf.{Leaf}
use Rattle.scim_schema.specs.declared.SubAttribute.{SubAttribute}
use Rattle.scim_schema.specs.declared.SubAttribute.TheVariants.{Primary}
use Rattle.scim_schema.specs.declared.Unit.{Unit as AttributeUnit}
use Rattle.scim_schema.specs.declared.characteristics.AttributeType.{AttributeType}
use Rattle.scim_schema.specs.declared.characteristics.AttributeType.TheVariants.{String, Boolean, Reference, Binary}
use Rattle.scim_schema.specs.contracts.SubAttribute.{the_type as the_sub_attribute}
use Rattle.scim_schema.specs.Characteristics.{characteristics_of, sub_attribute_characteristics, is_multi_valued}
use Rattle.scim_schema.specs.Mutability.{is_fixed, is_dropped}
use Rattle.scim_schema.specs.Table.{leaves, sub_attributes, HasLeaf}
use Rattle.scim_schema.specs.Units.{whole, units, unit_of, leaf_at, is_same_leaf, is_same_unit}
use Rattle.scim_schema.proofs.Facts.{and_first, and_second, is_same_unit-Decides, leaf_one, sub_attribute_one}
use Rattle.scim_cell.specs.declared.atoms.Atom.{Atom}
use Rattle.scim_cell.specs.declared.atoms.Atom.TheVariants.{Text, Truth}
use Rattle.scim_cell.specs.declared.rows.Field.{Field}
use Rattle.scim_cell.specs.Content.{HasType}
use Rattle.scim_cell.specs.Place.{attribute_number, sub_attribute_number}
use Rattle.scim_cell.specs.Rows.{Row, atom_in, is_primary, is_truth, has_fields, is_empty, IsSoundField}
use Rattle.scim_value.specs.Resource.{IsShort, MayBeKept}
use Rattle.scim_value.proofs.Facts.{not_flip}
use Rattle.scim_change.proofs.Facts.{kept_field}
use Rattle.scim_filter_grammar.specs.declared.tree.Literal.{Literal}
use Rattle.scim_filter_grammar.specs.declared.tree.Literal.TheVariants as literal
use Rattle.scim_filter_grammar.specs.declared.tree.Meant.{Meant}
use Rattle.scim_filter_grammar.specs.declared.tree.Meant.TheVariants as meant
use Rattle.scim_filter_grammar.specs.declared.tree.Operator.TheVariants.{Eq}
use Rattle.scim_filter_grammar.specs.Tree.{Tree, And, Compare, Values}
use Rattle.scim_filter_grammar.specs.Types.{truth_in}
use Rattle.scim_patch_values.specs.Described.{text_atom, atom_for, has_sub_attribute, field_for, equality, joined, equalities, is_each_once, if_each_once, described}
use Rattle.scim_patch_values.specs.Fields.{field_cmp, put_field, over, row_over, without, row_without, not_primary, demoted}
use Rattle.scim_patch_steps.specs.Patch.{AreGivenFields}

-- ---- what is kept of one value

-- the one field comes before the other
abbrev pub Rises : Field → Field → Type 0
Rises f g = sub_attribute_number f.leaf.sub_attribute < sub_attribute_number g.leaf.sub_attribute

-- a field of the unit and the kind, that a resource may keep
abbrev pub IsKeptField : Kind → AttributeUnit → Field → Type 0
IsKeptField kind u f = IsSoundField kind u f × MayBeKept kind f

-- fields of one value of the unit, in order, that a resource may keep
pub record AreKeptFields (kind : Kind) (u : AttributeUnit) (fs : List Field) : Type 0 where
  pub own : All (IsSoundField kind u) fs
  pub in_order : AllPairs Rises fs
  pub kept : All (MayBeKept kind) fs

-- a value of the unit that a resource may keep; it may be without fields
pub record IsValueOf (kind : Kind) (u : AttributeUnit) (r : Row) : Type 0 where
  pub unit : r.unit ≡ u
  pub fields : AreKeptFields kind u r.fields

-- ---- lists

-- what holds of each two holds of the first and each later one
head_pairs : {X : Type 0} (R : X → X → Type 0) (x : X) (xs : List X) → AllPairs R (x ∷ xs) → All (R x) xs
head_pairs R x xs h k d l = h zero (suc k) d (omega arith) (omega arith)

-- and of each two later ones
tail_pairs : {X : Type 0} (R : X → X → Type 0) (x : X) (xs : List X) → AllPairs R (x ∷ xs) → AllPairs R xs
tail_pairs R x xs h i j d l m = h (suc i) (suc j) d (omega arith) (omega arith)

-- what holds of each two of a list, of each two of another, and of one and the other
pairs_append : {X : Type 0} (R : X → X → Type 0) (xs ys : List X) → AllPairs R xs → AllPairs R ys → All (λ x. All (R x) ys) xs → AllPairs R (xs ++ ys)
pairs_append R [] ys a b c = b
pairs_append R (x ∷ xs) ys a b c =
    AllPairs-cons R x (xs ++ ys) (All-append (R x) xs ys (head_pairs R x xs a) (All-head (λ z. All (R z) ys) x xs c))
    (pairs_append R xs ys (tail_pairs R x xs a) b (All-tail (λ z. All (R z) ys) x xs c))

-- ---- options

-- what is mapped was there
mapped : {A B : Type 0} (f : A → B) (o : Option A) (y : B) → option_map f o ≡ Some y → (x : A) × (o ≡ Some x) × (f x ≡ y)
mapped f None y h = absurd (cc h)
mapped f (Some x) y h = (x, refl, same_Some (f x) y h)

-- what comes of two steps came of the first and then of the second
chained : {A B : Type 0} (f : A → Option B) (o : Option A) (y : B) → option_and_then f o ≡ Some y → (x : A) × (o ≡ Some x) × (f x ≡ Some y)
chained f None y h = absurd (cc h)
chained f (Some x) y h = (x, refl, h)

-- what is there only where a test is true
if_there : {A : Type 0} (b : Bool) (o : Option A) (y : A) → (if b then o else None) ≡ Some y → (b ≡ true) × (o ≡ Some y)
if_there true o y h = (refl, h)
if_there false o y h = absurd (cc h)

-- ---- fields of a value

-- no fields are those of a value
pub no_fields : (kind : Kind) (u : AttributeUnit) → AreKeptFields kind u []
no_fields kind u = record {
  own = All-nil (IsSoundField kind u);
  in_order = λ i j d l m. absurd (omega arith);
  kept = All-nil (MayBeKept kind);
}

-- each field of a value is of its unit, and may be kept
pub each_kept : (kind : Kind) (u : AttributeUnit) (fs : List Field) → AreKeptFields kind u fs → All (IsKeptField kind u) fs
each_kept kind u fs h k d l = (h.own k d l, h.kept k d l)

-- ---- a field in its place

-- a number that compares as less is less
less_number : (m n : ℕ) → is_lt (nat_cmp m n) ≡ true → m < n
less_number m n h = grind (arith, nat_tests, h)

-- and one that compares as greater is greater
greater_number : (m n : ℕ) → is_gt (nat_cmp m n) ≡ true → n < m
greater_number m n h = grind (arith, nat_tests, h)

-- where the first two of three orders tie, the third tells
third_tells : (o p q : Ordering) → o ≡ Equal → p ≡ Equal → ordering_then o (ordering_then p q) ≡ q
third_tells o p q e f = rw (e, f) refl

-- a number ties with one that it is
number_tied : (m n : ℕ) → m ≡ n → nat_cmp m n ≡ Equal
number_tied m n h = sym (nat_cmp_is m n Equal h)

-- fields of one unit stand as their sub-attributes do
field_order : (kind : Kind) (u : AttributeUnit) (f g : Field) → IsSoundField kind u f → IsSoundField kind u g
    → field_cmp f g ≡ nat_cmp (sub_attribute_number f.leaf.sub_attribute) (sub_attribute_number g.leaf.sub_attribute)
field_order kind u f g x y =
    let same : attribute_number f.leaf.attribute ≡ attribute_number g.leaf.attribute = ap (λ (v : AttributeUnit). attribute_number v.attribute) (x.0 ∙ sym y.0) in
    third_tells _ _ _ (number_tied (attribute_number f.leaf.attribute) (attribute_number g.leaf.attribute) same) (number_tied 0 0 refl)

module _ (kind : Kind) (u : AttributeUnit) where
  -- a field that compares as less comes before
  less_rises : (f g : Field) → IsSoundField kind u f → IsSoundField kind u g → is_lt (field_cmp f g) ≡ true → Rises f g
  less_rises f g x y h = less_number _ _ (ap is_lt (sym (field_order kind u f g x y)) ∙ h)

  -- and one that compares as greater behind
  greater_rises : (f g : Field) → IsSoundField kind u f → IsSoundField kind u g → is_gt (field_cmp g f) ≡ true → Rises f g
  greater_rises f g x y h = greater_number _ _ (ap is_gt (sym (field_order kind u g f y x)) ∙ h)

  -- what holds of a field and of others holds of all with it in its place
  pub put_each : (P : Field → Type 0) (f : Field) (fs : List Field) → P f → All P fs → All P (put_field f fs)
  put_each P f fs p h =
      let low = λ (g : Field). is_lt (field_cmp g f) in
      let high = λ (g : Field). is_gt (field_cmp g f) in
      All-append P (filter low fs) (f ∷ filter high fs) (All-filter low P fs h) (All-cons P f (filter high fs) p (All-filter high P fs h))

  -- they are in order
  put_rises : (f : Field) (fs : List Field) → IsSoundField kind u f → All (IsSoundField kind u) fs → AllPairs Rises fs → AllPairs Rises (put_field f fs)
  put_rises f fs x own rises =
      let low = λ (g : Field). is_lt (field_cmp g f) in
      let high = λ (g : Field). is_gt (field_cmp g f) in
      let lows : All (λ g. Rises g f) (filter low fs)
      = λ k d l. less_rises _ f (All-filter low (IsSoundField kind u) fs own k d l) x (filter_passes low fs k d l) in
      let highs : All (Rises f) (filter high fs)
      = λ k d l. greater_rises f _ x (All-filter high (IsSoundField kind u) fs own k d l) (filter_passes high fs k d l) in
      pairs_append Rises (filter low fs) (f ∷ filter high fs) (AllPairs-filter Rises low fs rises)
      (AllPairs-cons Rises f (filter high fs) highs (AllPairs-filter Rises high fs rises))
      (All-weaker (λ g. Rises g f) (λ g. All (Rises g) (f ∷ filter high fs))
      (λ g r. All-cons (Rises g) f (filter high fs) r (All-weaker (Rises f) (Rises g) (λ i s. omega (arith, r, s)) (filter high fs) highs)) (filter low fs) lows)

  -- a field put in its place among those of a value
  pub put_kept : (f : Field) (fs : List Field) → IsKeptField kind u f → AreKeptFields kind u fs → AreKeptFields kind u (put_field f fs)
  put_kept f fs x h = record {
    own = put_each (IsSoundField kind u) f fs x.0 h.own;
    in_order = put_rises f fs x.0 h.own h.in_order;
    kept = put_each (MayBeKept kind) f fs x.1 h.kept;
  }

  -- fields given over those of a value
  pub over_kept : (given fs : List Field) → All (IsKeptField kind u) given → AreKeptFields kind u fs → AreKeptFields kind u (over given fs)
  over_kept [] fs g h = h
  over_kept (f ∷ given) fs g h =
      over_kept given (put_field f fs) (All-tail (IsKeptField kind u) f given g) (put_kept f fs (All-head (IsKeptField kind u) f given g) h)

  -- a value with fields given over its own
  pub row_over_kept : (given : List Field) (r : Row) → All (IsKeptField kind u) given → IsValueOf kind u r → IsValueOf kind u (row_over given r)
  row_over_kept given r g h = record { unit = h.unit; fields = over_kept given r.fields g h.fields }

  -- fields without that of a leaf
  pub without_kept : (l : Leaf) (fs : List Field) → AreKeptFields kind u fs → AreKeptFields kind u (without l fs)
  without_kept l fs h =
      let other = λ (f : Field). not (is_same_leaf f.leaf l) in
      record {
        own = All-filter other (IsSoundField kind u) fs h.own;
        in_order = AllPairs-filter Rises other fs h.in_order;
        kept = All-filter other (MayBeKept kind) fs h.kept;
      }

  -- a value without the field of a leaf
  pub row_without_kept : (l : Leaf) (r : Row) → IsValueOf kind u r → IsValueOf kind u (row_without l r)
  row_without_kept l r h = record { unit = h.unit; fields = without_kept l r.fields h.fields }

-- the fields that a client gives of a value may be kept
pub given_kept : (kind : Kind) (u : AttributeUnit) (fs : List Field) → AreGivenFields kind u fs → AreKeptFields kind u fs
given_kept kind u fs h = record { own = h.own; in_order = h.in_order; kept = λ k d l. kept_field kind _ (h.may_be_given k d l) }

-- ---- the primary one

-- an atom that is there is that of a field
pub field_found : (P : Field → Type 0) (l : Leaf) (fs : List Field) (x : Atom) → atom_in l fs ≡ Some x → All P fs → (f : Field) × P f × (f.leaf ≡ l) × (f.atom ≡ x)
field_found P l [] x e h = absurd (cc e)
field_found P l (f ∷ fs) x e h = elim (cases_Bool (is_same_leaf f.leaf l)) [
  | inl t ↦ (f, All-head P f fs h, leaf_one f.leaf l t, same_Some f.atom x (rw t at e))
  | inr n ↦ field_found P l fs x (rw n at e) (All-tail P f fs h)
]

-- an atom that is true is there
truth_there : (o : Option Atom) → is_truth o ≡ true → o ≡ Some (Truth true)
truth_there (Some (Truth true)) h = refl
truth_there _ h = absurd (cc h)

-- where the one boolean has the type, so has the other
either_truth : (t : AttributeType) (b c : Bool) → HasType t (Truth b) → HasType t (Truth c)
either_truth Boolean b c h = tt
either_truth _ b c h = absurd h

module _ (kind : Kind) (u : AttributeUnit) (r : Row) (own : IsValueOf kind u r) where
  -- a primary one has the field that says so
  pub primary_field : is_primary r ≡ true → (f : Field) × IsKeptField kind u f × (f.leaf ≡ leaf_at r.unit.attribute Primary) × (f.atom ≡ Truth true)
  primary_field t =
      let l = leaf_at r.unit.attribute Primary in
      field_found (IsKeptField kind u) l r.fields (Truth true) (truth_there (atom_in l r.fields) t) (each_kept kind u r.fields own.fields)

  -- so it may have one that says that it isn't
  not_primary_kept : is_primary r ≡ true → IsKeptField kind u (not_primary r)
  not_primary_kept t =
      let found = primary_field t in
      let f = found.0 in
      let told : HasType (characteristics_of kind f.leaf).attribute_type (Truth true) = subst (HasType (characteristics_of kind f.leaf).attribute_type) found.3 found.1.0.2 in
      let made : IsKeptField kind u (record { leaf = f.leaf; atom = Truth false })
      = ((found.1.0.0, found.1.0.1, either_truth _ true false told), record { own = found.1.1.own; stored = found.1.1.stored; short = λ n. tt }) in
      subst (λ l. IsKeptField kind u (record { leaf = l; atom = Truth false })) found.2 made

  -- a value whose `primary` becomes false where it is true
  pub demoted_kept : IsValueOf kind u (demoted r)
  demoted_kept = elim (cases_Bool (is_primary r)) [
    | inl t ↦ rw t (record { unit = own.unit; fields = put_kept kind u (not_primary r) r.fields (not_primary_kept t) own.fields })
    | inr n ↦ rw n own
  ]

-- fields with one in its place are some
put_some : (fs gs : List Field) (f : Field) → not (is_empty (fs ++ f ∷ gs)) ≡ true
put_some [] gs f = refl
put_some (g ∷ fs) gs f = refl

-- such a value keeps having fields
pub demoted_full : (r : Row) → has_fields r ≡ true → has_fields (demoted r) ≡ true
demoted_full r h = elim (cases_Bool (is_primary r)) [
  | inl t ↦ rw t (put_some _ _ (not_primary r))
  | inr n ↦ rw n h
]

-- ---- what the tables say of a unit with several values

-- what a list has passes a test that each of it passes
pub passes_in : {X : Type 0} (p : X → Bool) (xs : List X) (x : X) → list_all p xs ≡ true → Contains xs x → p x ≡ true
passes_in p xs x h c = subst (λ y. p y ≡ true) c.2 (AllPass-from_list_all p xs h c.0 x c.1)

-- whether the kind has the leaf, and stores it
abbrev is_stored : Kind → Leaf → Bool
is_stored kind l = list_any (is_same_leaf l) (leaves kind) && not (is_dropped l)

-- whether a unit is a whole attribute, whose sub-attributes the kind has and stores
abbrev is_plain : Kind → AttributeUnit → Bool
is_plain kind u = is_same_unit u (whole u.attribute) && list_all (λ b. is_stored kind (leaf_at u.attribute b)) (sub_attributes u.attribute)

-- each unit with several values is
all_plain : (kind : Kind) → list_all (λ u. not (is_multi_valued u.attribute) || is_plain kind u) (units kind) ≡ true
unfolding units
all_plain User = refl
all_plain Group = refl

-- no client may write `groups`
fixed_groups : (kind : Kind) → is_fixed kind (whole Groups) ≡ true
fixed_groups User = refl
fixed_groups Group = refl

-- a text that is an atom is short, and is the atom
text_described : (t : List ℕ) (atom : Atom) → text_atom t ≡ Some atom → (length t ≤ 65536) × (Text t ≡ atom)
text_described t atom h = let c = cond_some (nat_le (length t) 65536) (Text t) atom h in (leb-true (length t) 65536 c.0, c.1)

-- an atom of the type, with a text that isn't too long
abbrev IsShortAtom : AttributeType → Atom → Type 0
IsShortAtom t atom = HasType t atom × IsShort atom

-- the atom that a literal is has the type, and isn't too long
atom_described : (t : AttributeType) (x : Literal) (atom : Atom) → atom_for t x ≡ Some atom → IsShortAtom t atom
atom_described Boolean (literal.Truth b) atom h = subst (IsShortAtom Boolean) (same_Some (Truth b) atom h) (tt, tt)
atom_described Boolean (literal.Text s) atom h = let m = mapped Truth (truth_in s) atom h in subst (IsShortAtom Boolean) m.2 (tt, tt)
atom_described String (literal.Text s) atom h = let m = text_described s atom h in subst (IsShortAtom String) m.1 (tt, m.0)
atom_described Reference (literal.Text s) atom h = let m = text_described s atom h in subst (IsShortAtom Reference) m.1 (tt, m.0)
atom_described Binary (literal.Text s) atom h = let m = text_described s atom h in subst (IsShortAtom Binary) m.1 (tt, m.0)
atom_described _ _ atom h = absurd (cc h)

-- ---- the value that a filter describes

module _ (kind : Kind) (u : AttributeUnit) (of_kind : Contains (units kind) u) (free : is_fixed kind u ≡ false) (many : is_multi_valued u.attribute ≡ true) where
  -- the unit is a whole attribute, with sub-attributes of the kind that are stored
  plain : is_plain kind u ≡ true
  plain = rw many at (passes_in (λ v. not (is_multi_valued v.attribute) || is_plain kind v) (units kind) u (all_plain kind) of_kind)

  -- so it is the whole attribute
  whole_unit : u ≡ whole u.attribute
  whole_unit = (is_same_unit-Decides u (whole u.attribute)).0 (and_first _ _ plain)

  -- it isn't `groups`
  no_groups : u.attribute ≢ Groups
  no_groups e =
      let same : u ≡ whole Groups = whole_unit ∙ ap whole e in
      let fixed : is_fixed kind u ≡ true = ap (is_fixed kind) same ∙ fixed_groups kind in cc

  -- a sub-attribute with an atom of its type is a field that may be kept
  field_kept : (b : SubAttribute) (atom : Atom) → has_sub_attribute u.attribute b ≡ true → IsShortAtom (sub_attribute_characteristics u.attribute b).attribute_type atom
      → IsKeptField kind u (record { leaf = leaf_at u.attribute b; atom = atom })
  field_kept b atom has given =
      let l = leaf_at u.attribute b in
      let among : Contains (sub_attributes u.attribute) b
      = Contains-from_any {eq = λ x y. sameb the_sub_attribute y x} (λ x y e. sym (sub_attribute_one y x e)) b (sub_attributes u.attribute) has in
      let stored : is_stored kind l ≡ true = passes_in (λ c. is_stored kind (leaf_at u.attribute c)) (sub_attributes u.attribute) b (and_second _ _ plain) among in
      let there : HasLeaf kind l = Contains-from_any {eq = is_same_leaf} leaf_one l (leaves kind) (and_first _ _ stored) in
      let one : unit_of l ≡ u = ap (λ (m : Bool). record { attribute = u.attribute; sub_attribute = if m then None else Some b }) many ∙ sym whole_unit in (
        (one, there, given.0),
        record {
          own = no_groups;
          stored = not_flip _ (and_second _ _ stored);
          short = λ n. given.1;
        },
      )

  -- so is the field that a literal gives
  literal_kept : (b : SubAttribute) (x : Literal) (f : Field) → field_for u.attribute b x ≡ Some f → IsKeptField kind u f
  literal_kept b x f h =
      let type = (sub_attribute_characteristics u.attribute b).attribute_type in
      let c = if_there (has_sub_attribute u.attribute b) (option_map (λ atom. record { leaf = leaf_at u.attribute b; atom = atom }) (atom_for type x)) f h in
      let m = mapped (λ atom. record { leaf = leaf_at u.attribute b; atom = atom }) (atom_for type x) f c.1 in
      subst (IsKeptField kind u) m.2 (field_kept b m.0 c.0 (atom_described type x m.0 m.1))

  -- so is that of an equality
  equality_kept : (m : Meant) (x : Literal) (fs : List Field) → equality u.attribute m x ≡ Some fs → All (IsKeptField kind u) fs
  equality_kept (meant.SubAttribute a b) x fs h =
      let m = mapped (λ f. f ∷ []) (field_for u.attribute b x) fs h in
      subst (All (IsKeptField kind u)) m.2 (All-cons (IsKeptField kind u) m.0 [] (literal_kept b x m.0 m.1) (All-nil (IsKeptField kind u)))
  equality_kept _ x fs h = absurd (cc h)

  -- so are those of two filters
  joined_kept : (o p : Option (List Field)) (fs : List Field) → ((gs : List Field) → o ≡ Some gs → All (IsKeptField kind u) gs) → ((gs : List Field) → p ≡ Some gs → All (IsKeptField kind u) gs)
      → joined o p ≡ Some fs → All (IsKeptField kind u) fs
  joined_kept (Some fs) (Some gs) hs one two h =
      subst (All (IsKeptField kind u)) (same_Some (fs ++ gs) hs h) (All-append (IsKeptField kind u) fs gs (one fs refl) (two gs refl))
  joined_kept (Some fs) None hs one two h = absurd (cc h)
  joined_kept None p hs one two h = absurd (cc h)

  -- so are those of a conjunction
  equalities_kept : (t : Tree) (fs : List Field) → equalities u.attribute t ≡ Some fs → All (IsKeptField kind u) fs
  equalities_kept (Compare path Eq x) fs h = equality_kept path.meant x fs h
  equalities_kept (And s t) fs h = joined_kept (equalities u.attribute s) (equalities u.attribute t) fs (equalities_kept s) (equalities_kept t) h
  equalities_kept _ fs h = absurd (cc h)

  -- each field of the value that a filter describes may be kept
  pub described_each : (t : Tree) (fs : List Field) → described u.attribute t ≡ Some fs → All (IsKeptField kind u) fs
  described_each (Values path inner) fs h =
      let c = chained if_each_once (equalities u.attribute inner) fs h in
      let d = cond_some (is_each_once c.0) c.0 fs c.2 in
      subst (All (IsKeptField kind u)) d.1 (equalities_kept inner c.0 c.1)
  described_each _ fs h = absurd (cc h)

  -- the described fields, each in its place, and given ones over them are those of a value
  pub described_kept : (t : Tree) (fs given : List Field) → described u.attribute t ≡ Some fs → AreGivenFields kind u given → AreKeptFields kind u (over given (over fs []))
  described_kept t fs given h g =
      over_kept kind u given (over fs []) (each_kept kind u given (given_kept kind u given g))
      (over_kept kind u fs [] (described_each t fs h) (no_fields kind u))
