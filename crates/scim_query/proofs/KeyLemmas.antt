-- What a test admits of values, and which of them is sorted by.
use Rattle.std.proofs.Common.{◌≡◌, refl, sym, ◌∙◌, ap, ap₂, Bool, true, false, true≢false, ◌&&◌, not, cond, inl, inr, List, [], ◌∷◌, ◌++◌, map, filter, arith}
use Rattle.std.specs.Prelude.{Option, Some, None, All, find, slice_get}
use Rattle.std.specs.List.{list_any}
use Rattle.std.specs.Option.{option_map}
use Rattle.std.specs.Ordering.{is_eq}
use Rattle.std.proofs.lemmas.Bool.{cases_Bool}
use Rattle.std.proofs.lemmas.List.Elements.{All-head, All-tail}
use Rattle.scim_schema.specs.declared.Leaf.{Leaf}
use Rattle.scim_schema.specs.declared.Unit.{Unit as AttributeUnit}
use Rattle.scim_schema.specs.declared.SubAttribute.TheVariants.{Primary}
use Rattle.scim_schema.specs.Units.{is_same_leaf, leaf_at, unit_of}
use Rattle.scim_schema.proofs.Facts.{leaf_one}
use Rattle.scim_cell.specs.declared.atoms.Atom.{Atom}
use Rattle.scim_cell.specs.declared.rows.Field.{Field}
use Rattle.scim_cell.specs.Content.{Content, IsPart}
use Rattle.scim_cell.specs.Place.{unit_cmp}
use Rattle.scim_cell.specs.Rows.{Row, Test, rows, values, atom_in, is_truth, is_primary, is_empty, has_fields, restricted, restricted_row}
use Rattle.scim_value.specs.Changes.{restricted_part}
use Rattle.scim_value.proofs.Facts.{rows_content, restricted_sound, sound_part}
use Rattle.scim_query.specs.Keys.{atom_of, sorting_value}

-- ---- one value

-- where a leaf is kept its atom stays, and else there is none
pub atom_left : (test : Leaf → Bool) (l : Leaf) (fs : List Field) → atom_in l (filter (λ (f : Field). test f.leaf) fs) ≡ cond (test l) (atom_in l fs) None
atom_left test l [] = none (test l)
  where
    none : (b : Bool) → ◌≡◌ {A = Option Atom} None (cond b None None)
    none true = refl
    none false = refl
atom_left test l (f ∷ fs) =
    let rest = atom_left test l fs in
    elim (cases_Bool (is_same_leaf f.leaf l)) [
      | inl same ↦ (let one = leaf_one f.leaf l same in rw same (elim (cases_Bool (test l)) [
        | inl kept ↦ rw (kept, ap test one ∙ kept, same) refl
        | inr lost ↦ rw (ap test one ∙ lost) (rest ∙ rw lost refl)
      ]))
      | inr other ↦ rw other (elim (cases_Bool (test f.leaf)) [
        | inl kept ↦ rw (kept, other) rest
        | inr lost ↦ rw lost rest
      ])
    ]

pub primary_left : (keeps : Test) (r : Row) → is_primary (restricted_row keeps r) ≡ is_primary r && keeps r (leaf_at r.unit.attribute Primary)
primary_left keeps r =
    let mark = leaf_at r.unit.attribute Primary in
    ap is_truth (atom_left (keeps r) mark r.fields) ∙ go (keeps r mark) (atom_in mark r.fields)
  where
    go : (b : Bool) (o : Option Atom) → is_truth (cond b o None) ≡ is_truth o && b
    go true o = and_true (is_truth o)
      where
        and_true : (p : Bool) → p ≡ p && true
        and_true true = refl
        and_true false = refl
    go false o = and_false (is_truth o)
      where
        and_false : (p : Bool) → false ≡ p && false
        and_false true = refl
        and_false false = refl

-- whether a field is kept
pub some_left : (test : Leaf → Bool) (fs : List Field) → list_any (λ (f : Field). test f.leaf) fs ≡ not (is_empty (filter (λ (f : Field). test f.leaf) fs))
some_left test [] = refl
some_left test (f ∷ fs) = elim (cases_Bool (test f.leaf)) [
  | inl kept ↦ rw kept refl
  | inr lost ↦ rw lost (some_left test fs)
]

-- where none is, there is none
pub none_left : (test : Leaf → Bool) (fs : List Field) → ((l : Leaf) → test l ≡ false) → list_any (λ (f : Field). test f.leaf) fs ≡ false
none_left test [] none = refl
none_left test (f ∷ fs) none = rw (none f.leaf) (none_left test fs none)

-- a value that is marked as primary has a field
marked_stays : (r : Row) → is_primary r ≡ true → has_fields r ≡ true
marked_stays r marked = go r.fields marked
  where
    go : (fs : List Field) → is_truth (atom_in (leaf_at r.unit.attribute Primary) fs) ≡ true → not (is_empty fs) ≡ true
    go [] e = e
    go (f ∷ fs) e = refl

-- ---- values

module _ (keeps : Test) where
  -- what is left of the rows that pass a test of the unit
  pub left_of_unit : (test : AttributeUnit → Bool) (rs : List Row) → filter (λ (r : Row). test r.unit) (restricted keeps rs) ≡ restricted keeps (filter (λ (r : Row). test r.unit) rs)
  left_of_unit test [] = refl
  left_of_unit test (r ∷ rs) = grind (arith, left_of_unit test rs)

  -- whether something is left of a value
  abbrev pub is_left : Row → Bool
  is_left r = list_any (λ (f : Field). keeps r f.leaf) r.fields

  -- and whether it is marked as primary in what is left
  abbrev pub is_marked : Row → Bool
  is_marked r = is_primary r && keeps r (leaf_at r.unit.attribute Primary)

  left_if : (stays is : Bool) (r : Row) (xs ys : List Row) → is ≡ stays → xs ≡ map (restricted_row keeps) ys → cond stays (restricted_row keeps r ∷ xs) xs ≡ map (restricted_row keeps) (cond is (r ∷ ys) ys)
  left_if true is r xs ys e rest = rw e (ap (λ zs. restricted_row keeps r ∷ zs) rest)
  left_if false is r xs ys e rest = rw e rest

  left_rows : (vs : List Row) → restricted keeps vs ≡ map (restricted_row keeps) (filter is_left vs)
  left_rows [] = refl
  left_rows (r ∷ vs) = left_if (has_fields (restricted_row keeps r)) _ r (restricted keeps vs) (filter is_left vs) (some_left (keeps r) r.fields) (left_rows vs)

  marked_if : (stays is : Bool) (s : Row) (xs ys : List Row) → is_primary s ≡ is → (is ≡ true → stays ≡ true) → filter is_primary xs ≡ ys → filter is_primary (cond stays (s ∷ xs) xs) ≡ cond is (s ∷ ys) ys
  marked_if true true s xs ys e f rest = rw e (ap (λ zs. s ∷ zs) rest)
  marked_if true false s xs ys e f rest = rw e rest
  marked_if false true s xs ys e f rest = absurd (true≢false (sym (f refl)))
  marked_if false false s xs ys e f rest = rest

  marked_rows : (vs : List Row) → filter is_primary (restricted keeps vs) ≡ map (restricted_row keeps) (filter is_marked vs)
  marked_rows [] = refl
  marked_rows (r ∷ vs) =
      let s = restricted_row keeps r in
      marked_if (has_fields s) (is_primary s) s (restricted keeps vs) _ refl (marked_stays s) refl
      ∙ left_if (is_primary s) _ r _ (filter is_marked vs) (sym (primary_left keeps r)) (marked_rows vs)

  first_map : (xs ys : List Row) → slice_get (map (restricted_row keeps) xs ++ map (restricted_row keeps) ys) 0 ≡ option_map (restricted_row keeps) (slice_get (xs ++ ys) 0)
  first_map [] [] = refl
  first_map [] (y ∷ ys) = refl
  first_map (x ∷ xs) ys = refl

  sorted_by_left : (vs : List Row) → sorting_value (restricted keeps vs) ≡ option_map (restricted_row keeps) (slice_get (filter is_marked vs ++ filter is_left vs) 0)
  sorted_by_left vs = ap₂ (λ xs ys. slice_get (xs ++ ys) 0) (marked_rows vs) (left_rows vs) ∙ first_map (filter is_marked vs) (filter is_left vs)

  found_if : (b : Bool) (x r : Row) (o : Option Row) (xs ys : List Row) → (o ≡ Some r → slice_get (xs ++ ys) 0 ≡ Some r) → cond b (Some x) o ≡ Some r → slice_get (cond b (x ∷ xs) xs ++ ys) 0 ≡ Some r
  found_if true x r o xs ys rest e = e
  found_if false x r o xs ys rest e = rest e

  found : (test : Row → Bool) (xs ys : List Row) (r : Row) → find test xs ≡ Some r → slice_get (filter test xs ++ ys) 0 ≡ Some r
  found test [] ys r e = cc
  found test (x ∷ xs) ys r e = found_if (test x) x r (find test xs) (filter test xs) ys (found test xs ys r) e

  none_if : (b : Bool) (x : Row) (o : Option Row) (xs : List Row) → (o ≡ None → xs ≡ []) → cond b (Some x) o ≡ None → cond b (x ∷ xs) xs ≡ []
  none_if true x o xs rest e = cc
  none_if false x o xs rest e = rest e

  found_none : (test : Row → Bool) (xs : List Row) → find test xs ≡ None → filter test xs ≡ []
  found_none test [] e = refl
  found_none test (x ∷ xs) e = none_if (test x) x (find test xs) (filter test xs) (found_none test xs) e

  first_if : (b : Bool) (x : Row) (o : Option Row) (xs : List Row) → o ≡ slice_get xs 0 → cond b (Some x) o ≡ slice_get (cond b (x ∷ xs) xs) 0
  first_if true x o xs rest = refl
  first_if false x o xs rest = rest

  first_found : (test : Row → Bool) (xs : List Row) → find test xs ≡ slice_get (filter test xs) 0
  first_found test [] = refl
  first_found test (x ∷ xs) = first_if (test x) x (find test xs) (filter test xs) (first_found test xs)

  -- what is left is sorted by what is left of the first value that is marked
  pub sorted_by_marked : (vs : List Row) (r : Row) → find is_marked vs ≡ Some r → Some (restricted_row keeps r) ≡ sorting_value (restricted keeps vs)
  sorted_by_marked vs r e = sym (sorted_by_left vs ∙ ap (option_map (restricted_row keeps)) (found is_marked vs (filter is_left vs) r e))

  -- else of the first of which something is
  pub sorted_by_first : (vs : List Row) → find is_marked vs ≡ None → option_map (restricted_row keeps) (find is_left vs) ≡ sorting_value (restricted keeps vs)
  sorted_by_first vs e =
      sym (sorted_by_left vs ∙ ap (λ xs. option_map (restricted_row keeps) (slice_get (xs ++ filter is_left vs) 0)) (found_none is_marked vs e)
      ∙ ap (option_map (restricted_row keeps)) (sym (first_found is_left vs)))

  -- the atom that it is sorted by
  module _ (leaf : Leaf) (rs vs : List Row) (own : vs ≡ values (unit_of leaf) rs) where
    same_value : sorting_value (values (unit_of leaf) (restricted keeps rs)) ≡ sorting_value (restricted keeps vs)
    same_value = ap sorting_value (left_of_unit (λ u. is_eq (unit_cmp u (unit_of leaf))) rs ∙ ap (restricted keeps) (sym own))

    pub none_sorts : None ≡ sorting_value (restricted keeps vs) → None ≡ atom_of leaf (sorting_value (values (unit_of leaf) (restricted keeps rs)))
    none_sorts e = ap (atom_of leaf) (e ∙ sym same_value)

    atom_sorts : (r : Row) → Some (restricted_row keeps r) ≡ sorting_value (restricted keeps vs) → cond (keeps r leaf) (atom_in leaf r.fields) None ≡ atom_of leaf (sorting_value (values (unit_of leaf) (restricted keeps rs)))
    atom_sorts r e = sym (atom_left (keeps r) leaf r.fields) ∙ ap (atom_of leaf) (e ∙ sym same_value)

    pub admitted_sorts : (r : Row) → keeps r leaf ≡ true → Some (restricted_row keeps r) ≡ sorting_value (restricted keeps vs) → atom_in leaf r.fields ≡ atom_of leaf (sorting_value (values (unit_of leaf) (restricted keeps rs)))
    admitted_sorts r kept e = rw kept at (atom_sorts r e)

    pub hidden_sorts : (r : Row) → keeps r leaf ≡ false → Some (restricted_row keeps r) ≡ sorting_value (restricted keeps vs) → None ≡ atom_of leaf (sorting_value (values (unit_of leaf) (restricted keeps rs)))
    hidden_sorts r lost e = rw lost at (atom_sorts r e)

-- ---- parts

-- what is left of a part has the rows that are left
pub part_left : (keeps : Test) (c : Content) → IsPart c → rows (restricted_part keeps c) ≡ restricted keeps (rows c)
part_left keeps c part = rows_content c.kind c.id (restricted keeps (rows c)) (restricted_sound c.kind keeps (rows c) (sound_part c part))

all_fields : (fs : List Field) → filter (λ (f : Field). true) fs ≡ fs
all_fields [] = refl
all_fields (f ∷ fs) = ap (λ gs. f ∷ gs) (all_fields fs)

all_rows : (rs : List Row) → All (λ r. has_fields r ≡ true) rs → restricted (λ r l. true) rs ≡ rs
all_rows [] full = refl
all_rows (r ∷ rs) full =
    rw (all_fields r.fields, All-head (λ s. has_fields s ≡ true) r rs full) (ap (λ xs. r ∷ xs) (all_rows rs (All-tail (λ s. has_fields s ≡ true) r rs full)))

-- where all is admitted, all of a part is left
pub all_left : (c : Content) → IsPart c → restricted (λ r l. true) (rows c) ≡ rows c
all_left c part = all_rows (rows c) (sound_part c part).full
