-- What is seen of a resource to stand at a leaf stands there in a value of the resource.
use Rattle.std.proofs.Common.{◌≡◌, refl, sym, ◌∙◌, ap, subst, ℕ, zero, suc, ◌≤◌, ◌<◌, Bool, true, false, ◌&&◌, ◌||◌, List, [], ◌∷◌, ◌++◌, map, filter, length, inl, inr, arith}
use Rattle.std.specs.Prelude.{All, AllPairs, Option, None, Some}
use Rattle.std.specs.List.{list_any}
use Rattle.std.specs.Ordering.{is_lt, is_eq, is_gt}
use Rattle.std.proofs.lemmas.Bool.{cases_Bool, or_left, or_right}
use Rattle.std.proofs.Math.Bool.{or-false}
use Rattle.std.proofs.lemmas.List.Elements.{All-head, All-tail, All-weaker, All-filter}
use Rattle.std.proofs.lemmas.Cmp.{tied_itself}
use Rattle.std.proofs.lemmas.List.Folds.{list_any-append}
use denote.Enum.Bare.{sameb, same_true}
use Rattle.scim_schema.specs.declared.Kind.{Kind}
use Rattle.scim_schema.specs.declared.Kind.TheVariants.{User}
use Rattle.scim_schema.specs.contracts.Kind.{the_type as the_kind}
use Rattle.scim_schema.specs.declared.Attribute.{Attribute}
use Rattle.scim_schema.specs.declared.Attribute.TheVariants.{Groups}
use Rattle.scim_schema.specs.contracts.Attribute.{the_type as the_attribute}
use Rattle.scim_schema.specs.declared.Leaf.{Leaf}
use Rattle.scim_schema.specs.declared.Unit.{Unit as AttributeUnit}
use Rattle.scim_schema.specs.Characteristics.{is_multi_valued}
use Rattle.scim_schema.specs.Units.{whole, unit_of, is_same_leaf, is_same_attribute}
use Rattle.scim_schema.proofs.Facts.{and_first, and_second, leaf_one}
use Rattle.scim_cell.specs.declared.atoms.Atom.{Atom}
use Rattle.scim_cell.specs.declared.rows.Field.{Field}
use Rattle.scim_cell.specs.Place.{unit_cmp, sub_attribute_number}
use Rattle.scim_cell.specs.Content.{Content, IsPart}
use Rattle.scim_cell.specs.Order.{id_cmp}
use Rattle.scim_cell.specs.Rows.{Row, Test, rows, values, put_values, restricted, restricted_row, has_fields, atom_in, atom_at, AreSound, IsSoundRow, IsSoundField, AreValues}
use Rattle.scim_value.specs.Members.{lists}
use Rattle.scim_value.specs.Resource.{first_at}
use Rattle.scim_value.proofs.Facts.{get_cell, sound_part, one_value, unit_total, rows_content, put_sound, restricted_sound}
use Rattle.scim_filter.specs.Truth.{some_cell, some_atom}
use Rattle.scim_filter_texts.proofs.Facts.{any_kept, cell_by_row, either, own_passes}
use Rattle.scim_view.specs.View.{Viewer, read_in, may_be_seen}
use Rattle.scim_view.specs.Groups.{seen, membership, memberships, rows_with, with_groups, visible_with}
use Rattle.scim_view.specs.Sorted.{sorted_by}
use Rattle.scim_view.proofs.GroupLemmas.{restricted-put_values, seen_values}

-- the rows of what is seen of a resource with its groups
seen_sound : (v : Viewer) (gs : List Content) (c : Content) → IsPart c
    → AreSound c.kind (restricted (may_be_seen (read_in v c) c.kind) (rows_with (memberships v.base (seen v gs) c.id) c))
seen_sound v gs c part =
    let keeps = may_be_seen (read_in v c) c.kind in
    let ms = memberships v.base (seen v gs) c.id in
    let own = restricted_sound c.kind keeps (rows c) (sound_part c part) in
    elim (cases_Bool (sameb the_kind c.kind User)) [
      | inl t ↦
          let user : c.kind ≡ User = same_true the_kind tt c.kind User t in
          let fit : AreValues c.kind (whole Groups) (restricted keeps ms) = subst (λ (k : Kind). AreValues k (whole Groups) (restricted keeps ms)) (sym user) (seen_values keeps v.base (sorted_by id_cmp (filter (lists c.id) (seen v gs)))) in
          rw t (subst (AreSound c.kind) (sym (restricted-put_values keeps (whole Groups) ms (rows c))) (put_sound c.kind (whole Groups) (restricted keeps ms) (restricted keeps (rows c)) fit own))
      | inr f ↦ rw f own
    ]

seen_rows : (v : Viewer) (gs : List Content) (c : Content) → IsPart c
    → rows (with_groups v gs c) ≡ restricted (may_be_seen (read_in v c) c.kind) (rows_with (memberships v.base (seen v gs) c.id) c)
unfolding with_groups visible_with
seen_rows v gs c part = rows_content c.kind c.id _ (seen_sound v gs c part)

-- where an element passes, it passes each test that those that pass also pass
pub any_weaker : {X : Type 0} (p q : X → Bool) (xs : List X) → All (λ x. p x ≡ true → q x ≡ true) xs → list_any p xs ≡ true → list_any q xs ≡ true
any_weaker p q [] also e = e
any_weaker {X = X} p q (x ∷ xs) also e =
    let Also : X → Type 0 = λ y. p y ≡ true → q y ≡ true in
    either (p x) (list_any p xs) (q x) (list_any q xs) (All-head Also x xs also) (any_weaker p q xs (All-tail Also x xs also)) e

-- a cell that is left of rows stands in them
row_kept : (keeps : Test) (p : Field → Bool) (a : Attribute) (rs : List Row) → list_any (own_passes p a) (map (restricted_row keeps) rs) ≡ true → list_any (own_passes p a) rs ≡ true
row_kept keeps p a [] e = e
row_kept keeps p a (r ∷ rs) e =
    either (own_passes p a (restricted_row keeps r)) (list_any (own_passes p a) (map (restricted_row keeps) rs)) (own_passes p a r) (list_any (own_passes p a) rs)
    (λ h. (let own : sameb the_attribute r.unit.attribute a ≡ true = and_first _ _ h in rw own (any_kept p (λ (f : Field). keeps r f.leaf) r.fields (and_second _ _ h)))) (row_kept keeps p a rs) e

left_stands : (keeps : Test) (p : Field → Bool) (a : Attribute) (rs : List Row) → some_cell p a (restricted keeps rs) ≡ true → some_cell p a rs ≡ true
left_stands keeps p a rs e =
    cell_by_row p a rs ∙ row_kept keeps p a rs (any_kept (own_passes p a) has_fields (map (restricted_row keeps) rs) (sym (cell_by_row p a (restricted keeps rs)) ∙ e))

-- values of `groups` have no cell of another attribute
none_own : (p : Field → Bool) (a : Attribute) (base : List ℕ) (gs : List Content) → is_same_attribute Groups a ≡ false → list_any (own_passes p a) (map (membership base) gs) ≡ false
none_own p a base [] other = refl
none_own p a base (g ∷ gs) other = rw other (none_own p a base gs other)

beside_groups : (p : Field → Bool) (a : Attribute) (base : List ℕ) (gs : List Content) (rs : List Row) → is_same_attribute Groups a ≡ false
    → some_cell p a (put_values (whole Groups) (map (membership base) gs) rs) ≡ true → some_cell p a rs ≡ true
beside_groups p a base gs rs other e =
    let ms : List Row = map (membership base) gs in
    let before : List Row = filter (λ (r : Row). is_lt (unit_cmp r.unit (whole Groups))) rs in
    let later : List Row = filter (λ (r : Row). is_gt (unit_cmp r.unit (whole Groups))) rs in
    let passes = own_passes p a in
    let all : (list_any passes before || (list_any passes ms || list_any passes later)) ≡ true
    = ap (λ b. list_any passes before || b) (sym (list_any-append passes ms later)) ∙ sym (list_any-append passes before (ms ++ later)) ∙ sym (cell_by_row p a (put_values (whole Groups) ms rs)) ∙ e in
    let two : (list_any passes before || list_any passes later) ≡ true = rw (none_own p a base gs other) at all in
    cell_by_row p a rs ∙ both (list_any passes before) (list_any passes later) (list_any passes rs) (any_kept passes _ rs) (any_kept passes _ rs) two
  where
    both : (b c d : Bool) → (b ≡ true → d ≡ true) → (c ≡ true → d ≡ true) → (b || c) ≡ true → d ≡ true
    both true c d f g e = f refl
    both false c d f g e = g e

with_stands : (p : Field → Bool) (a : Attribute) (base : List ℕ) (gs : List Content) (c : Content) → is_same_attribute Groups a ≡ false
    → some_cell p a (rows_with (map (membership base) gs) c) ≡ true → some_cell p a (rows c) ≡ true
with_stands p a base gs c other e = elim (cases_Bool (sameb the_kind c.kind User)) [ inl t ↦ beside_groups p a base gs (rows c) other (rw t at e) | inr u ↦ (rw u at e) ]

-- the cells of a leaf stand in values of its unit
in_fields : (kind : Kind) (passes : Atom → Bool) (l : Leaf) (u : AttributeUnit) (fs : List Field) → All (IsSoundField kind u) fs
    → list_any (λ (f : Field). is_same_leaf f.leaf l && passes f.atom) fs ≡ true → unit_of l ≡ u
in_fields kind passes l u [] own e = cc
in_fields kind passes l u (f ∷ fs) own e = elim (cases_Bool (is_same_leaf f.leaf l)) [
  | inl t ↦ ap unit_of (sym (leaf_one f.leaf l t)) ∙ (All-head (IsSoundField kind u) f fs own).0
  | inr n ↦ in_fields kind passes l u fs (All-tail (IsSoundField kind u) f fs own) (rw n at e)
]

-- whether a cell of the leaf passes, in a value
abbrev leaf_passes : (Atom → Bool) → Leaf → Field → Bool
leaf_passes passes l f = is_same_leaf f.leaf l && passes f.atom

abbrev value_passes : (Atom → Bool) → Leaf → Row → Bool
value_passes passes l r = list_any (leaf_passes passes l) r.fields

own_value : (l : Leaf) (r : Row) → unit_of l ≡ r.unit → is_eq (unit_cmp r.unit (unit_of l)) ≡ true
own_value l r e = subst (λ (u : AttributeUnit). is_eq (unit_cmp r.unit u) ≡ true) (sym e) (ap is_eq (tied_itself unit_total r.unit))

in_values : (kind : Kind) (passes : Atom → Bool) (l : Leaf) (rs : List Row) → All (IsSoundRow kind) rs
    → list_any (own_passes (leaf_passes passes l) l.attribute) rs ≡ true → list_any (value_passes passes l) (values (unit_of l) rs) ≡ true
in_values kind passes l [] own e = e
in_values kind passes l (r ∷ rs) own e = elim (cases_Bool (own_passes (leaf_passes passes l) l.attribute r)) [
  | inl t ↦
      let some : list_any (leaf_passes passes l) r.fields ≡ true = and_second _ _ t in
      let value = own_value l r (in_fields kind passes l r.unit r.fields (All-head (IsSoundRow kind) r rs own).own some) in
      rw value (or_left (value_passes passes l r) _ some)
  | inr u ↦
      let rest = in_values kind passes l rs (All-tail (IsSoundRow kind) r rs own) (rw u at e) in
      elim (cases_Bool (is_eq (unit_cmp r.unit (unit_of l)))) [ inl t ↦ rw t (or_right (value_passes passes l r) _ rest) | inr n ↦ rw n rest ]
]

-- whether there is an atom that passes
abbrev pub some_passes : (Atom → Bool) → Option Atom → Bool
some_passes passes None = false
some_passes passes (Some a) = passes a

-- a leaf has no field behind its place
none_later : (passes : Atom → Bool) (l : Leaf) (fs : List Field) → All (λ (f : Field). sub_attribute_number l.sub_attribute < sub_attribute_number f.leaf.sub_attribute) fs
    → list_any (leaf_passes passes l) fs ≡ false
none_later passes l [] later = refl
none_later passes l (f ∷ fs) later =
    let Later : Field → Type 0 = λ g. sub_attribute_number l.sub_attribute < sub_attribute_number g.leaf.sub_attribute in
    elim (cases_Bool (is_same_leaf f.leaf l)) [
      | inl t ↦ absurd (let same = ap (λ (k : Leaf). sub_attribute_number k.sub_attribute) (leaf_one f.leaf l t) in omega (arith, same, All-head Later f fs later))
      | inr n ↦ rw n (none_later passes l fs (All-tail Later f fs later))
    ]

-- so what passes at the leaf is its first atom
first_passes : (passes : Atom → Bool) (l : Leaf) (fs : List Field) → AllPairs (λ (f g : Field). sub_attribute_number f.leaf.sub_attribute < sub_attribute_number g.leaf.sub_attribute) fs
    → list_any (leaf_passes passes l) fs ≡ true → some_passes passes (atom_in l fs) ≡ true
first_passes passes l [] rise e = e
first_passes passes l (f ∷ fs) rise e = elim (cases_Bool (is_same_leaf f.leaf l)) [
  | inl t ↦
      let later : All (λ (g : Field). sub_attribute_number l.sub_attribute < sub_attribute_number g.leaf.sub_attribute) fs
      = subst (λ (m : Leaf). All (λ (g : Field). sub_attribute_number m.sub_attribute < sub_attribute_number g.leaf.sub_attribute) fs) (leaf_one f.leaf l t) (λ k g lt. rise zero (suc k) g (omega arith) (omega (arith, lt))) in
      let some : (passes f.atom || list_any (leaf_passes passes l) fs) ≡ true = rw t at e in
      rw t (sym (or-false (passes f.atom)) ∙ ap (λ b. passes f.atom || b) (sym (none_later passes l fs later)) ∙ some)
  | inr n ↦ rw n (first_passes passes l fs (λ i j g lt within. rise (suc i) (suc j) g (omega (arith, lt)) (omega (arith, within))) (rw n at e))
]

-- what is seen of a resource to pass at a leaf of an attribute other than `groups` passes in a value of the resource
pub seen_in_value : (passes : Atom → Bool) (l : Leaf) (v : Viewer) (gs : List Content) (c : Content) → is_same_attribute Groups l.attribute ≡ false
    → IsPart c → some_atom passes l (rows (with_groups v gs c)) ≡ true → list_any (λ (r : Row). some_passes passes (atom_in l r.fields)) (values (unit_of l) (rows c)) ≡ true
seen_in_value passes l v gs c other part e =
    let sound = sound_part c part in
    let p = leaf_passes passes l in
    let listed : List Content = sorted_by id_cmp (filter (lists c.id) (seen v gs)) in
    let left : some_cell p l.attribute (restricted (may_be_seen (read_in v c) c.kind) (rows_with (map (membership v.base) listed) c)) ≡ true
    = ap (some_cell p l.attribute) (sym (seen_rows v gs c part)) ∙ e in
    let stored : some_cell p l.attribute (rows c) ≡ true = with_stands p l.attribute v.base listed c other (left_stands _ p l.attribute (rows_with (map (membership v.base) listed) c) left) in
    let vs = values (unit_of l) (rows c) in
    any_weaker (value_passes passes l) (λ (r : Row). some_passes passes (atom_in l r.fields)) vs
    (All-weaker (IsSoundRow c.kind) (λ (r : Row). value_passes passes l r ≡ true → some_passes passes (atom_in l r.fields) ≡ true) (λ r own. first_passes passes l r.fields own.in_order) vs
    (All-filter (λ (r : Row). is_eq (unit_cmp r.unit (unit_of l))) (IsSoundRow c.kind) (rows c) sound.own))
    (in_values c.kind passes l (rows c) sound.own (sym (cell_by_row p l.attribute (rows c)) ∙ stored))

-- the first atom, where there is one value at most
one_passes : (passes : Atom → Bool) (l : Leaf) (vs : List Row) → length vs ≤ 1 → list_any (λ (r : Row). some_passes passes (atom_in l r.fields)) vs ≡ true
    → (a : Atom) × (atom_at l zero vs ≡ Some a) × (passes a ≡ true)
one_passes passes l [] few e = cc
one_passes passes l (r ∷ s ∷ vs) few e = absurd (omega (arith, few))
one_passes passes l (r ∷ []) few e = given (atom_in l r.fields) (sym (or-false (some_passes passes (atom_in l r.fields))) ∙ e)
  where
    given : (o : Option Atom) → some_passes passes o ≡ true → (a : Atom) × (o ≡ Some a) × (passes a ≡ true)
    given None e = cc
    given (Some a) e = (a, refl, e)

-- so what is seen to pass at a leaf of a single-valued attribute stands there in the resource
pub seen_stands : (passes : Atom → Bool) (l : Leaf) (v : Viewer) (gs : List Content) (c : Content) → is_multi_valued l.attribute ≡ false → is_same_attribute Groups l.attribute ≡ false
    → IsPart c → some_atom passes l (rows (with_groups v gs c)) ≡ true → (a : Atom) × (first_at l c ≡ Some a) × (passes a ≡ true)
seen_stands passes l v gs c single other part e =
    let sound = sound_part c part in
    let found = one_passes passes l (values (unit_of l) (rows c)) (one_value c.kind (unit_of l) (rows c) sound single) (seen_in_value passes l v gs c other part e) in
    (found.0, get_cell c part sound l 0 ∙ found.1, found.2)
