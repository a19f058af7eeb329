-- What is required: whether it is among rows, and that it stands in a draft that was read to make a resource.
use Rattle.std.proofs.Common.{◌≡◌, ◌≢◌, refl, sym, ◌∙◌, ap, subst, Bool, true, false, inl, inr, List, [], ◌∷◌}
use Rattle.std.specs.Prelude.{None, Some, All, not, ◌&&◌}
use Rattle.std.specs.List.{list_any}
use Rattle.std.specs.Ordering.{is_eq}
use Rattle.std.specs.Cmp.{tied_itself}
use Rattle.std.proofs.lemmas.Bool.{cases_Bool}
use Rattle.std.proofs.lemmas.List.Elements.{All-head, All-tail}
use denote.Enum.Bare.{sameb, same_true, true_same}
use Rattle.scim_schema.specs.declared.Kind.{Kind}
use Rattle.scim_schema.specs.declared.Attribute.{Attribute}
use Rattle.scim_schema.specs.declared.Attribute.TheVariants.{UserName, DisplayName}
use Rattle.scim_schema.specs.declared.Leaf.{Leaf}
use Rattle.scim_schema.specs.declared.Unit.{Unit as AttributeUnit}
use Rattle.scim_schema.specs.contracts.Attribute.{the_type as the_attribute}
use Rattle.scim_schema.specs.Characteristics.{attribute_characteristics, characteristics_of}
use Rattle.scim_schema.specs.Table.{attributes, leaves_with}
use Rattle.scim_schema.specs.Units.{simple, whole, unit_of, is_same_leaf}
use Rattle.scim_schema.proofs.Facts.{leaf_same}
use Rattle.scim_cell.specs.declared.atoms.Atom.{Atom}
use Rattle.scim_cell.specs.declared.rows.Field.{Field}
use Rattle.scim_cell.specs.Content.{HasType}
use Rattle.scim_cell.specs.Place.{sub_attributes_by_place, unit_cmp}
use Rattle.scim_cell.specs.Rows.{Row, values, atom_in, cell_at, has_fields, IsSoundField, IsSoundRow}
use Rattle.scim_value.proofs.Facts.{In, fields_in, unit_total}
use Rattle.scim_body.specs.Drafts.{Draft, MayBeGiven, IsDraft, is_missing, lacks_required}
use Rattle.scim_change.proofs.ValueLemmas.{other_unit}

-- ---- a simple attribute among rows

-- whether one of the rows is of an attribute
abbrev pub has_row : Attribute → List Row → Bool
has_row a rs = list_any (λ (r : Row). sameb the_attribute r.unit.attribute a) rs

-- an atom of a simple attribute that a client may give
pub record IsGivenAtom (kind : Kind) (a : Attribute) (atom : Atom) : Type 0 where
  pub type : HasType (characteristics_of kind (simple a)).attribute_type atom
  pub given : MayBeGiven kind (record { leaf = simple a; atom = atom })

-- the simple attribute is one leaf, which is a unit
pub record IsSimple (a : Attribute) : Type 0 where
  pub leaf : leaves_with a (sub_attributes_by_place a) ≡ simple a ∷ []
  pub unit : unit_of (simple a) ≡ whole a
  pub ties : is_eq (unit_cmp (whole a) (unit_of (simple a))) ≡ true

-- the unit, and the atom, of a row of the attribute
pub record IsRowOf (kind : Kind) (a : Attribute) (r : Row) : Type 0 where
  pub unit : r.unit ≡ whole a
  pub atom : Atom
  pub there : atom_in (simple a) r.fields ≡ Some atom
  pub given : IsGivenAtom kind a atom

module _ (kind : Kind) (a : Attribute) (is : IsSimple a) where
  only_leaf : (l : Leaf) → In l (leaves_with a (sub_attributes_by_place a)) → l ≡ simple a
  only_leaf l h = go (subst (λ ls. In l ls) is.leaf h)
    where
      go : In l (simple a ∷ []) → l ≡ simple a
      go (inl e) = sym e
      go (inr n) = absurd n

  -- the first field of a row of the attribute is at that leaf
  its_leaf : (u : AttributeUnit) (f : Field) (fs : List Field) → u.attribute ≡ a → IsSoundRow kind (record { unit = u; fields = f ∷ fs }) → f.leaf ≡ simple a
  its_leaf u f fs e own =
      let listed : In f.leaf (leaves_with u.attribute (sub_attributes_by_place u.attribute)) = All-head (λ (c : Field). In c.leaf (leaves_with u.attribute (sub_attributes_by_place u.attribute))) f fs (fields_in kind (record { unit = u; fields = f ∷ fs }) own) in
      only_leaf f.leaf (subst (λ b. In f.leaf (leaves_with b (sub_attributes_by_place b))) e listed)

  -- so the row is a value of the attribute
  own_unit : (u : AttributeUnit) (fs : List Field) → u.attribute ≡ a → has_fields (record { unit = u; fields = fs }) ≡ true → IsSoundRow kind (record { unit = u; fields = fs }) → u ≡ whole a
  own_unit u [] e full own = cc
  own_unit u (f ∷ fs) e full own = sym (All-head (IsSoundField kind u) f fs own.own).0 ∙ ap unit_of (its_leaf u f fs e own) ∙ is.unit

  -- and whether there is one among rows is told by the values
  pub told_by_values : (rs : List Row) → All (λ r. has_fields r ≡ true) rs → All (IsSoundRow kind) rs → has_row a rs ≡ has_row a (values (whole a) rs)
  told_by_values [] full own = refl
  told_by_values (r ∷ rs) full own = elim (cases_Bool (sameb the_attribute r.unit.attribute a)) [
    | inl t ↦
        let unit : r.unit ≡ whole a = own_unit r.unit r.fields (same_true the_attribute tt _ _ t) (All-head (λ r. has_fields r ≡ true) r rs full) (All-head (IsSoundRow kind) r rs own) in
        let here : is_eq (unit_cmp r.unit (whole a)) ≡ true = ap (λ u. is_eq (unit_cmp u (whole a))) unit ∙ ap is_eq (tied_itself unit_total (whole a)) in
        rw (here, t) refl
    | inr n ↦
        let apart : is_eq (unit_cmp r.unit (whole a)) ≡ false = other_unit r.unit (whole a)
        (λ e. (let s : sameb the_attribute r.unit.attribute a ≡ true = true_same the_attribute r.unit.attribute a (ap (λ (v : AttributeUnit). v.attribute) e) in cc)) in
        rw (apart, n) (told_by_values rs (All-tail (λ r. has_fields r ≡ true) r rs full) (All-tail (IsSoundRow kind) r rs own))
  ]

  first_field : (u : AttributeUnit) (f : Field) (fs : List Field) → f.leaf ≡ simple a → IsSoundField kind u f → MayBeGiven kind f → IsRowOf kind a (record { unit = u; fields = f ∷ fs })
  first_field u f fs e own given =
      let same : is_same_leaf f.leaf (simple a) ≡ true = leaf_same f.leaf (simple a) e in
      let field : f ≡ record { leaf = simple a; atom = f.atom } = λ i. record { leaf = e i; atom = f.atom } in
      record {
        unit = sym own.0 ∙ ap unit_of e ∙ is.unit;
        atom = f.atom;
        there = rw same refl;
        given = record {
          type = subst (λ l. HasType (characteristics_of kind l).attribute_type f.atom) e own.2;
          given = subst (MayBeGiven kind) field given;
        };
      }

  row_of_attribute : (u : AttributeUnit) (fs : List Field) → u.attribute ≡ a → has_fields (record { unit = u; fields = fs }) ≡ true → IsSoundRow kind (record { unit = u; fields = fs }) → All (MayBeGiven kind) fs
      → IsRowOf kind a (record { unit = u; fields = fs })
  row_of_attribute u [] e full own given = cc
  row_of_attribute u (f ∷ fs) e full own given = first_field u f fs (its_leaf u f fs e own) (All-head (IsSoundField kind u) f fs own.own) (All-head (MayBeGiven kind) f fs given)

  -- what stands at the attribute among rows of which one is of it
  found : (rs : List Row) → All (λ r. has_fields r ≡ true) rs → All (IsSoundRow kind) rs → All (λ r. All (MayBeGiven kind) r.fields) rs
      → list_any (λ (r : Row). sameb the_attribute r.unit.attribute a) rs ≡ true → (atom : Atom) × (cell_at (simple a) 0 rs ≡ Some atom) × IsGivenAtom kind a atom
  found [] full own given some = cc
  found (r ∷ rs) full own given some = elim (cases_Bool (sameb the_attribute r.unit.attribute a)) [
    | inl t ↦
        let row : IsRowOf kind a r = row_of_attribute r.unit r.fields (same_true the_attribute tt _ _ t) (All-head (λ r. has_fields r ≡ true) r rs full) (All-head (IsSoundRow kind) r rs own) (All-head (λ r. All (MayBeGiven kind) r.fields) r rs given) in
        let here : is_eq (unit_cmp r.unit (unit_of (simple a))) ≡ true = ap (λ u. is_eq (unit_cmp u (unit_of (simple a)))) row.unit ∙ is.ties in
        (row.atom, rw here row.there, row.given)
    | inr n ↦
        let apart : is_eq (unit_cmp r.unit (unit_of (simple a))) ≡ false = other_unit r.unit (unit_of (simple a))
        (λ e. (let s : sameb the_attribute r.unit.attribute a ≡ true = true_same the_attribute r.unit.attribute a (ap (λ (v : AttributeUnit). v.attribute) e) in cc)) in
        let more = found rs (All-tail (λ r. has_fields r ≡ true) r rs full) (All-tail (IsSoundRow kind) r rs own) (All-tail (λ r. All (MayBeGiven kind) r.fields) r rs given) (rw n at some) in
        (more.0, rw apart more.1, more.2)
  ]

-- where something stands at the attribute there is a row of it
no_cell : (a : Attribute) → IsSimple a → (rs : List Row) → has_row a rs ≡ false → cell_at (simple a) 0 rs ≡ None
no_cell a is [] none = refl
no_cell a is (r ∷ rs) none = elim (cases_Bool (sameb the_attribute r.unit.attribute a)) [
  | inl t ↦ absurd (let some : has_row a (r ∷ rs) ≡ true = rw t refl in cc)
  | inr n ↦
      let apart : is_eq (unit_cmp r.unit (unit_of (simple a))) ≡ false = other_unit r.unit (unit_of (simple a))
      (λ e. (let s : sameb the_attribute r.unit.attribute a ≡ true = true_same the_attribute r.unit.attribute a (ap (λ (v : AttributeUnit). v.attribute) e) in cc)) in
      rw apart (no_cell a is rs (rw n at none))
]

pub cell_there : (a : Attribute) → IsSimple a → (rs : List Row) → cell_at (simple a) 0 rs ≢ None → has_row a rs ≡ true
cell_there a is rs some = elim (cases_Bool (has_row a rs)) [
  | inl t ↦ t
  | inr n ↦ absurd (some (no_cell a is rs n))
]

-- ---- what a kind requires

-- an attribute that is required isn't missing where nothing is
pub not_missing : (test : Attribute → Bool) (bs : List Attribute) (a : Attribute) → list_any test bs ≡ false → list_any (λ b. sameb the_attribute b a) bs ≡ true → test a ≡ false
not_missing test [] a none has = cc
not_missing test (b ∷ bs) a none has = elim (cases_Bool (test b)) [
  | inl t ↦ absurd (let no : list_any test (b ∷ bs) ≡ true = rw t refl in cc)
  | inr n ↦ elim (cases_Bool (sameb the_attribute b a)) [
    | inl s ↦ subst (λ x. test x ≡ false) (same_true the_attribute tt b a s) n
    | inr s ↦ not_missing test bs a (rw n at none) (rw s at has)
  ]
]

-- what is required and not missing is there
is_there : (r b : Bool) → r ≡ true → r && not b ≡ false → b ≡ true
is_there true true e f = refl
is_there true false e f = cc
is_there false b e f = cc

pub required_there : (kind : Kind) (rs : List Row) (a : Attribute) → (attribute_characteristics kind a).required ≡ true → list_any (λ b. sameb the_attribute b a) (attributes kind) ≡ true → lacks_required kind rs ≡ false
    → list_any (λ (r : Row). sameb the_attribute r.unit.attribute a) rs ≡ true
unfolding lacks_required
required_there kind rs a needed listed complete =
    is_there (attribute_characteristics kind a).required (list_any (λ (r : Row). sameb the_attribute r.unit.attribute a) rs) needed (not_missing (is_missing kind rs) (attributes kind) a complete listed)

pub user_name : IsSimple UserName
unfolding sub_attributes_by_place
user_name = record { leaf = refl; unit = refl; ties = refl }

pub display_name : IsSimple DisplayName
unfolding sub_attributes_by_place
display_name = record { leaf = refl; unit = refl; ties = refl }

module _ (d : Draft) (is : IsDraft d) where
  -- the atom of a simple attribute that a row is of
  pub found_in : (a : Attribute) → IsSimple a → list_any (λ (r : Row). sameb the_attribute r.unit.attribute a) d.rows ≡ true → (atom : Atom) × (cell_at (simple a) 0 d.rows ≡ Some atom) × IsGivenAtom d.kind a atom
  found_in a simple some = found d.kind a simple d.rows is.sound.full is.sound.own is.may_be_given some
