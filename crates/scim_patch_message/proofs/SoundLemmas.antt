-- The steps that are read may be made of a resource of the kind.
use Rattle.std.proofs.Common.{◌≡◌, ◌∙◌, ℕ, zero, Bool, true, false, ◌&&◌, ◌||◌, List, [], ◌∷◌, map, Option, None, Some, Ok, Err, refl, sym, ap, subst, arith, true≢false, inl, inr}
use Rattle.std.specs.Prelude.{All, Contains, not, if◌then◌else◌}
use Rattle.std.specs.List.{list_all, list_any}
use Rattle.std.proofs.lemmas.Bool.{cases_Bool}
use Rattle.std.proofs.lemmas.List.Elements.{All-nil, All-cons, All-head, All-tail, All-append, All-weaker, All-contains, All-contains_itself}
use Rattle.std.proofs.lemmas.List.Folds.{Any-from_list_any}
use Rattle.std.proofs.lemmas.List.Sums.{AllPass-from_list_all}
use Rattle.serde_json.specs.Data.{Data, Members, no_members, member}
use Rattle.scim_schema.specs.declared.Kind.{Kind}
use Rattle.scim_schema.specs.declared.Kind.TheVariants.{User, Group}
use Rattle.scim_schema.specs.declared.Attribute.{Attribute}
use Rattle.scim_schema.specs.declared.SubAttribute.{SubAttribute}
use Rattle.scim_schema.specs.declared.Leaf.{Leaf}
use Rattle.scim_schema.specs.declared.Unit.{Unit as AttributeUnit}
use Rattle.scim_schema.specs.Characteristics.{is_multi_valued}
use Rattle.scim_schema.specs.Mutability.{is_dropped, is_fixed}
use Rattle.scim_schema.specs.Table.{attributes, sub_attributes, leaves, leaves_with, HasLeaf}
use Rattle.scim_schema.specs.Units.{leaf_at, whole, unit_of, is_same_unit, units_of, units}
use Rattle.scim_schema.proofs.Facts.{is_same_unit-Decides}
use Rattle.scim_cell.specs.declared.rows.Field.{Field}
use Rattle.scim_cell.specs.Rows.{Row, IsSoundField, IsValue}
use Rattle.scim_body.specs.Bodies.{field_given}
use Rattle.scim_body.specs.Drafts.{MayBeGiven}
use Rattle.scim_body.proofs.Facts.{contains_joined, many_unit, one_pair, single_row, sub_attribute_leaf, AreFields, IsOf, IsSingle, IsValueOf, Rises, row_with}
use Rattle.scim_patch_steps.specs.Changes.{StepChange, Clear}
use Rattle.scim_patch_steps.specs.Steps.{is_required}
use Rattle.scim_patch_steps.specs.Patch.{Step, Of, AreGivenFields, AreGivenValues, MayBeMade, IsStep}
use Rattle.scim_patch_message.specs.Readings.{Read, both, joined, each_member, value_read}
use Rattle.scim_patch_message.specs.PathSteps.{one, unit_cleared, cleared, set_to}

-- ---- what is read one after another

-- the steps that are read, if there is no fault, are steps of the kind
abbrev pub Sound : Kind → Read → Type 0
Sound kind (Ok steps) = All (IsStep kind) steps
Sound kind (Err f) = Unit {0}

pub both_sound : (kind : Kind) (a b : Read) → Sound kind a → Sound kind b → Sound kind (both a b)
both_sound kind (Ok xs) (Ok ys) h k = All-append (IsStep kind) xs ys h k
both_sound kind (Ok xs) (Err f) h k = tt
both_sound kind (Err e) (Ok ys) h k = tt
both_sound kind (Err e) (Err f) h k = tt

pub joined_sound : {K : Type 0} (kind : Kind) (read : K → Read) (ks : List K) → All (λ k. Sound kind (read k)) ks → Sound kind (joined (map read ks))
joined_sound kind read [] each = All-nil (IsStep kind)
joined_sound kind read (k ∷ ks) each =
    both_sound kind (read k) (joined (map read ks)) (All-head (λ x. Sound kind (read x)) k ks each) (joined_sound kind read ks (All-tail (λ x. Sound kind (read x)) k ks each))

pub each_sound : (kind : Kind) (read : List ℕ → Data → Read) → ((key : List ℕ) (d : Data) → Sound kind (read key d)) → (ms : Members) → Sound kind (each_member read ms)
each_sound kind read each no_members = All-nil (IsStep kind)
each_sound kind read each (member key d ms) = both_sound kind (read key d) (each_member read ms) (each key d) (each_sound kind read each ms)

pub value_sound : (kind : Kind) (clashes : Bool) (o : Option (List Step)) → ((steps : List Step) → o ≡ Some steps → All (IsStep kind) steps) → Sound kind (value_read clashes o)
value_sound kind true o each = tt
value_sound kind false None each = tt
value_sound kind false (Some steps) each = each steps refl

pub one_sound : (kind : Kind) (u : AttributeUnit) (change : StepChange) → Contains (units kind) u → MayBeMade kind u change → All (IsStep kind) (one u change)
one_sound kind u change there may = All-cons (IsStep kind) (Of u change) [] (there, may) (All-nil (IsStep kind))

-- ---- units of the kind

pub unit_there : (kind : Kind) (a : Attribute) (u : AttributeUnit) → Contains (attributes kind) a → Contains (units_of a) u → Contains (units kind) u
unfolding units
unit_there kind a u c d = contains_joined units_of (attributes kind) a u c.0 c.1 c.2 d

-- a multi-valued attribute is one
pub whole_there : (kind : Kind) (a : Attribute) → Contains (attributes kind) a → is_multi_valued a ≡ true → Contains (units kind) (whole a)
whole_there kind a c many =
    let one : units_of a ≡ whole a ∷ [] = ap (λ (b : Bool). if b then whole a ∷ [] else map unit_of (leaves_with a (sub_attributes a))) many in
    unit_there kind a (whole a) c (subst (λ us. Contains us (whole a)) (sym one) (zero, omega arith, refl))

-- the unit of each leaf is one, and what is dropped isn't required
abbrev leaf_passes : Kind → Leaf → Bool
leaf_passes kind l = list_any (λ u. is_same_unit u (unit_of l)) (units kind) && (not (is_dropped l) || not (is_required kind (unit_of l)))

leaves_pass : (kind : Kind) → list_all (leaf_passes kind) (leaves kind) ≡ true
unfolding units
leaves_pass User = refl
leaves_pass Group = refl

both_true : (a b : Bool) → (a && b) ≡ true → (a ≡ true) × (b ≡ true)
both_true true b h = (refl, h)
both_true false b h = absurd (true≢false (sym h))

leaf_fact : (kind : Kind) (l : Leaf) → HasLeaf kind l → leaf_passes kind l ≡ true
leaf_fact kind l there = All-contains (λ m. leaf_passes kind m ≡ true) (leaves kind) l (AllPass-from_list_all (leaf_passes kind) (leaves kind) (leaves_pass kind)) there

pub leaf_there : (kind : Kind) (l : Leaf) → HasLeaf kind l → Contains (units kind) (unit_of l)
leaf_there kind l there =
    let found = Any-from_list_any (λ u. is_same_unit u (unit_of l)) (units kind) (both_true _ _ (leaf_fact kind l there)).0 in
    let same : found.1 ≡ unit_of l = (is_same_unit-Decides found.1 (unit_of l)).0 found.4 in
    subst (λ u. Contains (units kind) u) same (found.0, found.2, found.3)

not_required : (a b : Bool) → (not a || not b) ≡ true → a ≡ true → b ≡ true → ⊥
not_required true true h t u = true≢false (sym h)
not_required true false h t u = true≢false (sym u)
not_required false b h t u = true≢false (sym t)

pub dropped_free : (kind : Kind) (l : Leaf) → HasLeaf kind l → is_dropped l ≡ true → is_required kind (unit_of l) ≡ true → ⊥
dropped_free kind l there dropped needed = not_required _ _ (both_true _ _ (leaf_fact kind l there)).1 dropped needed

-- no multi-valued attribute is required
abbrev many_passes : Kind → Attribute → Bool
many_passes kind a = not (is_multi_valued a) || not (is_required kind (whole a))

attributes_pass : (kind : Kind) → list_all (many_passes kind) (attributes kind) ≡ true
attributes_pass User = refl
attributes_pass Group = refl

pub many_free : (kind : Kind) (a : Attribute) → Contains (attributes kind) a → is_multi_valued a ≡ true → is_required kind (whole a) ≡ true → ⊥
many_free kind a c many needed =
    not_required _ _ (All-contains (λ b. many_passes kind b ≡ true) (attributes kind) a (AllPass-from_list_all (many_passes kind) (attributes kind) (attributes_pass kind)) c) many needed

-- the leaf of a sub-attribute is one of the kind
pub sub_leaf : (kind : Kind) (a : Attribute) (b : SubAttribute) → Contains (attributes kind) a → Contains (sub_attributes a) b → HasLeaf kind (leaf_at a b)
sub_leaf kind a b c d = contains_joined (λ e. leaves_with e (sub_attributes e)) (attributes kind) a (leaf_at a b) c.0 c.1 c.2 (sub_attribute_leaf a (sub_attributes a) b d)

-- ---- what is cleared

unit_cleared_sound : (kind : Kind) (u : AttributeUnit) → Contains (units kind) u → Sound kind (unit_cleared kind u)
unit_cleared_sound kind u there = elim (cases_Bool (is_fixed kind u)) [
  | inl t ↦ rw t (All-nil (IsStep kind))
  | inr f ↦ rw f (one_sound kind u Clear there tt)
]

pub all_cleared_sound : (kind : Kind) (a : Attribute) → Contains (attributes kind) a → Sound kind (cleared kind a)
all_cleared_sound kind a c =
    joined_sound kind (unit_cleared kind) (units_of a)
    (All-weaker (Contains (units_of a)) (λ u. Sound kind (unit_cleared kind u)) (λ u d. unit_cleared_sound kind u (unit_there kind a u c d)) (units_of a) (All-contains_itself (units_of a)))

-- ---- given values

-- a field of a single-valued attribute that is set
pub set_sound : (kind : Kind) (a : Attribute) (f : Field) → is_multi_valued a ≡ false → IsSingle kind a f → IsStep kind (set_to (field_given f))
set_sound kind a f single h = elim (cases_Bool (is_dropped f.leaf)) [
  | inl dropped ↦ (let own : AreGivenValues kind (unit_of f.leaf) [] = record {
    own = record { few = inr (omega arith); own = All-nil (IsValue kind (unit_of f.leaf)) };
    may_be_given = All-nil (λ (r : Row). All (MayBeGiven kind) r.fields);
  } in
      rw dropped (leaf_there kind f.leaf h.of_kind, (own, λ needed. absurd (dropped_free kind f.leaf h.of_kind dropped needed))))
  | inr kept ↦ (let row = single_row kind a f single h kept in
      let own : AreGivenValues kind (unit_of f.leaf) (row_with f ∷ []) = record {
        own = record { few = inr (omega arith); own = All-cons (IsValue kind (unit_of f.leaf)) (row_with f) [] (refl, row.full, row.own) (All-nil (IsValue kind (unit_of f.leaf))) };
        may_be_given = All-cons (λ (r : Row). All (MayBeGiven kind) r.fields) (row_with f) [] row.may_be_given (All-nil (λ (r : Row). All (MayBeGiven kind) r.fields));
      } in
      rw kept (leaf_there kind f.leaf h.of_kind, (own, λ needed. refl)))
]

-- values of a multi-valued attribute
pub values_sound : (kind : Kind) (a : Attribute) (vs : List Row) → is_multi_valued a ≡ true → All (IsValueOf kind a) vs → AreGivenValues kind (whole a) vs
values_sound kind a vs many own = record {
  own = record { few = inl many; own = All-weaker (IsValueOf kind a) (IsValue kind (whole a)) (λ r o. (o.unit, o.full, o.own)) vs own };
  may_be_given = All-weaker (IsValueOf kind a) (λ (r : Row). All (MayBeGiven kind) r.fields) (λ r o. o.may_be_given) vs own;
}

-- fields of one value
of_whole : (kind : Kind) (a : Attribute) (b : SubAttribute) (f : Field) → is_multi_valued a ≡ true → IsOf kind a b f → IsSoundField kind (whole a) f
of_whole kind a b f many o = (ap unit_of o.leaf ∙ many_unit a b many, o.of_kind, o.typed)

pub fields_sound : (kind : Kind) (a : Attribute) (fs : List Field) → is_multi_valued a ≡ true → AreFields kind a fs → AreGivenFields kind (whole a) fs
fields_sound kind a fs many h = record {
  many = many;
  own = All-weaker (λ f. (b : SubAttribute) × IsOf kind a b f) (IsSoundField kind (whole a)) (λ f o. of_whole kind a o.0 f many o.1) fs h.own;
  in_order = h.in_order;
  may_be_given = All-weaker (λ f. (b : SubAttribute) × IsOf kind a b f) (MayBeGiven kind) (λ f o. o.1.may_be_given) fs h.own;
}

pub field_sound : (kind : Kind) (a : Attribute) (b : SubAttribute) (f : Field) → is_multi_valued a ≡ true → IsOf kind a b f → AreGivenFields kind (whole a) (f ∷ [])
field_sound kind a b f many o = record {
  many = many;
  own = All-cons (IsSoundField kind (whole a)) f [] (of_whole kind a b f many o) (All-nil (IsSoundField kind (whole a)));
  in_order = one_pair Rises (f ∷ []) (omega arith);
  may_be_given = All-cons (MayBeGiven kind) f [] o.may_be_given (All-nil (MayBeGiven kind));
}
