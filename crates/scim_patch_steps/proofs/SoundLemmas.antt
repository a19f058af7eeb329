-- Each value that a step makes, and leaves, may stand in a resource.
use Rattle.std.proofs.Common.{◌≡◌, ◌≤◌, ◌∙◌, Bool, true, false, refl, sym, ap, subst, arith, inl, inr, true≢false, List, [], ◌∷◌, ◌++◌, length, map, filter}
use Rattle.std.specs.Prelude.{Option, None, Some, option_map, Ok, All, Contains, nat_lt, not, ◌||◌, if◌then◌else◌}
use Rattle.std.specs.List.{count_by, list_all, list_any}
use Rattle.std.proofs.lemmas.Bool.{cases_Bool, or_parts, ltb-false}
use Rattle.std.proofs.lemmas.List.{length-map}
use Rattle.std.proofs.lemmas.Option.{same_Some, cond_some}
use Rattle.std.proofs.lemmas.List.Elements.{All-nil, All-cons, All-head, All-tail, All-append, All-weaker, All-map, All-push, All-filter, filter_passes}
use Rattle.scim_schema.specs.declared.Kind.{Kind}
use Rattle.scim_schema.specs.declared.Kind.TheVariants.{User, Group}
use Rattle.scim_schema.specs.declared.Attribute.{Attribute}
use Rattle.scim_schema.specs.declared.Attribute.TheVariants.{Members}
use Rattle.scim_schema.specs.declared.Leaf.{Leaf}
use Rattle.scim_schema.specs.declared.SubAttribute.{SubAttribute}
use Rattle.scim_schema.specs.declared.SubAttribute.TheVariants.{Primary}
use Rattle.scim_schema.specs.declared.Unit.{Unit as AttributeUnit}
use Rattle.scim_schema.specs.Characteristics.{is_multi_valued}
use Rattle.scim_schema.specs.Mutability.{is_fixed}
use Rattle.scim_schema.specs.Table.{leaves, HasLeaf}
use Rattle.scim_schema.specs.Units.{units, leaf_at, is_same_leaf}
use Rattle.scim_schema.proofs.Facts.{attribute_one, is_same_leaf-Decides}
use Rattle.scim_cell.specs.declared.rows.Field.{Field}
use Rattle.scim_cell.specs.Rows.{Row, has_fields, is_primary, IsSoundField, IsValue, AreValues}
use Rattle.scim_value.specs.Resource.{MayBeKept}
use Rattle.scim_value.proofs.Facts.{not_flip}
use Rattle.scim_change.proofs.Facts.{kept_field}
use Rattle.scim_cell.specs.SameValues.{is_members, is_nameless, is_same_value, with_value, with_values}
use Rattle.scim_filter_grammar.specs.Tree.{Tree}
use Rattle.scim_filter.specs.Truth.{truth_in_value}
use Rattle.scim_patch_values.specs.declared.positions.Position.{Position}
use Rattle.scim_patch_values.specs.Described.{described}
use Rattle.scim_patch_values.specs.Fields.{over, row_without, demoted}
use Rattle.scim_patch_values.specs.Matches.{kept, given_primary, marked, made, value_of, is_listed, is_any_match, set_over, set_at_match, replaced_at_match, cleared_at_match, with_made, set_everywhere}
use Rattle.scim_patch_steps.specs.Changes.{StepChange, Keep, KeepMatches, KeepSubAttribute, Append, Replace, Clear, RemoveListed, AddToMatches, ReplaceMatches, RemoveMatches, AddAtMatches, SetAtMatches, ClearAtMatches, SetEverywhere, ClearEverywhere}
use Rattle.scim_patch_steps.specs.Table.{row}
use Rattle.scim_patch_steps.specs.Steps.{is_forbidden, gives_two_primary, are_refused, beside_chosen, primary_settled, checked, settled, judged, after}
use Rattle.scim_patch_steps.specs.Patch.{AreGivenFields, AreGivenValues, MayBeMade}
use Rattle.scim_patch_steps.proofs.Outcomes.{not_refused}
use Rattle.scim_patch_steps.proofs.FieldLemmas.{IsKeptField, AreKeptFields, IsValueOf, each_kept, given_kept, row_over_kept, row_without_kept, primary_field, demoted_kept, demoted_full, passes_in, described_kept}

-- ---- values

-- what holds of both holds of the one that a test picks
picked : {X : Type 0} (P : X → Type 0) (b : Bool) (x y : X) → P x → P y → P (if b then x else y)
picked P true x y p q = p
picked P false x y p q = q

-- a value with fields that may be kept is a value of its unit
value_stands : (kind : Kind) (u : AttributeUnit) (r : Row) → IsValue kind u r → All (MayBeKept kind) r.fields → IsValueOf kind u r
value_stands kind u r h k = record {
  unit = h.0;
  fields = record { own = subst (λ v. All (IsSoundField kind v) r.fields) h.0 h.2.own; in_order = h.2.in_order; kept = k };
}

-- so are all values of a unit
pub values_sound : (kind : Kind) (u : AttributeUnit) (vs : List Row) → AreValues kind u vs → All (λ r. All (MayBeKept kind) r.fields) vs → All (IsValueOf kind u) vs
values_sound kind u vs h k i d l = value_stands kind u _ (h.own i d l) (k i d l)

-- so are those that a client gives
given_stand : (kind : Kind) (u : AttributeUnit) (vs : List Row) → AreGivenValues kind u vs → All (IsValueOf kind u) vs
given_stand kind u vs h =
    values_sound kind u vs h.own (λ i d l. (let given = h.may_be_given i d l in λ j e m. kept_field kind _ (given j e m)))

-- so is a value of given fields
given_value : (kind : Kind) (u : AttributeUnit) (fs : List Field) → AreGivenFields kind u fs → IsValueOf kind u (value_of u fs)
given_value kind u fs h = record { unit = refl; fields = given_kept kind u fs h }

-- what holds of values holds of those of them that are no others
pub with_all : (P : Row → Type 0) (a : Attribute) (rs more : List Row) → All P rs → All P more → All P (with_values a rs more)
with_all P a rs [] h k = h
with_all P a rs (r ∷ more) h k =
    let added : All P (with_value a rs r)
    = picked (All P) (list_any (λ s. is_same_value a s r) rs) rs (rs ++ r ∷ []) h (All-push P rs r h (All-head P r more k)) in
    with_all P a (with_value a rs r) more added (All-tail P r more k)

-- ---- the table

-- a position holds a value of the unit
abbrev pub HoldsValue : Kind → AttributeUnit → Position → Type 0
HoldsValue kind u p = IsValueOf kind u p.value

-- what is there is what was made
same_all : {X : Type 0} (P : X → Type 0) (xs ys : List X) → Some xs ≡ Some ys → All P xs → All P ys
same_all P xs ys h own = subst (All P) (same_Some xs ys h) own

module _ (kind : Kind) (u : AttributeUnit) where
  -- values that the step leaves
  left : (vs : List Row) → All (IsValueOf kind u) vs → All (HoldsValue kind u) (map kept vs)
  left vs own = All-map (HoldsValue kind u) kept vs own

  -- values of which some are marked
  mark : (primary vs : List Row) → All (IsValueOf kind u) vs → All (HoldsValue kind u) (map (marked u.attribute primary) vs)
  mark primary vs own = All-map (HoldsValue kind u) (marked u.attribute primary) vs own

  -- a value with given fields over its own
  set_one : (given : List Field) (r : Row) → All (IsKeptField kind u) given → IsValueOf kind u r → HoldsValue kind u (set_over given r)
  set_one given r g h = row_over_kept kind u given r g h

  -- each value that is a match with given fields over its own
  set_matches : (t : Tree) (given : List Field) (vs : List Row) → All (IsKeptField kind u) given → All (IsValueOf kind u) vs → All (HoldsValue kind u) (map (set_at_match t given) vs)
  set_matches t given vs g own =
      All-map (HoldsValue kind u) (set_at_match t given) vs
      (All-weaker (IsValueOf kind u) (λ r. HoldsValue kind u (set_at_match t given r))
      (λ r h. picked (HoldsValue kind u) (truth_in_value t r) (set_over given r) (kept r) (set_one given r g h) h) vs own)

  -- each value with given fields over its own; where there is none, one of them
  set_all : (given : List Field) (vs : List Row) → AreGivenFields kind u given → All (IsValueOf kind u) vs → All (HoldsValue kind u) (set_everywhere u given vs)
  set_all given [] g own = All-cons (HoldsValue kind u) (made (value_of u given)) [] (given_value kind u given g) (All-nil (HoldsValue kind u))
  set_all given (v ∷ vs) g own =
      let each = each_kept kind u given (given_kept kind u given g) in
      All-map (HoldsValue kind u) (set_over given) (v ∷ vs)
      (All-weaker (IsValueOf kind u) (λ r. HoldsValue kind u (set_over given r)) (λ r h. set_one given r each h) (v ∷ vs) own)

  -- each value that is a match replaced by one
  replaced : (t : Tree) (given : Row) (vs : List Row) → IsValueOf kind u given → All (IsValueOf kind u) vs → All (IsValueOf kind u) (map (replaced_at_match t given) vs)
  replaced t given vs g own =
      All-map (IsValueOf kind u) (replaced_at_match t given) vs
      (All-weaker (IsValueOf kind u) (λ r. IsValueOf kind u (replaced_at_match t given r)) (λ r h. picked (IsValueOf kind u) (truth_in_value t r) given r g h) vs own)

  -- each value that is a match without the field of a sub-attribute
  cleared : (t : Tree) (b : SubAttribute) (vs : List Row) → All (IsValueOf kind u) vs → All (IsValueOf kind u) (map (cleared_at_match t b) vs)
  cleared t b vs own =
      All-map (IsValueOf kind u) (cleared_at_match t b) vs
      (All-weaker (IsValueOf kind u) (λ r. IsValueOf kind u (cleared_at_match t b r))
      (λ r h. picked (IsValueOf kind u) (truth_in_value t r) (row_without (leaf_at r.unit.attribute b) r) r (row_without_kept kind u (leaf_at r.unit.attribute b) r h) h) vs own)

  -- each value without the field of a leaf
  cleared_all : (l : Leaf) (vs : List Row) → All (IsValueOf kind u) vs → All (IsValueOf kind u) (map (row_without l) vs)
  cleared_all l vs own =
      All-map (IsValueOf kind u) (row_without l) vs
      (All-weaker (IsValueOf kind u) (λ r. IsValueOf kind u (row_without l r)) (λ r h. row_without_kept kind u l r h) vs own)

  -- given fields over those of each match; without one, a value that is made of what the filter describes
  added : (t : Tree) (given : List Field) (vs : List Row) (ps : List Position) (make : List Field → List Field)
      → ((fs : List Field) → described u.attribute t ≡ Some fs → AreKeptFields kind u (make fs)) → All (IsKeptField kind u) given → All (IsValueOf kind u) vs
      → (if is_any_match t vs then Some (map (set_at_match t given) vs) else option_map (λ fs. with_made u vs (make fs)) (described u.attribute t)) ≡ Some ps
      → All (HoldsValue kind u) ps
  added t given vs ps make fit g own h = elim (cases_Bool (is_any_match t vs)) [
    | inl some ↦ same_all (HoldsValue kind u) (map (set_at_match t given) vs) ps (rw some at h) (set_matches t given vs g own)
    | inr none ↦ by_description (described u.attribute t) fit (rw none at h)
  ]
    where
      by_description : (o : Option (List Field)) → ((fs : List Field) → o ≡ Some fs → AreKeptFields kind u (make fs)) → option_map (λ fs. with_made u vs (make fs)) o ≡ Some ps → All (HoldsValue kind u) ps
      by_description None fits e = absurd (cc e)
      by_description (Some fs) fits e =
          same_all (HoldsValue kind u) (with_made u vs (make fs)) ps e
          (All-append (HoldsValue kind u) (map kept vs) (made (value_of u (make fs)) ∷ []) (left vs own)
          (All-cons (HoldsValue kind u) (made (value_of u (make fs))) [] (record { unit = refl; fields = fits fs refl }) (All-nil (HoldsValue kind u))))

-- each value that a step makes is one of the unit, that a resource may keep
pub rows_sound : (kind : Kind) (u : AttributeUnit) (change : StepChange) (vs : List Row) (ps : List Position) → Contains (units kind) u → is_fixed kind u ≡ false → is_multi_valued u.attribute ≡ true
    → MayBeMade kind u change → All (IsValueOf kind u) vs → row u change vs ≡ Some ps → All (λ p. IsValueOf kind u p.value) ps
rows_sound kind u Keep vs ps of_kind free many may own h = same_all (HoldsValue kind u) (map kept vs) ps h (left kind u vs own)
rows_sound kind u (KeepMatches t) vs ps of_kind free many may own h = same_all (HoldsValue kind u) (map kept vs) ps h (left kind u vs own)
rows_sound kind u (KeepSubAttribute b) vs ps of_kind free many may own h = same_all (HoldsValue kind u) (map kept vs) ps h (left kind u vs own)
rows_sound kind u (Append given) vs ps of_kind free many may own h =
    same_all (HoldsValue kind u) _ ps h
    (mark kind u (given_primary u.attribute given) (with_values u.attribute vs given) (with_all (IsValueOf kind u) u.attribute vs given own (given_stand kind u given may.1)))
rows_sound kind u (Replace given) vs ps of_kind free many may own h =
    same_all (HoldsValue kind u) _ ps h
    (mark kind u (given_primary u.attribute given) (with_values u.attribute [] given) (with_all (IsValueOf kind u) u.attribute [] given (All-nil (IsValueOf kind u)) (given_stand kind u given may.0)))
rows_sound kind u Clear vs ps of_kind free many may own h = same_all (HoldsValue kind u) [] ps h (All-nil (HoldsValue kind u))
rows_sound kind u (RemoveListed texts) vs ps of_kind free many may own h =
    let other = λ (r : Row). not (is_listed texts r) in
    same_all (HoldsValue kind u) _ ps h (left kind u (filter other vs) (All-filter other (IsValueOf kind u) vs own))
rows_sound kind u (AddToMatches t given) vs ps of_kind free many may own h =
    added kind u t given vs ps (λ fs. over given (over fs [])) (λ fs e. described_kept kind u of_kind free many t fs given e may) (each_kept kind u given (given_kept kind u given may)) own h
rows_sound kind u (ReplaceMatches t given) vs ps of_kind free many may own h =
    let one = given_value kind u given may in
    let values = map (replaced_at_match t (value_of u given)) vs in
    let found = cond_some (is_any_match t vs) _ ps h in
    subst (All (HoldsValue kind u)) found.1
    (mark kind u (given_primary u.attribute (value_of u given ∷ [])) (with_values u.attribute [] values)
    (with_all (IsValueOf kind u) u.attribute [] values (All-nil (IsValueOf kind u)) (replaced kind u t (value_of u given) vs one own)))
rows_sound kind u (RemoveMatches t) vs ps of_kind free many may own h =
    let other = λ (r : Row). not (truth_in_value t r) in
    same_all (HoldsValue kind u) _ ps h (left kind u (filter other vs) (All-filter other (IsValueOf kind u) vs own))
rows_sound kind u (AddAtMatches t field) vs ps of_kind free many may own h =
    let given = field ∷ [] in
    added kind u t given vs ps (λ fs. over given (over fs [])) (λ fs e. described_kept kind u of_kind free many t fs given e may) (each_kept kind u given (given_kept kind u given may)) own h
rows_sound kind u (SetAtMatches t field) vs ps of_kind free many may own h =
    let given = field ∷ [] in
    let found = cond_some (is_any_match t vs) _ ps h in
    subst (All (HoldsValue kind u)) found.1 (set_matches kind u t given vs (each_kept kind u given (given_kept kind u given may)) own)
rows_sound kind u (ClearAtMatches t b) vs ps of_kind free many may own h =
    same_all (HoldsValue kind u) _ ps h (left kind u (map (cleared_at_match t b) vs) (cleared kind u t b vs own))
rows_sound kind u (SetEverywhere field) vs ps of_kind free many may own h =
    same_all (HoldsValue kind u) _ ps h (set_all kind u (field ∷ []) vs may own)
rows_sound kind u (ClearEverywhere b) vs ps of_kind free many may own h =
    let l = leaf_at u.attribute b in
    same_all (HoldsValue kind u) _ ps h (left kind u (map (row_without l) vs) (cleared_all kind u l vs own))

-- ---- what is left

-- none passes a test that not any passes
none_passes : {X : Type 0} (p : X → Bool) (xs : List X) → list_any p xs ≡ false → All (λ x. p x ≡ false) xs
none_passes p [] h = All-nil (λ x. p x ≡ false)
none_passes p (x ∷ xs) h = let t = or_parts (p x) (list_any p xs) h in All-cons (λ y. p y ≡ false) x xs t.0 (none_passes p xs t.1)

-- no leaf of a kind is the `primary` of a member
no_primary_leaf : (kind : Kind) → list_all (λ l. not (is_same_leaf l (leaf_at Members Primary))) (leaves kind) ≡ true
no_primary_leaf User = refl
no_primary_leaf Group = refl

-- so a kind has none
no_primary_member : (kind : Kind) (l : Leaf) → HasLeaf kind l → l ≡ leaf_at Members Primary → ⊥
no_primary_member kind l has e =
    let other = passes_in (λ m. not (is_same_leaf m (leaf_at Members Primary))) (leaves kind) l (no_primary_leaf kind) has in
    true≢false (sym ((is_same_leaf-Decides l (leaf_at Members Primary)).1 e) ∙ not_flip _ other)

-- a value with fields, that has a name where it must
pub record IsLeft (kind : Kind) (u : AttributeUnit) (r : Row) : Type 0 where
  pub own : IsValueOf kind u r
  pub full : has_fields r ≡ true
  pub named : is_nameless u.attribute r ≡ false

-- a value that is primary isn't a member
primary_no_member : (kind : Kind) (u : AttributeUnit) (r : Row) → IsValueOf kind u r → is_primary r ≡ true → is_members u.attribute ≡ false
primary_no_member kind u r own t = elim (cases_Bool (is_members u.attribute)) [
  | inl m ↦
      let found = primary_field kind u r own t in
      let member : r.unit.attribute ≡ Members = ap (λ (v : AttributeUnit). v.attribute) own.unit ∙ attribute_one u.attribute Members m in
      absurd (no_primary_member kind found.0.leaf found.1.0.1 (found.2 ∙ ap (λ a. leaf_at a Primary) member))
  | inr n ↦ n
]

-- a value that is no longer primary keeps its name
demoted_named : (kind : Kind) (u : AttributeUnit) (r : Row) → IsValueOf kind u r → is_nameless u.attribute r ≡ false → is_nameless u.attribute (demoted r) ≡ false
demoted_named kind u r own h = elim (cases_Bool (is_primary r)) [
  | inl t ↦ rw (primary_no_member kind u r own t) refl
  | inr n ↦ rw n h
]

-- and is left
demoted_left : (kind : Kind) (u : AttributeUnit) (r : Row) → IsLeft kind u r → IsLeft kind u (demoted r)
demoted_left kind u r h = record { own = demoted_kept kind u r h.own; full = demoted_full r h.full; named = demoted_named kind u r h.own h.named }

-- what holds of each value, and of it when it is no longer primary, holds of those where the primary one is settled
settled_all : (P : Row → Type 0) (ps : List Position) → ((r : Row) → P r → P (demoted r)) → All (λ p. P p.value) ps → All P (primary_settled ps)
settled_all P ps turn h =
    picked (All P) _ (map beside_chosen ps) (map (λ (p : Position). p.value) ps)
    (All-map P beside_chosen ps (All-weaker (λ p. P p.value) (λ p. P (beside_chosen p)) (λ p q. picked P p.chosen p.value (demoted p.value) q (turn p.value q)) ps h))
    (All-map P (λ (p : Position). p.value) ps h)

-- they are as many
settled_length : (ps : List Position) → length (primary_settled ps) ≡ length ps
settled_length ps =
    picked (λ (rs : List Row). length rs ≡ length ps) _ (map beside_chosen ps) (map (λ (p : Position). p.value) ps)
    (length-map ps beside_chosen) (length-map ps (λ (p : Position). p.value))

-- values of a unit that a step leaves
pub record AreLeft (kind : Kind) (u : AttributeUnit) (ws : List Row) : Type 0 where
  pub own : AreValues kind u ws
  pub kept : All (λ r. All (MayBeKept kind) r.fields) ws
  pub named : All (λ r. is_nameless u.attribute r ≡ false) ws
  pub few : length ws ≤ 10000

-- a value that is left is one that may be put in
left_value : (kind : Kind) (u : AttributeUnit) (r : Row) → IsLeft kind u r → IsValue kind u r
left_value kind u r h = (
  h.own.unit,
  h.full,
  record {
    own = subst (λ v. All (IsSoundField kind v) r.fields) (sym h.own.unit) h.own.fields.own;
    in_order = h.own.fields.in_order;
  },
)

-- what is left of positions that aren't refused
checked_left : (kind : Kind) (u : AttributeUnit) (ps : List Position) (ws : List Row) → is_multi_valued u.attribute ≡ true → All (HoldsValue kind u) ps → All (λ (p : Position). has_fields p.value ≡ true) ps
    → checked u.attribute ps ≡ Ok ws → AreLeft kind u ws
checked_left kind u ps ws many own full h =
    let allowed = not_refused (are_refused u.attribute ps) _ _ ws h in
    let same : primary_settled ps ≡ ws = (let e = allowed.1 in cc) in
    let chosen = nat_lt 1 (count_by (λ (p : Position). p.chosen) ps) in
    let nameless = list_any (λ (p : Position). is_nameless u.attribute p.value) ps in
    let refused = or_parts (chosen || nameless) (nat_lt 10000 (length ps)) allowed.0 in
    let parts = or_parts chosen nameless refused.0 in
    let named = none_passes (λ (p : Position). is_nameless u.attribute p.value) ps parts.1 in
    let each : All (λ (p : Position). IsLeft kind u p.value) ps = λ k d l. record { own = own k d l; full = full k d l; named = named k d l } in
    let all : All (IsLeft kind u) ws = subst (All (IsLeft kind u)) same (settled_all (IsLeft kind u) ps (demoted_left kind u) each) in
    let count : length ws ≡ length ps = ap (λ (rs : List Row). length rs) (sym same) ∙ settled_length ps in
    record {
      own = record { few = inl many; own = All-weaker (IsLeft kind u) (IsValue kind u) (left_value kind u) ws all };
      kept = All-weaker (IsLeft kind u) (λ r. All (MayBeKept kind) r.fields) (λ r i. i.own.fields.kept) ws all;
      named = All-weaker (IsLeft kind u) (λ r. is_nameless u.attribute r ≡ false) (λ r i. i.named) ws all;
      few = omega (arith, count, ltb-false 10000 (length ps) refused.1);
    }

-- what is left of what was found
settled_left : (kind : Kind) (u : AttributeUnit) (o : Option (List Position)) (ws : List Row) → is_multi_valued u.attribute ≡ true → ((ps : List Position) → o ≡ Some ps → All (HoldsValue kind u) ps)
    → settled u.attribute o ≡ Ok ws → AreLeft kind u ws
settled_left kind u None ws many own h = absurd (cc h)
settled_left kind u (Some ps) ws many own h =
    let full = λ (p : Position). has_fields p.value in
    checked_left kind u (filter full ps) ws many (All-filter full (HoldsValue kind u) ps (own ps refl)) (filter_passes full ps) h

-- the values that a step leaves of a unit with several values
pub after_left : (kind : Kind) (u : AttributeUnit) (change : StepChange) (vs ws : List Row) → Contains (units kind) u → is_multi_valued u.attribute ≡ true
    → MayBeMade kind u change → All (IsValueOf kind u) vs → after kind u change vs ≡ Ok ws → AreLeft kind u ws
after_left kind u change vs ws of_kind many may own h =
    let allowed = not_refused (is_forbidden kind u change vs) _ (judged u.attribute change (row u change vs)) ws h in
    let free = (or_parts (is_fixed kind u) _ allowed.0).0 in
    let single = not_refused (gives_two_primary u.attribute change) _ (settled u.attribute (row u change vs)) ws allowed.1 in
    settled_left kind u (row u change vs) ws many (λ ps e. rows_sound kind u change vs ps of_kind free many may own e) single.1
