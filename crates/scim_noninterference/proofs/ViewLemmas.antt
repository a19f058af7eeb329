-- A view with computed groups shows what is visible without them.
use Rattle.std.proofs.Common.{◌≡◌, ◌≢◌, refl, sym, ◌∙◌, ap, ap₂, Bool, true, false, List, [], ◌∷◌, map, filter, inl, inr, arith}
use Rattle.std.specs.Prelude.{All, not}
use Rattle.std.specs.List.{list_any}
use Rattle.std.specs.Ordering.{is_eq}
use Rattle.std.proofs.lemmas.Bool.{cases_Bool}
use Rattle.std.proofs.lemmas.List.Elements.{All-head, All-tail, All-nil, All-filter, All-weaker}
use denote.Enum.Bare.{sameb, same_true, true_same}
use Rattle.scim_schema.specs.contracts.Attribute.{the_type as the_attribute}
use Rattle.scim_schema.specs.contracts.Kind.{the_type as the_kind}
use Rattle.scim_schema.specs.declared.Attribute.{Attribute}
use Rattle.scim_schema.specs.declared.Attribute.TheVariants.{Groups}
use Rattle.scim_schema.specs.declared.Kind.{Kind}
use Rattle.scim_schema.specs.declared.Kind.TheVariants.{User, Group}
use Rattle.scim_schema.specs.declared.Unit.{Unit as AttributeUnit}
use Rattle.scim_schema.specs.Units.{whole}
use Rattle.scim_cell.specs.declared.rows.Field.{Field}
use Rattle.scim_cell.specs.Content.{Content, IsPart}
use Rattle.scim_cell.specs.Kinds.{of_kind}
use Rattle.scim_cell.specs.Place.{unit_cmp}
use Rattle.scim_cell.specs.Rows.{Row, by_leaf, rows, values, restricted, AreSound, AreValues, IsValue}
use Rattle.scim_value.specs.Resource.{IsResource, MayBeKept}
use Rattle.scim_value.proofs.Facts.{part_content, put_sound, restricted_sound, rows_content, sound_part, unit_same}
use Rattle.scim_change.proofs.Facts.{values_stay}
use Rattle.scim_patch_steps.proofs.Facts.{same_content}
use Rattle.scim_policy.proofs.Facts.{kept_rows}
use Rattle.scim_view.specs.View.{Viewer, read_in, sees, visible, visible_by}
use Rattle.scim_view.specs.Groups.{seen, memberships, rows_with, visible_with, with_groups}
use Rattle.scim_view.proofs.Facts.{attributes_alike}
use Rattle.scim_noninterference.specs.Alike.{whole_view}
use Rattle.scim_noninterference.proofs.RowLemmas.{filter_implied, restricted_kept, attributes_kept, values_restricted}
use Rattle.scim_noninterference.proofs.StoreLemmas.{may_see, rows_visible, seen_map, views_map}

-- of those that pass one test none passes a test that only others pass
filter_apart : {X : Type 0} (p q : X → Bool) → ((x : X) → q x ≡ true → p x ≡ false) → (xs : List X) → filter q (filter p xs) ≡ []
filter_apart p q apart [] = refl
filter_apart p q apart (x ∷ xs) = grind (arith, filter_apart p q apart xs, apart x)

abbrev is_other : Attribute → Bool
is_other a = not (sameb the_attribute Groups a)

other_field : (kind : Kind) (f : Field) → MayBeKept kind f → is_other f.leaf.attribute ≡ true
other_field kind f kept = elim (cases_Bool (sameb the_attribute Groups f.leaf.attribute)) [
  | inl t ↦ absurd (kept.own (sym (same_true the_attribute tt Groups f.leaf.attribute t)))
  | inr n ↦ rw n refl
]

-- a resource is kept without values of `groups`
no_groups : (c : Content) → IsResource c → (u : AttributeUnit) → sameb the_attribute Groups u.attribute ≡ true → values u (rows c) ≡ []
no_groups c is u own =
    let sound = sound_part c is.part in
    let open' : All (λ (r : Row). All (λ (f : Field). is_other f.leaf.attribute ≡ true) r.fields) (rows c)
    = All-weaker (λ (r : Row). All (MayBeKept c.kind) r.fields) (λ (r : Row). All (λ (f : Field). is_other f.leaf.attribute ≡ true) r.fields)
    (λ r all. All-weaker (MayBeKept c.kind) (λ (f : Field). is_other f.leaf.attribute ≡ true) (other_field c.kind) r.fields all) (rows c) is.may_be_kept in
    let kept : restricted (by_leaf (λ l. is_other l.attribute)) (rows c) ≡ rows c = restricted_kept (by_leaf (λ l. is_other l.attribute)) (rows c) sound.full open' in
    let others = attributes_kept c.kind is_other (rows c) sound.full sound.own in
    ap (values u) (sym kept ∙ others)
    ∙ filter_apart (λ (r : Row). is_other r.unit.attribute) (λ (r : Row). is_eq (unit_cmp r.unit u))
    (λ r tie. ap (λ (w : AttributeUnit). is_other w.attribute) (unit_same r.unit u tie) ∙ ap not own) (rows c)

module _ (v : Viewer) where
  visible_kind : (c : Content) → (visible v c).kind ≡ c.kind
  unfolding visible visible_by
  visible_kind c = refl

  visible_id : (c : Content) → (visible v c).id ≡ c.id
  unfolding visible visible_by
  visible_id c = refl

  visible_part : (c : Content) → IsResource c → IsPart (visible v c)
  unfolding visible visible_by
  visible_part c is = part_content c.kind c.id _ (restricted_sound c.kind (may_see v c) (rows c) (sound_part c is.part))

  with_kind : (gs : List Content) (c : Content) → (with_groups v gs c).kind ≡ c.kind
  unfolding with_groups visible_with
  with_kind gs c = refl

  with_id : (gs : List Content) (c : Content) → (with_groups v gs c).id ≡ c.id
  unfolding with_groups visible_with
  with_id gs c = refl

  -- ---- a unit of `groups`

  none_visible : (c : Content) → IsResource c → (u : AttributeUnit) → sameb the_attribute Groups u.attribute ≡ true → values u (rows (visible v c)) ≡ []
  none_visible c is u own =
      ap (values u) (rows_visible v c is) ∙ values_restricted (may_see v c) u (rows c) ∙ ap (restricted (may_see v c)) (no_groups c is u own)

  -- ---- any other unit

  module _ (c : Content) (is : IsResource c) (u : AttributeUnit) (other : sameb the_attribute Groups u.attribute ≡ false) where
    abbrev keep : Attribute → Bool
    keep a = list_any (sameb the_attribute a) (u.attribute ∷ [])

    own_kept : (r : Row) → is_eq (unit_cmp r.unit u) ≡ true → keep r.unit.attribute ≡ true
    own_kept r tie =
        let itself : sameb the_attribute u.attribute u.attribute ≡ true = true_same the_attribute u.attribute u.attribute refl in
        ap (λ (w : AttributeUnit). keep w.attribute) (unit_same r.unit u tie) ∙ rw itself refl

    by_attribute : (rs : List Row) → values u (kept_rows keep rs) ≡ values u rs
    by_attribute rs = filter_implied (λ (r : Row). keep r.unit.attribute) (λ (r : Row). is_eq (unit_cmp r.unit u)) own_kept rs

    apart : whole Groups ≢ u
    apart e = (let yes' : sameb the_attribute Groups u.attribute ≡ true = true_same the_attribute Groups u.attribute (ap (λ (w : AttributeUnit). w.attribute) e) in cc)

    nothing : AreValues c.kind (whole Groups) []
    nothing = record { few = inl refl; own = All-nil (IsValue c.kind (whole Groups)) }

    bare_sound : AreSound c.kind (rows_with [] c)
    bare_sound = elim (cases_Bool (sameb the_kind c.kind User)) [
      | inl t ↦ rw t (put_sound c.kind (whole Groups) [] (rows c) nothing (sound_part c is.part))
      | inr n ↦ rw n (sound_part c is.part)
    ]

    bare_values : values u (rows_with [] c) ≡ values u (rows c)
    bare_values = elim (cases_Bool (sameb the_kind c.kind User)) [
      | inl t ↦ rw t (values_stay (whole Groups) [] (rows c) (All-nil (λ (r : Row). r.unit ≡ whole Groups)) u apart)
      | inr n ↦ rw n refl
    ]

    bare_visible : values u (rows (visible_with (read_in v c) [] c)) ≡ values u (rows (visible v c))
    unfolding visible_with
    bare_visible =
        ap (values u) (rows_content c.kind c.id (restricted (may_see v c) (rows_with [] c)) (restricted_sound c.kind (may_see v c) (rows_with [] c) bare_sound))
        ∙ values_restricted (may_see v c) u (rows_with [] c) ∙ ap (restricted (may_see v c)) bare_values
        ∙ sym (values_restricted (may_see v c) u (rows c)) ∙ sym (ap (values u) (rows_visible v c is))

    -- it has the values that it has without groups
    beside : (gs : List Content) → values u (rows (with_groups v gs c)) ≡ values u (rows (visible v c))
    unfolding with_groups
    beside gs =
        let d = read_in v c in
        let none : list_any (sameb the_attribute Groups) (u.attribute ∷ []) ≡ false = rw other refl in
        let some = attributes_alike (u.attribute ∷ []) d v.base (seen v gs) c is.part none in
        let bare = attributes_alike (u.attribute ∷ []) d v.base [] c is.part none in
        sym (by_attribute (rows (visible_with d (memberships v.base (seen v gs) c.id) c)))
        ∙ ap (values u) (sym some ∙ bare)
        ∙ by_attribute (rows (visible_with d (memberships v.base [] c.id) c))
        ∙ bare_visible

  -- ---- so views with groups tell what is visible

  visible_from : (gs hs : List Content) (a b : Content) → IsResource a → IsResource b → with_groups v gs a ≡ with_groups v hs b → visible v a ≡ visible v b
  visible_from gs hs a b one two same =
      same_content (visible v a) (visible v b) (visible_part a one) (visible_part b two)
      (visible_kind a ∙ sym (with_kind gs a) ∙ ap (λ (x : Content). x.kind) same ∙ with_kind hs b ∙ sym (visible_kind b))
      (visible_id a ∙ sym (with_id gs a) ∙ ap (λ (x : Content). x.id) same ∙ with_id hs b ∙ sym (visible_id b)) by_unit
    where
      by_unit : (u : AttributeUnit) → values u (rows (visible v a)) ≡ values u (rows (visible v b))
      by_unit u = elim (cases_Bool (sameb the_attribute Groups u.attribute)) [
        | inl own ↦ none_visible a one u own ∙ sym (none_visible b two u own)
        | inr other ↦ sym (beside a one u other gs) ∙ ap (λ (x : Content). values u (rows x)) same ∙ beside b two u other hs
      ]

  all_visible : (gs hs xs ys : List Content) → All IsResource xs → All IsResource ys → map (with_groups v gs) xs ≡ map (with_groups v hs) ys → map (visible v) xs ≡ map (visible v) ys
  all_visible gs hs [] [] own other e = refl
  all_visible gs hs [] (y ∷ ys) own other e = cc
  all_visible gs hs (x ∷ xs) [] own other e = cc
  all_visible gs hs (x ∷ xs) (y ∷ ys) own other e =
      let first : with_groups v gs x ≡ with_groups v hs y = cc in
      let later : map (with_groups v gs) xs ≡ map (with_groups v hs) ys = cc in
      ap₂ ◌∷◌ (visible_from gs hs x y (All-head IsResource x xs own) (All-head IsResource y ys other) first)
      (all_visible gs hs xs ys (All-tail IsResource x xs own) (All-tail IsResource y ys other) later)

  pub seen_from_views : (s t : List Content) → All IsResource s → All IsResource t → whole_view v s ≡ whole_view v t → seen v s ≡ seen v t
  seen_from_views s t own other e =
      seen_map v s
      ∙ all_visible (of_kind Group s) (of_kind Group t) (filter (sees v) s) (filter (sees v) t) (All-filter (sees v) IsResource s own) (All-filter (sees v) IsResource t other)
      (sym (views_map v (of_kind Group s) s) ∙ e ∙ views_map v (of_kind Group t) t)
      ∙ sym (seen_map v t)
