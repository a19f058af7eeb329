-- A resource that no group lists has no value of `groups` in a client's view.
use Rattle.std.proofs.Common.{◌≡◌, refl, sym, ◌∙◌, ap, subst, Bool, true, false, true≢false, ◌||◌, inl, inr, List, [], ◌∷◌, map, filter}
use Rattle.std.specs.Prelude.{not, All, None, if◌then◌else◌}
use Rattle.std.specs.List.{list_any}
use Rattle.std.specs.Ordering.{is_lt, is_gt}
use Rattle.std.proofs.lemmas.Bool.{cases_Bool}
use Rattle.std.proofs.lemmas.List.Elements.{All-nil, All-head, All-tail}
use Rattle.std.proofs.lemmas.List.Folds.{list_any-append, list_any_none}
use denote.Enum.Bare.{sameb}
use Rattle.scim_schema.specs.contracts.Attribute.{the_type as the_attribute}
use Rattle.scim_schema.specs.contracts.Kind.{the_type as the_kind}
use Rattle.scim_schema.specs.declared.Attribute.TheVariants.{Groups}
use Rattle.scim_schema.specs.declared.Kind.{Kind}
use Rattle.scim_schema.specs.declared.Kind.TheVariants.{User, Group}
use Rattle.scim_schema.specs.declared.Leaf.{Leaf}
use Rattle.scim_schema.specs.declared.Unit.{Unit as AttributeUnit}
use Rattle.scim_schema.specs.Characteristics.{is_multi_valued}
use Rattle.scim_schema.specs.Table.{HasLeaf}
use Rattle.scim_schema.specs.Units.{unit_of, whole}
use Rattle.scim_schema.proofs.Facts.{attribute_one}
use Rattle.scim_cell.specs.declared.rows.Field.{Field}
use Rattle.scim_cell.specs.Content.{Content, IsPart}
use Rattle.scim_cell.specs.Order.{id_cmp}
use Rattle.scim_cell.specs.Place.{unit_cmp}
use Rattle.scim_cell.specs.Rows.{Row, Test, rows, put_values, restricted, restricted_row, has_fields, is_empty, AreSound, IsSoundField, IsSoundRow}
use Rattle.scim_value.specs.Members.{lists}
use Rattle.scim_value.proofs.Facts.{sound_part, rows_content}
use Rattle.scim_view.specs.View.{Viewer, may_be_seen, read_in}
use Rattle.scim_view.specs.Groups.{has_groups, membership, memberships, rows_with, seen, visible_with, with_groups}
use Rattle.scim_view.specs.Sorted.{sorted_by}
use Rattle.scim_view.proofs.AttributeLemmas.{hidden_leaf, sound_among}
use Rattle.scim_view.proofs.GroupLemmas.{IsGroupsRow}

-- ---- rows among which no value of `groups` is

-- a value of `groups` has the unit of the whole attribute
abbrev IsWhole : Row → Type 0
IsWhole r = sameb the_attribute r.unit.attribute Groups ≡ true → r.unit ≡ whole Groups

-- rows of other units have no value of `groups`
others : (p : AttributeUnit → Bool) (rs : List Row) → p (whole Groups) ≡ false → All IsWhole rs → has_groups (filter (λ (r : Row). p r.unit) rs) ≡ false
others p [] none own = refl
others p (r ∷ rs) none own =
    let rest = others p rs none (All-tail IsWhole r rs own) in
    elim (cases_Bool (p r.unit)) [
      | inl t ↦ elim (cases_Bool (sameb the_attribute r.unit.attribute Groups)) [
        | inl s ↦ absurd (true≢false (sym t ∙ ap p (All-head IsWhole r rs own s) ∙ none))
        | inr n ↦ rw (t, n) rest
      ]
      | inr f ↦ rw f rest
    ]

-- with no values put in for `groups`, there are none
none_put : (rs : List Row) → All IsWhole rs → has_groups (put_values (whole Groups) [] rs) ≡ false
none_put rs own =
    let below : AttributeUnit → Bool = λ u. is_lt (unit_cmp u (whole Groups)) in
    let above : AttributeUnit → Bool = λ u. is_gt (unit_cmp u (whole Groups)) in
    list_any-append (λ (r : Row). sameb the_attribute r.unit.attribute Groups) (filter (λ (r : Row). below r.unit) rs) (filter (λ (r : Row). above r.unit) rs)
    ∙ (λ i. others below rs refl own i || others above rs refl own i)

-- a test leaves no value of `groups` where there is none
none_left : (test : Test) (rs : List Row) → has_groups rs ≡ false → has_groups (restricted test rs) ≡ false
none_left test [] none = refl
none_left test (r ∷ rs) none = elim (cases_Bool (sameb the_attribute r.unit.attribute Groups)) [
  | inl s ↦ absurd (true≢false (rw s at none))
  | inr n ↦
      let rest = none_left test rs (rw n at none) in
      elim (cases_Bool (has_fields (restricted_row test r))) [ inl f ↦ rw (f, n) rest | inr f ↦ rw f rest ]
]

-- ---- the values of `groups` of a resource

whole_unit : (l : Leaf) → l.attribute ≡ Groups → unit_of l ≡ whole Groups
whole_unit l e i = record { attribute = e i; sub_attribute = if is_multi_valued (e i) then None else l.sub_attribute }

-- a leaf of the unit of valid fields
first_leaf : (kind : Kind) (u : AttributeUnit) (fs : List Field) → All (IsSoundField kind u) fs → not (is_empty fs) ≡ true → (l : Leaf) × (unit_of l ≡ u) × HasLeaf kind l
first_leaf kind u [] own full = absurd (true≢false (sym full))
first_leaf kind u (f ∷ fs) own full = let first = All-head (IsSoundField kind u) f fs own in (f.leaf, first.0, first.1)

row_whole : (kind : Kind) (r : Row) → IsSoundRow kind r → has_fields r ≡ true → IsWhole r
row_whole kind r sound full s =
    let first = first_leaf kind r.unit r.fields sound.own full in
    sym first.1 ∙ whole_unit first.0 (ap (λ (u : AttributeUnit). u.attribute) first.1 ∙ attribute_one r.unit.attribute Groups s)

-- no leaf of groups belongs to the attribute `groups`
no_leaf : (l : Leaf) → HasLeaf Group l → sameb the_attribute l.attribute Groups ≡ false
no_leaf l there = elim (cases_Bool (sameb the_attribute l.attribute Groups)) [
  | inl t ↦ absurd (true≢false (hidden_leaf (λ m. true) Group Groups l there t refl))
  | inr n ↦ n
]

group_row : (r : Row) → IsSoundRow Group r → has_fields r ≡ true → sameb the_attribute r.unit.attribute Groups ≡ false
group_row r sound full =
    let first = first_leaf Group r.unit r.fields sound.own full in
    ap (λ (u : AttributeUnit). sameb the_attribute u.attribute Groups) (sym first.1) ∙ no_leaf first.0 first.2

of_group : (kind : Kind) → sameb the_kind kind User ≡ false → kind ≡ Group
of_group User e = cc
of_group Group e = refl

-- a resource with no values put in for `groups` has none
none_with : (c : Content) → IsPart c → has_groups (rows_with [] c) ≡ false
none_with c part =
    let sound = sound_part c part in
    elim (cases_Bool (sameb the_kind c.kind User)) [
      | inl t ↦ rw t (none_put (rows c) (λ k d inside. row_whole c.kind _ (sound.own k d inside) (sound.full k d inside)))
      | inr n ↦
          let group : AreSound Group (rows c) = subst (λ (kind : Kind). AreSound kind (rows c)) (of_group c.kind n) sound in
          rw n (list_any_none (λ (r : Row). sameb the_attribute r.unit.attribute Groups) (rows c) (λ k d inside. group_row _ (group.own k d inside) (group.full k d inside)))
    ]

none_filtered : {X : Type 0} (p : X → Bool) (xs : List X) → list_any p xs ≡ false → filter p xs ≡ []
none_filtered p [] none = refl
none_filtered p (x ∷ xs) none = elim (cases_Bool (p x)) [
  | inl t ↦ absurd (true≢false (rw t at none))
  | inr n ↦ rw n (none_filtered p xs (rw n at none))
]

-- a resource that no visible group lists has no value of `groups` in the client's view
pub unlisted : (v : Viewer) (gs : List Content) (c : Content) → IsPart c → list_any (lists c.id) (seen v gs) ≡ false → has_groups (rows (with_groups v gs c)) ≡ false
unfolding with_groups visible_with
unlisted v gs c part none =
    let test = may_be_seen (read_in v c) c.kind in
    let empty : memberships v.base (seen v gs) c.id ≡ [] = ap (λ (ls : List Content). map (membership v.base) (sorted_by id_cmp ls)) (none_filtered (lists c.id) (seen v gs) none) in
    ap (λ (ms : List Row). has_groups (rows (visible_with (read_in v c) ms c))) empty
    ∙ ap has_groups (rows_content c.kind c.id _ (sound_among test [] c part (All-nil IsGroupsRow)))
    ∙ none_left test (rows_with [] c) (none_with c part)
