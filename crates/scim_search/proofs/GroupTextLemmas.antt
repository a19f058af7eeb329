-- The groups of a store whose ids are seen at `groups.value` of a user.
use Rattle.std.proofs.Common.{◌≡◌, refl, sym, ◌∙◌, ap, subst, ℕ, Bool, true, false, ◌&&◌, ◌||◌, List, [], ◌∷◌, ◌++◌, map, filter, inl, inr, true≢false}
use Rattle.std.specs.Prelude.{All, Option, None, Some}
use Rattle.std.specs.List.{list_any}
use Rattle.std.specs.declared.cmp.Ordering.{Ordering}
use Rattle.std.specs.Ordering.{nat_cmp, is_lt, is_eq, is_gt}
use Rattle.std.specs.Cmp.Lexicographic.{slice_cmp}
use Rattle.std.proofs.lemmas.Bool.{cases_Bool, false_from_ne_true, or_right}
use Rattle.std.proofs.Math.Bool.{and-false, or-false}
use Rattle.std.proofs.lemmas.List.Elements.{All-head, All-tail}
use Rattle.std.proofs.lemmas.List.Folds.{list_any-append}
use denote.Enum.Bare.{sameb, true_same}
use Rattle.scim_schema.specs.declared.Kind.{Kind}
use Rattle.scim_schema.specs.declared.Kind.TheVariants.{User}
use Rattle.scim_schema.specs.contracts.Kind.{the_type as the_kind}
use Rattle.scim_schema.specs.declared.Attribute.TheVariants.{Groups}
use Rattle.scim_schema.specs.contracts.Attribute.{the_type as the_attribute}
use Rattle.scim_schema.specs.declared.Leaf.{Leaf}
use Rattle.scim_schema.specs.Characteristics.{is_case_exact}
use Rattle.scim_schema.specs.Units.{whole, is_same_leaf}
use Rattle.scim_schema.proofs.Facts.{and_first, and_second, leaf_one}
use Rattle.scim_cell.specs.declared.atoms.Atom.{Atom}
use Rattle.scim_cell.specs.declared.rows.Field.{Field}
use Rattle.scim_cell.specs.Place.{unit_cmp}
use Rattle.scim_cell.specs.Content.{Content, IsPart}
use Rattle.scim_cell.specs.Ids.{id_text}
use Rattle.scim_cell.specs.Order.{id_cmp}
use Rattle.scim_cell.specs.Rows.{Row, Test, rows, put_values, restricted, restricted_row, has_fields, AreSound, AreValues}
use Rattle.scim_value.specs.Members.{lists}
use Rattle.scim_value.specs.Resource.{IsResource, MayBeKept}
use Rattle.scim_value.proofs.Facts.{sound_part, rows_content, put_sound, restricted_sound}
use Rattle.scim_filter_grammar.specs.declared.tree.Literal.TheVariants as literal
use Rattle.scim_filter_grammar.specs.declared.tree.Operator.TheVariants.{Eq}
use Rattle.scim_filter.specs.Relation.{stands}
use Rattle.scim_filter.specs.Truth.{some_cell}
use Rattle.scim_filter_texts.specs.Needed as needed
use Rattle.scim_filter_texts.proofs.Facts.{any_kept, cell_by_row, either, own_passes}
use Rattle.scim_view.specs.View.{Viewer, read_in, may_be_seen, sees, visible, visible_by}
use Rattle.scim_view.specs.Groups.{seen, membership, membership_of, memberships, with_groups, visible_with}
use Rattle.scim_view.specs.Sorted.{placed, sorted_by}
use Rattle.scim_view.proofs.Facts.{any_weaker, restricted-put_values, seen_values}
use Rattle.scim_search.specs.PossibleIds.{group_leaf}
use Rattle.scim_search.proofs.SomeTextLemmas.{any_mapped}

-- ---- the rows in which `groups.value` is seen

-- whether a field at `groups.value` passes
abbrev at_group : (Atom → Bool) → Field → Bool
at_group passes f = is_same_leaf f.leaf group_leaf && passes f.atom

-- no stored field is at `groups.value`
no_field : (kind : Kind) (passes : Atom → Bool) (fs : List Field) → All (MayBeKept kind) fs → list_any (at_group passes) fs ≡ false
no_field kind passes [] kept = refl
no_field kind passes (f ∷ fs) kept = elim (cases_Bool (is_same_leaf f.leaf group_leaf)) [
  | inl t ↦ absurd ((All-head (MayBeKept kind) f fs kept).own (ap (λ (m : Leaf). m.attribute) (leaf_one f.leaf group_leaf t)))
  | inr n ↦ rw n (no_field kind passes fs (All-tail (MayBeKept kind) f fs kept))
]

abbrev AreStored : Kind → List Row → Type 0
AreStored kind rs = All (λ (r : Row). All (MayBeKept kind) r.fields) rs

none_stored : (kind : Kind) (passes : Atom → Bool) (rs : List Row) → AreStored kind rs → list_any (own_passes (at_group passes) Groups) rs ≡ false
none_stored kind passes [] kept = refl
none_stored kind passes (r ∷ rs) kept =
    let Kept : Row → Type 0 = λ s. All (MayBeKept kind) s.fields in
    let here : own_passes (at_group passes) Groups r ≡ false
    = ap (λ (b : Bool). sameb the_attribute r.unit.attribute Groups && b) (no_field kind passes r.fields (All-head Kept r rs kept)) ∙ and-false _ in
    let rest = none_stored kind passes rs (All-tail Kept r rs kept) in
    λ i. here i || rest i

-- a cell that is left of rows stands in them
row_kept : (keeps : Test) (p : Field → Bool) (rs : List Row) → list_any (own_passes p Groups) (map (restricted_row keeps) rs) ≡ true → list_any (own_passes p Groups) rs ≡ true
row_kept keeps p [] e = e
row_kept keeps p (r ∷ rs) e =
    either (own_passes p Groups (restricted_row keeps r)) (list_any (own_passes p Groups) (map (restricted_row keeps) rs)) (own_passes p Groups r) (list_any (own_passes p Groups) rs)
    (λ h. (let own : sameb the_attribute r.unit.attribute Groups ≡ true = and_first _ _ h in rw own (any_kept p (λ (f : Field). keeps r f.leaf) r.fields (and_second _ _ h)))) (row_kept keeps p rs) e

left_stands : (keeps : Test) (p : Field → Bool) (rs : List Row) → some_cell p Groups (restricted keeps rs) ≡ true → list_any (own_passes p Groups) rs ≡ true
left_stands keeps p rs e =
    row_kept keeps p rs (any_kept (own_passes p Groups) has_fields (map (restricted_row keeps) rs) (sym (cell_by_row p Groups (restricted keeps rs)) ∙ e))

-- the rows of what is seen of a user with its groups
seen_rows : (v : Viewer) (gs : List Content) (c : Content) → c.kind ≡ User → IsPart c
    → rows (with_groups v gs c) ≡ restricted (may_be_seen (read_in v c) c.kind) (put_values (whole Groups) (memberships v.base (seen v gs) c.id) (rows c))
unfolding with_groups visible_with
seen_rows v gs c user part =
    let keeps = may_be_seen (read_in v c) c.kind in
    let ms = memberships v.base (seen v gs) c.id in
    let is : sameb the_kind c.kind User ≡ true = true_same the_kind c.kind User user in
    let own = restricted_sound c.kind keeps (rows c) (sound_part c part) in
    let fit : AreValues c.kind (whole Groups) (restricted keeps ms) = subst (λ (k : Kind). AreValues k (whole Groups) (restricted keeps ms)) (sym user) (seen_values keeps v.base (sorted_by id_cmp (filter (lists c.id) (seen v gs)))) in
    let sound : AreSound c.kind (restricted keeps (put_values (whole Groups) ms (rows c)))
    = subst (AreSound c.kind) (sym (restricted-put_values keeps (whole Groups) ms (rows c))) (put_sound c.kind (whole Groups) (restricted keeps ms) (restricted keeps (rows c)) fit own) in
    rw is (rows_content c.kind c.id _ sound)

-- what passes at `groups.value` is in a computed value
among_made : (kind : Kind) (passes : Atom → Bool) (ms rs : List Row) → AreStored kind rs
    → list_any (own_passes (at_group passes) Groups) (put_values (whole Groups) ms rs) ≡ true → list_any (own_passes (at_group passes) Groups) ms ≡ true
among_made kind passes ms rs kept e =
    let p : Row → Bool = own_passes (at_group passes) Groups in
    let before : List Row = filter (λ (r : Row). is_lt (unit_cmp r.unit (whole Groups))) rs in
    let later : List Row = filter (λ (r : Row). is_gt (unit_cmp r.unit (whole Groups))) rs in
    let none : list_any p rs ≡ false = none_stored kind passes rs kept in
    let none_before : list_any p before ≡ false = false_from_ne_true _ (λ t. true≢false (sym (any_kept p _ rs t) ∙ none)) in
    let none_later : list_any p later ≡ false = false_from_ne_true _ (λ t. true≢false (sym (any_kept p _ rs t) ∙ none)) in
    let all : (list_any p before || (list_any p ms || list_any p later)) ≡ true
    = ap (λ (b : Bool). list_any p before || b) (sym (list_any-append p ms later)) ∙ sym (list_any-append p before (ms ++ later)) ∙ e in
    sym (or-false (list_any p ms)) ∙ (λ i. sym none_before i || (list_any p ms || sym none_later i)) ∙ all

-- ---- the groups of the computed values

-- whether the text is that of the id
abbrev pub is_text_of : List ℕ → List ℕ → Bool
is_text_of text id = is_eq (slice_cmp nat_cmp (id_text id) text)

-- what `eq` holds of at `groups.value`
abbrev equals : List ℕ → Atom → Bool
equals text a = stands (is_case_exact group_leaf) Eq a (literal.Text text)

-- the value of `groups` for a group has the text of its id
made_text : (base id text : List ℕ) (name : Option (List ℕ)) → own_passes (at_group (equals text)) Groups (membership_of base id name) ≡ true → is_text_of text id ≡ true
made_text base id text None e = sym (or-false _) ∙ e
made_text base id text (Some name) e = sym (or-false _) ∙ e

-- two of three tests the other way round
pub swapped : (a b c : Bool) → (b || (a || c)) ≡ true → (a || (b || c)) ≡ true
swapped true b c e = refl
swapped false b c e = e

module _ {X : Type 0} (cmp : X → X → Ordering) (p : X → Bool) where
  placed_any : (x : X) (ys : List X) → list_any p (placed cmp x ys) ≡ true → (p x || list_any p ys) ≡ true
  placed_any x [] e = e
  placed_any x (y ∷ ys) e = elim (cases_Bool (is_gt (cmp x y))) [
    | inl t ↦ swapped (p x) (p y) (list_any p ys) (either (p y) (list_any p (placed cmp x ys)) (p y) (p x || list_any p ys) (λ h. h) (placed_any x ys) (rw t at e))
    | inr n ↦ (rw n at e)
  ]

  sorted_any : (xs : List X) → list_any p (sorted_by cmp xs) ≡ true → list_any p xs ≡ true
  sorted_any [] e = e
  sorted_any (x ∷ xs) e = either (p x) (list_any p (sorted_by cmp xs)) (p x) (list_any p xs) (λ h. h) (sorted_any xs) (placed_any x (sorted_by cmp xs) e)

-- what is seen of groups has their ids
seen_any : (q : List ℕ → Bool) (v : Viewer) (gs : List Content) → list_any (λ (g : Content). q g.id) (seen v gs) ≡ true → list_any (λ (g : Content). q g.id) gs ≡ true
unfolding visible visible_by
seen_any q v [] e = e
seen_any q v (g ∷ gs) e = elim (cases_Bool (sees v g)) [
  | inl t ↦ either (q g.id) (list_any (λ (h : Content). q h.id) (seen v gs)) (q g.id) (list_any (λ (h : Content). q h.id) gs) (λ h. h) (seen_any q v gs) (rw t at e)
  | inr n ↦ or_right (q g.id) (list_any (λ (h : Content). q h.id) gs) (seen_any q v gs (rw n at e))
]

-- a text that is seen at `groups.value` of a user is that of the id of one of the groups
pub seen_group : (text : List ℕ) (v : Viewer) (gs : List Content) (c : Content) → c.kind ≡ User → IsResource c
    → needed.has_text group_leaf text (rows (with_groups v gs c)) ≡ true → list_any (λ (g : Content). is_text_of text g.id) gs ≡ true
seen_group text v gs c user sound has =
    let p : Field → Bool = at_group (equals text) in
    let passes : Row → Bool = own_passes p Groups in
    let is : Content → Bool = λ g. is_text_of text g.id in
    let listed : List Content = sorted_by id_cmp (filter (lists c.id) (seen v gs)) in
    let ms : List Row = map (membership v.base) listed in
    let left : list_any passes (put_values (whole Groups) ms (rows c)) ≡ true
    = left_stands (may_be_seen (read_in v c) c.kind) p (put_values (whole Groups) ms (rows c)) (ap (some_cell p Groups) (sym (seen_rows v gs c user sound.part)) ∙ has) in
    let made : list_any passes ms ≡ true = among_made c.kind (equals text) ms (rows c) sound.may_be_kept left in
    let each : list_any is listed ≡ true
    = any_weaker (λ (g : Content). passes (membership v.base g)) is listed (λ k d lt. made_text v.base _ text _) (sym (any_mapped passes (membership v.base) listed) ∙ made) in
    seen_any (is_text_of text) v gs (any_kept is (lists c.id) (seen v gs) (sorted_any id_cmp is (filter (lists c.id) (seen v gs)) each))
