-- A client's view of resources, by an index of the groups that it sees.
use Rattle.std.proofs.Common.{◌≡◌, refl, sym, ◌∙◌, ap, ℕ, true, false, List, [], ◌∷◌, ◌++◌, map, filter}
use Rattle.std.specs.Prelude.{Option, None, Some}
use Rattle.std.proofs.lemmas.List.{append-nil}
use Rattle.std.proofs.lemmas.Simd.{map-map}
use Rattle.std.proofs.Math.Path.{fun_ext}
use denote.Ref.{Bor}
use Rattle.scim_schema.specs.declared.Leaf.{Leaf}
use Rattle.scim_schema.specs.declared.Attribute.TheVariants.{Id}
use Rattle.scim_schema.specs.Units.{simple}
use Rattle.scim_cell.specs.Content.{Content}
use Rattle.scim_cell.specs.Ids.{IsId}
use Rattle.scim_cell.specs.Rows.{Row}
use Rattle.scim_policy.specs.Patterns.{PatternRule, decide_in, decisions_of, whole_decision}
use Rattle.scim_view.specs.declared.computed_groups.SeenGroup.{SeenGroup}
use Rattle.scim_view.specs.declared.group_index.GroupIndex.{GroupIndex}
use Rattle.scim_view.specs.View.{Viewer, decision_in, read_rules, sees, view, visible_by}
use Rattle.scim_value.specs.Members.{lists}
use Rattle.scim_view.specs.Groups.{and_those, seen, membership_of, membership_at, memberships, rows_with, visible_with, with_groups, view_with_groups, views}
use Rattle.scim_view.specs.code.Index.{groups_of, Indexes}
use Rattle.scim_view.specs.code.Memberships.{kept_cmp}
use Rattle.scim_view.specs.Sorted.{sorted_by}
use Rattle.scim_view.proofs.GroupLemmas.{map_kept_sorted}
use Rattle.scim_view.proofs.IndexLemmas.{seen_more, and_those_append}
use Rattle.scim_view.proofs.ViewLemmas.{same_sees, same_visible}

-- what is shown of a group that is kept
abbrev pub shown_of : List ℕ → SeenGroup → Row
shown_of base s = membership_of base s.id s.display

-- the groups that an index gives for an id, in order, as values of `groups`
pub memberships_given : (gs : List Content) (index : GroupIndex) (id : List ℕ) (base : List ℕ) (items : List (Bor SeenGroup)) → Indexes gs index → IsId id
    → map (λ g. g.now) items ≡ sorted_by kept_cmp (groups_of index id) → map (membership_at base) items ≡ memberships base gs id
memberships_given gs index id base items indexes valid given =
    sym (map-map (shown_of base) (λ (g : Bor SeenGroup). g.now) items)
    ∙ ap (map (shown_of base)) (given ∙ ap (sorted_by kept_cmp) (indexes id valid))
    ∙ map_kept_sorted base (filter (lists id) gs)

-- the groups that a client sees, with one more that it sees, and one that it doesn't
pub seen_one : (rules : Leaf → List PatternRule) (v : Viewer) (gs : List Content) (g : Content) → ((l : Leaf) → rules l ≡ read_rules v g l)
    → (whole_decision (decisions_of (rules (simple Id)))).allow ≡ true → seen v (gs ++ g ∷ []) ≡ seen v gs ++ visible_by (decision_in rules) g ∷ []
seen_one rules v gs g same allowed =
    let is : view v g ≡ Some (visible_by (decision_in rules) g) = rw (sym (same_sees rules v g same) ∙ allowed) (ap (λ (w : Content). Some w) (sym (same_visible rules v g same))) in
    seen_more v gs g ∙ ap (λ (o : Option Content). seen v gs ++ and_those o []) is

pub seen_none : (rules : Leaf → List PatternRule) (v : Viewer) (gs : List Content) (g : Content) → ((l : Leaf) → rules l ≡ read_rules v g l)
    → (whole_decision (decisions_of (rules (simple Id)))).allow ≡ false → seen v (gs ++ g ∷ []) ≡ seen v gs
seen_none rules v gs g same denied =
    let is : view v g ≡ None = rw (sym (same_sees rules v g same) ∙ denied) refl in
    seen_more v gs g ∙ ap (λ (o : Option Content). seen v gs ++ and_those o []) is ∙ append-nil (seen v gs)

-- the views of resources, with one more
pub views_more : (v : Viewer) (groups cs : List Content) (c : Content)
    → views v groups (cs ++ c ∷ []) ≡ views v groups cs ++ and_those (view_with_groups v groups c) []
views_more v groups [] c = refl
views_more v groups (b ∷ cs) c =
    ap (and_those (view_with_groups v groups b)) (views_more v groups cs c)
    ∙ and_those_append (view_with_groups v groups b) (views v groups cs) (and_those (view_with_groups v groups c) [])

-- rules that are those of the policy give the client's view with groups
pub unseen_with : (rules : Leaf → List PatternRule) (v : Viewer) (groups : List Content) (c : Content) → ((l : Leaf) → rules l ≡ read_rules v c l)
    → (whole_decision (decisions_of (rules (simple Id)))).allow ≡ false → None ≡ view_with_groups v groups c
unseen_with rules v groups c same denied = rw (sym (same_sees rules v c same) ∙ denied) refl

pub seen_with : (rules : Leaf → List PatternRule) (v : Viewer) (groups : List Content) (c : Content) (ms : List Row) → ((l : Leaf) → rules l ≡ read_rules v c l)
    → (whole_decision (decisions_of (rules (simple Id)))).allow ≡ true → rows_with ms c ≡ rows_with (memberships v.base (seen v groups) c.id) c → Some (visible_with (decision_in rules) ms c) ≡ view_with_groups v groups c
unfolding visible_with with_groups decide_in
seen_with rules v groups c ms same allowed beside =
    let yes : sees v c ≡ true = sym (same_sees rules v c same) ∙ allowed in
    rw (yes, beside) (ap (λ (rs : Leaf → List PatternRule). Some (visible_with (decision_in rs) (memberships v.base (seen v groups) c.id) c)) (fun_ext same))
