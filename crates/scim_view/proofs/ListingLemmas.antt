-- The groups of one resource, gathered one by one.
use Rattle.std.proofs.Common.{◌≡◌, refl, sym, ◌∙◌, ap, ℕ, Bool, true, false, ◌&&◌, List, [], ◌∷◌, ◌++◌, map, filter, inl, inr}
use Rattle.std.specs.Prelude.{Option, if◌then◌else◌}
use Rattle.std.proofs.lemmas.Bool.{cases_Bool}
use Rattle.std.proofs.lemmas.List.{map-append, append-nil}
use Rattle.std.proofs.lemmas.List.Elements.{filter-append}
use Rattle.std.proofs.Math.Bool.{and-false}
use Rattle.std.proofs.Math.Path.{fun_ext}
use denote.Enum.Bare.{sameb}
use Rattle.scim_schema.specs.contracts.Kind.{the_type as the_kind}
use Rattle.scim_schema.specs.declared.Kind.TheVariants.{User}
use Rattle.scim_schema.specs.declared.Leaf.{Leaf}
use Rattle.scim_schema.specs.declared.Attribute.TheVariants.{Id}
use Rattle.scim_schema.specs.Units.{simple}
use Rattle.scim_cell.specs.Content.{Content, IsPart}
use Rattle.scim_cell.specs.Rows.{Row}
use Rattle.scim_value.specs.Members.{lists}
use Rattle.scim_policy.specs.Patterns.{PatternRule, decide_in, decisions_of, whole_decision}
use Rattle.scim_view.specs.declared.computed_groups.SeenGroup.{SeenGroup}
use Rattle.scim_view.specs.View.{Viewer, read_in, read_rules, decision_in, visible_by, view_by, view}
use Rattle.scim_view.specs.Groups.{and_those, seen, membership_of, memberships, visible_with, with_groups}
use Rattle.scim_view.specs.code.Memberships.{kept_of, lists_shown, tells_of, telling, kept_cmp}
use Rattle.scim_view.specs.Sorted.{sorted_by}
use Rattle.scim_view.proofs.GroupLemmas.{lists_visible, other_visible, map_kept_sorted}
use Rattle.scim_view.proofs.MemberLemmas.{unlisted_shown}
use Rattle.scim_view.proofs.IndexLemmas.{seen_more}
use Rattle.scim_view.proofs.ViewLemmas.{same_view}

-- what is kept of those of some groups that list an id
abbrev listed : List ℕ → List Content → List SeenGroup
listed id gs = map kept_of (filter (lists id) gs)

-- the same of the groups that a viewer sees
abbrev pub listing : Viewer → List ℕ → List Content → List SeenGroup
listing v id gs = listed id (seen v gs)

-- a group is kept where it is seen, and a member with the id in it
kept_told : (rules : Leaf → List PatternRule) (id : List ℕ) (g : Content) → IsPart g
    → listed id (and_those (view_by rules g) []) ≡ (if tells_of rules id g then kept_of (visible_by (decision_in rules) g) ∷ [] else [])
unfolding view_by
kept_told rules id g valid =
    elim (cases_Bool (whole_decision (decisions_of (rules (simple Id)))).allow) [
      | inl seen ↦ elim (cases_Bool (lists_shown (decision_in rules) id g)) [
        | inl shown ↦
            let is : lists id (visible_by (decision_in rules) g) ≡ true = lists_visible (decision_in rules) id g valid ∙ shown in
            rw (seen, shown, is) refl
        | inr hidden ↦
            let none : lists id (visible_by (decision_in rules) g) ≡ false = lists_visible (decision_in rules) id g valid ∙ hidden in
            rw (seen, hidden, none) refl
      ]
      | inr unseen ↦ rw unseen refl
    ]

-- the groups that are seen to list an id, with one more
pub listing_more : (rules : Leaf → List PatternRule) (v : Viewer) (id : List ℕ) (gs : List Content) (g : Content) → IsPart g → ((l : Leaf) → rules l ≡ read_rules v g l)
    → listing v id (gs ++ g ∷ []) ≡ listing v id gs ++ (if tells_of rules id g then kept_of (visible_by (decision_in rules) g) ∷ [] else [])
listing_more rules v id gs g valid same =
    ap (listed id) (seen_more v gs g)
    ∙ ap (map kept_of) (filter-append (lists id) (seen v gs) (and_those (view v g) []))
    ∙ map-append kept_of (filter (lists id) (seen v gs)) (filter (lists id) (and_those (view v g) []))
    ∙ ap (λ (o : Option Content). listing v id gs ++ listed id (and_those o [])) (sym (same_view rules v g same))
    ∙ ap (λ (ks : List SeenGroup). listing v id gs ++ ks) (kept_told rules id g valid)

-- with one that is told of, and one that isn't
pub more_told : (rules : Leaf → List PatternRule) (v : Viewer) (id : List ℕ) (gs : List Content) (g : Content) → IsPart g → ((l : Leaf) → rules l ≡ read_rules v g l) → tells_of rules id g ≡ true
    → listing v id (gs ++ g ∷ []) ≡ listing v id gs ++ kept_of (visible_by (decision_in rules) g) ∷ []
more_told rules v id gs g valid same told =
    listing_more rules v id gs g valid same ∙ ap (λ (b : Bool). listing v id gs ++ (if b then kept_of (visible_by (decision_in rules) g) ∷ [] else [])) told

pub more_untold : (rules : Leaf → List PatternRule) (v : Viewer) (id : List ℕ) (gs : List Content) (g : Content) → IsPart g → ((l : Leaf) → rules l ≡ read_rules v g l) → tells_of rules id g ≡ false
    → listing v id (gs ++ g ∷ []) ≡ listing v id gs
more_untold rules v id gs g valid same none =
    listing_more rules v id gs g valid same
    ∙ ap (λ (b : Bool). listing v id gs ++ (if b then kept_of (visible_by (decision_in rules) g) ∷ [] else [])) none
    ∙ append-nil (listing v id gs)

-- and with one that doesn't list it
pub more_unlisted : (v : Viewer) (id : List ℕ) (gs : List Content) (g : Content) → IsPart g → lists id g ≡ false → listing v id (gs ++ g ∷ []) ≡ listing v id gs
more_unlisted v id gs g valid none =
    let rules = read_rules v g in
    let untold : tells_of rules id g ≡ false = ap (λ (b : Bool). (whole_decision (decisions_of (rules (simple Id)))).allow && b) (unlisted_shown (decision_in rules) id g none) ∙ and-false _ in
    more_untold rules v id gs g valid (λ l. refl) untold

-- what is visible with the groups that are seen to list a resource, by rules that are those of the policy
pub told : (rules : Leaf → List PatternRule) (v : Viewer) (gs : List Content) (c : Content) (kept : List SeenGroup) → ((l : Leaf) → rules l ≡ read_rules v c l) → kept ≡ listing v c.id gs
    → visible_with (decision_in rules) (map (λ (g : SeenGroup). membership_of v.base g.id g.display) (sorted_by kept_cmp kept)) c ≡ with_groups v gs c
unfolding with_groups decide_in
told rules v gs c kept same is =
    ap (λ (ks : List SeenGroup). visible_with (decision_in rules) (map (λ (g : SeenGroup). membership_of v.base g.id g.display) (sorted_by kept_cmp ks)) c) is
    ∙ ap (λ (ms : List Row). visible_with (decision_in rules) ms c) (map_kept_sorted v.base (filter (lists c.id) (seen v gs)))
    ∙ ap (λ (rs : Leaf → List PatternRule). visible_with (decision_in rs) (memberships v.base (seen v gs) c.id) c) (fun_ext same)

-- a resource is told by all groups as by those that tell it
pub told_alike : (v : Viewer) (gs : List Content) (c : Content) → with_groups v (telling c gs) c ≡ with_groups v gs c
unfolding with_groups
told_alike v gs c = elim (cases_Bool (sameb the_kind c.kind User)) [
  | inl t ↦ ap (λ (b : Bool). with_groups v (if b then gs else []) c) t
  | inr n ↦ other_visible (read_in v c) _ c n ∙ sym (other_visible (read_in v c) _ c n)
]
