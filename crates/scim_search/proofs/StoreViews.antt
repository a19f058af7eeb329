-- What of a store a service looks at: the groups that list a user, and what a client sees in order of id.
use Rattle.std.proofs.Common.{◌≡◌, refl, sym, ◌∙◌, ap, ap₂, subst, ℕ, zero, suc, ◌+◌, false, List, [], ◌∷◌, map, filter, inl, inr, arith, is_lt}
use Rattle.std.specs.Prelude.{All}
use Rattle.std.specs.List.{AllByRecursion}
use Rattle.std.specs.List.Sorted.{IsStrictlySortedBy, IsSorted}
use Rattle.std.specs.Ordering.{nat_cmp, ordering_reverse}
use Rattle.std.specs.Cmp.Lexicographic.{slice_cmp}
use Rattle.std.specs.declared.cmp.Ordering.TheVariants.{Less}
use Rattle.std.specs.List.{slice_index_or}
use Rattle.std.proofs.lemmas.Bool.{cases_Bool}
use Rattle.std.proofs.lemmas.Cmp.{nat_list_cmp_total}
use Rattle.std.proofs.lemmas.List.Elements.{All-head, All-tail, All-weaker}
use Rattle.scim_schema.specs.declared.Kind.TheVariants.{Group}
use Rattle.scim_cell.specs.Content.{Content, IsPart}
use Rattle.scim_cell.specs.Ids.{id_text}
use Rattle.scim_cell.specs.Kinds.{of_kind}
use Rattle.scim_cell.specs.Order.{id_cmp}
use Rattle.scim_value.specs.Resource.{IsResource, HasBase}
use Rattle.scim_view.specs.View.{Viewer, sees, visible_attributes}
use Rattle.scim_view.specs.Groups.{and_those, with_groups, visible_with, view_with_groups, views}
use Rattle.scim_view.proofs.Facts.{narrowed_groups}
use Rattle.scim_shelf.specs.Stores.{Store, IsStore, is_group_with}
use Rattle.scim_search.specs.declared.view_builders.ViewScope.{ViewScope}
use Rattle.scim_search.specs.declared.view_builders.ViewScope.TheVariants.{Named, Whole}
use Rattle.scim_search.specs.ViewBuilders.{made, made_of_all}

-- the resources of a store are parts
pub parts_of : (base : List ℕ) (store : Store) → IsStore base store → All IsPart store.resources
parts_of base store is = All-weaker (λ c. IsResource c × HasBase base c) IsPart (λ c sound. sound.0.part) store.resources is.sound

-- a user's groups are told by those that list it
pub suffice : (v : Viewer) (base : List ℕ) (store : Store) (c : Content) → IsStore base store
    → with_groups v (filter (is_group_with (id_text c.id)) store.resources) c ≡ with_groups v (of_kind Group store.resources) c
suffice v base store c is = narrowed_groups v store.resources c (parts_of base store is)

-- a group has none, whatever groups there are
pub none_of_group : (v : Viewer) (gs hs : List Content) (c : Content) → c.kind ≡ Group → with_groups v gs c ≡ with_groups v hs c
unfolding with_groups visible_with
none_of_group v gs hs c is = rw is refl

-- what is made of a resource has its id
pub made_id : (v : Viewer) (groups : List Content) (scope : ViewScope) (c : Content) → (made v groups scope c).id ≡ c.id
unfolding with_groups visible_with visible_attributes
made_id v groups (Named attributes) c = refl
made_id v groups (Whole index) c = refl

-- what is made of all that is seen
module _ (make : Content → Content) (v : Viewer) where
  pub made_map : (cs : List Content) → made_of_all make v cs ≡ map make (filter (sees v) cs)
  made_map [] = refl
  made_map (c ∷ cs) = elim (cases_Bool (sees v c)) [
    | inl yes' ↦ rw yes' (ap (λ ds. make c ∷ ds) (made_map cs))
    | inr no' ↦ rw no' (made_map cs)
  ]

  -- what keeps ids keeps their order
  module _ (keeps : (c : Content) → (make c).id ≡ c.id) where
    made_above : (id : List ℕ) (cs : List Content) → AllByRecursion (λ d. slice_cmp nat_cmp id d.id ≡ Less) cs
        → AllByRecursion (λ d. slice_cmp nat_cmp id d.id ≡ Less) (made_of_all make v cs)
    made_above id [] up = up
    made_above id (c ∷ cs) up =
        let rest = made_above id cs up.1 in
        elim (cases_Bool (sees v c)) [
          | inl t ↦ rw t (subst (λ (i : List ℕ). slice_cmp nat_cmp id i ≡ Less) (sym (keeps c)) up.0, rest)
          | inr f ↦ rw f rest
        ]

    pub made_ascends : (cs : List Content) → IsStrictlySortedBy id_cmp cs → IsStrictlySortedBy id_cmp (made_of_all make v cs)
    unfolding IsStrictlySortedBy
    made_ascends [] up = up
    made_ascends (c ∷ cs) up =
        let rest = made_ascends cs up.1 in
        elim (cases_Bool (sees v c)) [
          | inl t ↦ rw t (subst (λ (i : List ℕ). AllByRecursion (λ (d : Content). slice_cmp nat_cmp i d.id ≡ Less) (made_of_all make v cs)) (sym (keeps c)) (made_above c.id cs up.0), rest)
          | inr f ↦ rw f rest
        ]

-- a client's view of resources is what is made of them whole
pub made_views : (v : Viewer) (groups cs : List Content) → made_of_all (with_groups v groups) v cs ≡ views v groups cs
made_views v groups [] = refl
made_views v groups (c ∷ cs) = ap (and_those (view_with_groups v groups c)) (made_views v groups cs)

-- resources with the same groups by two lists of groups are viewed alike by both
pub views_alike : (v : Viewer) (gs hs cs : List Content) → All (λ c. with_groups v gs c ≡ with_groups v hs c) cs → views v gs cs ≡ views v hs cs
views_alike v gs hs [] same = refl
views_alike v gs hs (c ∷ cs) same =
    let Same : Content → Type 0 = λ d. with_groups v gs d ≡ with_groups v hs d in
    let rest = views_alike v gs hs cs (All-tail Same c cs same) in
    elim (cases_Bool (sees v c)) [
      | inl t ↦ rw t (ap₂ ◌∷◌ (All-head Same c cs same) rest)
      | inr f ↦ rw f rest
    ]

-- an id that is below another isn't above it
not_above : (a b : List ℕ) → slice_cmp nat_cmp a b ≡ Less → is_lt (slice_cmp nat_cmp b a) ≡ false
not_above a b less = ap is_lt (nat_list_cmp_total.antisymm b a ∙ ap ordering_reverse less)

-- ids that ascend strictly ascend
pub strict_sorted : (cs : List Content) → IsStrictlySortedBy id_cmp cs → IsSorted id_cmp cs
unfolding IsStrictlySortedBy
strict_sorted [] up k d low high = absurd (omega arith)
strict_sorted (c ∷ []) up k d low high = absurd (omega arith)
strict_sorted (c ∷ e ∷ cs) up zero d low high = not_above c.id e.id up.0.0
strict_sorted (c ∷ e ∷ cs) up (suc k) d low high =
    let more : suc k + 1 ≡ suc (k + 1) = omega arith in
    subst (λ (n : ℕ). is_lt (id_cmp (slice_index_or (c ∷ e ∷ cs) n d) (slice_index_or (e ∷ cs) k d)) ≡ false) (sym more) (strict_sorted (e ∷ cs) up.1 k d (omega arith) (omega arith))
