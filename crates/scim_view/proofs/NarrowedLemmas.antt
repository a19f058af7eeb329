-- The groups that list a user are all that its own groups are told by.
use Rattle.std.proofs.Common.{◌≡◌, refl, sym, ◌∙◌, ap, ℕ, Bool, false, ◌&&◌, List, [], ◌∷◌, map, filter, inl, inr}
use Rattle.std.specs.Prelude.{All, Option, None, Some}
use Rattle.std.proofs.lemmas.Bool.{cases_Bool}
use Rattle.std.proofs.lemmas.List.Elements.{All-head, All-tail}
use Rattle.scim_schema.specs.declared.Kind.TheVariants.{Group}
use Rattle.scim_cell.specs.Content.{Content, IsPart}
use Rattle.scim_cell.specs.Kinds.{is_of, of_kind}
use Rattle.scim_cell.specs.Order.{id_cmp}
use Rattle.scim_value.specs.Members.{lists}
use Rattle.scim_view.specs.View.{Viewer, read_in, sees, visible, view}
use Rattle.scim_view.specs.Groups.{and_those, seen, with_groups, visible_with, view_with_groups, membership}
use Rattle.scim_view.specs.Sorted.{sorted_by}
use Rattle.scim_view.proofs.GroupLemmas.{lists_visible}
use Rattle.scim_view.proofs.MemberLemmas.{unlisted_shown}

-- a test of the elements of a list, with one before it or none
kept_behind : (p : Content → Bool) (o : Option Content) (xs ys : List Content) → filter p xs ≡ filter p ys → filter p (and_those o xs) ≡ filter p (and_those o ys)
kept_behind p None xs ys same = same
kept_behind p (Some x) xs ys same = elim (cases_Bool (p x)) [ inl t ↦ rw t (ap (λ (zs : List Content). x ∷ zs) same) | inr f ↦ rw f same ]

-- a group that doesn't list an id isn't seen to list it
unlisted : (v : Viewer) (id : List ℕ) (g : Content) → IsPart g → lists id g ≡ false → lists id (visible v g) ≡ false
unfolding visible
unlisted v id g valid none = lists_visible (read_in v g) id g valid ∙ unlisted_shown (read_in v g) id g none

dropped_behind : (v : Viewer) (id : List ℕ) (g : Content) (xs : List Content) → IsPart g → lists id g ≡ false → filter (lists id) (and_those (view v g) xs) ≡ filter (lists id) xs
dropped_behind v id g xs valid none = elim (cases_Bool (sees v g)) [ inl t ↦ rw t (rw (unlisted v id g valid none) refl) | inr f ↦ rw f refl ]

-- whether a resource is a group that lists the resource of an id
abbrev pub is_group_listing : List ℕ → Content → Bool
is_group_listing id g = is_of Group g && lists id g

-- those that are seen to list an id are among those that list it
pub listed_suffice : (v : Viewer) (id : List ℕ) (cs : List Content) → All IsPart cs
    → filter (lists id) (seen v (filter (is_group_listing id) cs)) ≡ filter (lists id) (seen v (of_kind Group cs))
listed_suffice v id [] parts = refl
listed_suffice v id (c ∷ cs) parts =
    let ih = listed_suffice v id cs (All-tail IsPart c cs parts) in
    elim (cases_Bool (is_of Group c)) [
      | inl t ↦ elim (cases_Bool (lists id c)) [
        | inl u ↦ rw (t, u) (kept_behind (lists id) (view v c) (seen v (filter (is_group_listing id) cs)) (seen v (of_kind Group cs)) ih)
        | inr u ↦ rw (t, u) (ih ∙ sym (dropped_behind v id c (seen v (of_kind Group cs)) (All-head IsPart c cs parts) u))
      ]
      | inr f ↦ rw f ih
    ]

-- so a user's groups are told by those that list it
pub narrowed_groups : (v : Viewer) (cs : List Content) (c : Content) → All IsPart cs → with_groups v (filter (is_group_listing c.id) cs) c ≡ with_groups v (of_kind Group cs) c
unfolding with_groups
narrowed_groups v cs c parts = ap (λ (gs : List Content). visible_with (read_in v c) (map (membership v.base) (sorted_by id_cmp gs)) c) (listed_suffice v c.id cs parts)

pub narrowed_view : (v : Viewer) (cs : List Content) (c : Content) → All IsPart cs → view_with_groups v (filter (is_group_listing c.id) cs) c ≡ view_with_groups v (of_kind Group cs) c
narrowed_view v cs c parts = elim (cases_Bool (sees v c)) [ inl t ↦ rw t (ap (λ (w : Content). Some w) (narrowed_groups v cs c parts)) | inr f ↦ rw f refl ]
