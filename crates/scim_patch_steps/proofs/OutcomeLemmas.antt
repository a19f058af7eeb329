-- What comes of a patch is a resource.
use Rattle.std.proofs.Common.{◌≡◌, ◌≤◌, ℕ, Bool, true, false, refl, sym, ◌∙◌, ap, subst, inl, inr, List, [], ◌∷◌}
use Rattle.std.specs.Prelude.{All, Result, Ok, Err, if◌then◌else◌}
use Rattle.std.proofs.lemmas.Bool.{cases_Bool}
use Rattle.std.proofs.lemmas.List.Elements.{All-head, All-tail}
use Rattle.scim_text.specs.Moments.{last_moment}
use Rattle.scim_schema.specs.declared.Kind.{Kind}
use Rattle.scim_cell.specs.Content.{Content}
use Rattle.scim_cell.specs.Rows.{Row, rows, content}
use Rattle.scim_value.proofs.Facts.{rows_content}
use Rattle.scim_change.specs.Replace.{modified_at}
use Rattle.scim_change.proofs.Facts.{IsSound}
use Rattle.scim_patch_steps.specs.declared.steps.StepFault.{StepFault}
use Rattle.scim_patch_steps.specs.declared.steps.StepFault.TheVariants as fault
use Rattle.scim_patch_steps.specs.Patch.{Step, Pathless, Of, Patch, IsStep, IsPatch, stepped, all_stepped, changes, finished, if_stepped, is_within_limit, applied}
use Rattle.scim_patch_steps.proofs.ApplyLemmas.{over_limit, within_limit}
use Rattle.scim_patch_steps.proofs.StandLemmas.{stamped_base, stamped_stands}
use Rattle.scim_patch_steps.proofs.StepLemmas.{left_base, left_resource, left_sound}

-- after a fault there are no rows
no_rows : (kind : Kind) (steps : List Step) (e : StepFault) (left : List Row) → all_stepped kind steps (Err e) ≡ Ok left → ⊥
no_rows kind [] e left h = cc
no_rows kind (s ∷ steps) e left h = cc

-- steps leave the rows of a resource below the base
pub steps_sound : (base : List ℕ) (c : Content) → IsSound base c → (steps : List Step) → All (IsStep c.kind) steps
    → (left : List Row) → all_stepped c.kind steps (Ok (rows c)) ≡ Ok left → (d : Content) × IsSound base d × (d.kind ≡ c.kind) × (d.id ≡ c.id) × (rows d ≡ left)
steps_sound base c sound [] may left h = (c, sound, refl, refl, cc)
steps_sound base c sound (Pathless ∷ steps) may left h = absurd (no_rows c.kind steps fault.NoTarget left h)
steps_sound base c sound (Of u change ∷ steps) may left h = go (λ d is all more. steps_sound base d is steps all left more) (stepped c.kind (Of u change) (rows c)) refl
  where
    go : ((d : Content) → IsSound base d → All (IsStep d.kind) steps → all_stepped d.kind steps (Ok (rows d)) ≡ Ok left → (e : Content) × IsSound base e × (e.kind ≡ d.kind) × (e.id ≡ d.id) × (rows e ≡ left))
        → (one : Result (List Row) StepFault) → stepped c.kind (Of u change) (rows c) ≡ one → (d : Content) × IsSound base d × (d.kind ≡ c.kind) × (d.id ≡ c.id) × (rows d ≡ left)
    go again (Err e) same = absurd (no_rows c.kind steps e left (ap (all_stepped c.kind steps) (sym same) ∙ h))
    go again (Ok rs) same =
        let first = All-head (IsStep c.kind) (Of u change) steps may in
        let next : Content = content c.kind c.id rs in
        let back : rows next ≡ rs = rows_content c.kind c.id rs (left_sound c sound.0 u first.0 change first.1 rs (sym same)) in
        let rest : all_stepped c.kind steps (Ok (rows next)) ≡ Ok left = ap (λ ss. all_stepped c.kind steps (Ok ss)) back ∙ ap (all_stepped c.kind steps) (sym same) ∙ h in
        again next (left_resource c sound.0 u first.0 change first.1 rs (sym same), left_base c sound.0 u first.0 change first.1 rs (sym same) base sound.1)
        (All-tail (IsStep c.kind) (Of u change) steps may) rest

-- what is made, or this resource where nothing is
abbrev made_of : Content → Result (Content × Bool) StepFault → Content
made_of c (Ok pair) = pair.0
made_of c (Err fault) = c

-- so what a patch makes of a resource is one
pub applied_sound : (p : Patch) → IsPatch p → (moment : ℕ) → moment ≤ last_moment → (base : List ℕ) (c : Content) → c.kind ≡ p.kind → IsSound base c
    → (x : Content) (changed : Bool) → applied p moment c ≡ Ok (x, changed) → IsSound base x
applied_sound p is moment there base c kinds sound x changed e = elim (cases_Bool (is_within_limit p (rows c))) [
  | inl few ↦ by_steps (all_stepped p.kind p.steps (Ok (rows c))) refl (sym (within_limit p moment c few) ∙ e)
  | inr over ↦ absurd (let refused = sym (over_limit p moment c over) ∙ e in cc)
]
  where
    by_changes : (b : Bool) (rs : List Row) → IsSound base (content c.kind c.id (modified_at moment rs)) → IsSound base (if b then content c.kind c.id (modified_at moment rs) else c)
    by_changes true rs is = is
    by_changes false rs is = sound

    by_steps : (r : Result (List Row) StepFault) → all_stepped p.kind p.steps (Ok (rows c)) ≡ r → if_stepped p moment c r ≡ Ok (x, changed) → IsSound base x
    by_steps (Err fault) h f = absurd (cc f)
    by_steps (Ok rs) h f =
        let steps : all_stepped c.kind p.steps (Ok (rows c)) ≡ Ok rs = ap (λ k. all_stepped k p.steps (Ok (rows c))) kinds ∙ h in
        let out = steps_sound base c sound p.steps (subst (λ k. All (IsStep k) p.steps) (sym kinds) is) rs steps in
        let d = out.0 in
        let moved : content d.kind d.id (modified_at moment (rows d)) ≡ content c.kind c.id (modified_at moment rs) = λ i. content (out.2 i) (out.3 i) (modified_at moment (out.4 i)) in
        let stamped : IsSound base (content c.kind c.id (modified_at moment rs))
        = subst (IsSound base) moved (stamped_stands d out.1.0 moment there, stamped_base d out.1.0 moment there base out.1.1) in
        let own : finished p moment c rs ≡ x = ap (made_of c) f in
        subst (IsSound base) own (by_changes (changes p (rows c) rs) rs stamped)
