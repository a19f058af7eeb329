-- All steps of a patch, one after another.
use Rattle.std.proofs.Common.{◌≡◌, ◌≢◌, ◌<◌, ℕ, zero, suc, refl, sym, ◌∙◌, ap, subst, Bool, true, false, arith, inl, inr, List, [], ◌∷◌, length, drop, get_or}
use Rattle.std.specs.Prelude.{All, not, ◌||◌, map, Result, Ok, Err, if◌then◌else◌}
use Rattle.std.specs.List.{list_any, flat_map}
use Rattle.std.specs.Cmp.Lexicographic.{pointwise_decides}
use Rattle.std.proofs.lemmas.Bool.{cases_Bool, or_parts}
use Rattle.std.proofs.lemmas.List.Elements.{All-head, All-tail, All-weaker}
use Rattle.std.proofs.Math.Seq.{drop-cons}
use Rattle.scim_text.specs.Failures.{IfBecause}
use Rattle.scim_text.specs.declared.memory.Failed.{Failed}
use Rattle.scim_text.specs.declared.memory.Failed.TheVariants.{Because, NoMemory}
use Rattle.scim_schema.specs.declared.Kind.{Kind}
use Rattle.scim_schema.specs.declared.Unit.{Unit as AttributeUnit}
use Rattle.scim_schema.specs.Units.{is_same_unit}
use Rattle.scim_schema.proofs.Facts.{is_same_unit-Decides}
use Rattle.scim_cell.specs.Content.{Content}
use Rattle.scim_cell.specs.Equality.{is_same_row-Decides}
use Rattle.scim_cell.specs.Rows.{Row, rows, content, values, IsValue}
use Rattle.scim_value.specs.Resource.{IsResource}
use Rattle.scim_value.proofs.Facts.{rows_content}
use Rattle.scim_change.specs.Agreement.{are_same_values}
use Rattle.scim_change.specs.Replace.{modified_at}
use Rattle.scim_change.proofs.Facts.{values_stay, within}
use Rattle.scim_patch_steps.specs.declared.steps.StepFault.{StepFault}
use Rattle.scim_patch_steps.specs.declared.steps.StepFault.TheVariants as fault
use Rattle.scim_patch_steps.specs.declared.patches.Step.{Step as KeptStep}
use Rattle.scim_patch_steps.specs.Patch.{Step, Pathless, Of, Patch, IsStep, IsPatch, units_in, touched, stepped, all_stepped, is_unseen_writing, changes, if_stepped, is_within_limit, applied}
use Rattle.scim_patch_steps.specs.Kept.{step_of}
use Rattle.scim_patch_steps.specs.code.Touched.{is_about, is_other, rows_about}
use Rattle.scim_patch_steps.proofs.StandLemmas.{same_content}
use Rattle.scim_patch_steps.proofs.StepLemmas.{found, stands, left_sound, left_resource}
use Rattle.scim_patch_steps.proofs.WorkLemmas.{first_is_about, later_is_about}

-- ---- one step among them

-- each step may be made
pub step_at : (kind : Kind) (steps : List KeptStep) (k : ℕ) (d : KeptStep) → All (IsStep kind) (map step_of steps) → k < length steps → IsStep kind (step_of (get_or steps k d))
step_at kind [] k d h l = absurd (omega (arith, l))
step_at kind (s ∷ steps) zero d h l = All-head (IsStep kind) (step_of s) (map step_of steps) h
step_at kind (s ∷ steps) (suc k) d h l = step_at kind steps k d (All-tail (IsStep kind) (step_of s) (map step_of steps) h) (omega (arith, l))

-- a fault stays
pub fault_stays : (kind : Kind) (steps : List Step) (e : StepFault) → all_stepped kind steps (Err e) ≡ Err e
fault_stays kind [] e = refl
fault_stays kind (s ∷ steps) e = refl

-- the fault of a step is that of all that are left
pub fault_of_all : (kind : Kind) (steps : List KeptStep) (k : ℕ) (d : KeptStep) (rs : List Row) (total : Result (List Row) StepFault) → k < length steps
    → all_stepped kind (map step_of (drop k steps)) (Ok rs) ≡ total → (f : Failed StepFault) → IfBecause (λ e. Err e ≡ stepped kind (step_of (get_or steps k d)) rs) f → IfBecause (λ e. Err e ≡ total) f
fault_of_all kind steps k d rs total l so_far NoMemory h = tt
fault_of_all kind steps k d rs total l so_far (Because e) h =
    let next = drop-cons steps k d l in
    let rest = map step_of (drop (suc k) steps) in
    sym (fault_stays kind rest e) ∙ ap (all_stepped kind rest) h
    ∙ ap (λ ss. all_stepped kind (map step_of ss) (Ok rs)) (sym next) ∙ so_far

-- ---- units that no step is about

-- their values stay
pub untouched_stay : (c : Content) → IsResource c → (steps : List Step) → All (IsStep c.kind) steps → (left : List Row) → all_stepped c.kind steps (Ok (rows c)) ≡ Ok left
    → (v : AttributeUnit) → is_about (flat_map units_in steps) v ≡ false → values v left ≡ values v (rows c)
untouched_stay c own [] may left h v none = (let same : rows c ≡ left = cc in ap (values v) (sym same))
untouched_stay c own (Pathless ∷ steps) may left h v none = absurd (let e = fault_stays c.kind steps fault.NoTarget in cc)
untouched_stay c own (Of u change ∷ steps) may left h v none = go (λ d is all more. untouched_stay d is steps all left more v) (stepped c.kind (Of u change) (rows c)) refl
  where
    go : ((d : Content) → IsResource d → All (IsStep d.kind) steps → all_stepped d.kind steps (Ok (rows d)) ≡ Ok left → is_about (flat_map units_in steps) v ≡ false → values v left ≡ values v (rows d))
        → (one : Result (List Row) StepFault) → stepped c.kind (Of u change) (rows c) ≡ one → values v left ≡ values v (rows c)
    go again_stay (Err e) same = absurd (let f = sym h ∙ ap (all_stepped c.kind steps) same ∙ fault_stays c.kind steps e in cc)
    go again_stay (Ok rs) same =
        let first = All-head (IsStep c.kind) (Of u change) steps may in
        let is = left_sound c own u first.0 change first.1 rs (sym same) in
        let next = content c.kind c.id rs in
        let again : rows next ≡ rs = rows_content c.kind c.id rs is in
        let rest : all_stepped c.kind steps (Ok (rows next)) ≡ Ok left = ap (λ ss. all_stepped c.kind steps (Ok ss)) again ∙ ap (all_stepped c.kind steps) (sym same) ∙ h in
        let apart = or_parts (is_same_unit v u) (is_about (flat_map units_in steps) v) none in
        let other : u ≢ v = λ e. (let t : is_same_unit v u ≡ true = (is_same_unit-Decides v u).1 (sym e) in let n = apart.0 in cc) in
        let out = found c own u first.0 change first.1 rs (sym same) in
        let stand = stands c own u first.0 change first.1 rs (sym same) in
        again_stay next (left_resource c own u first.0 change first.1 rs (sym same)) (All-tail (IsStep c.kind) (Of u change) steps may) rest apart.1
        ∙ ap (values v) again ∙ ap (values v) out.2
        ∙ values_stay u out.0 (rows c) (All-weaker (IsValue c.kind u) (λ (r : Row). r.unit ≡ u) (λ r o. o.0) out.0 stand.own.own) v other

-- ---- what is changed

-- the rows of the units that steps are about have all values of each of them
kept_about : (us : List AttributeUnit) (rs : List Row) (v : AttributeUnit) → is_about us v ≡ true → values v (rows_about us rs) ≡ values v rs
kept_about us rs v t = within v (λ (r : Row). is_about us r.unit) rs (λ r e. ap (is_about us) e ∙ t)

others_same : (us all : List AttributeUnit) (before rs : List Row) → ((v : AttributeUnit) → is_about us v ≡ true → is_about all v ≡ true)
    → list_any (is_other (rows_about all before) rs) us ≡ list_any (is_other before rs) us
others_same [] all before rs h = refl
others_same (u ∷ us) all before rs h =
    let first = ap (λ vs. not (are_same_values vs (values u rs))) (kept_about all before u (h u (first_is_about u us))) in
    let rest = others_same us all before rs (λ v t. h v (later_is_about u v us t)) in
    λ i. first i || rest i

-- so they tell as much as all rows
pub changes_same : (p : Patch) (before rs : List Row) → changes p (rows_about (touched p) before) rs ≡ changes p before rs
changes_same p before rs = ap (λ b. list_any (is_unseen_writing p.kind) p.steps || b) (others_same (touched p) (touched p) before rs (λ v t. t))

not_other : (b : Bool) → not b ≡ false → b ≡ true
not_other true h = refl
not_other false h = absurd (cc h)

-- a unit that is no other has the same values
none_other : (us : List AttributeUnit) (before rs : List Row) → list_any (is_other before rs) us ≡ false → (v : AttributeUnit) → is_about us v ≡ true → values v before ≡ values v rs
none_other [] before rs h v t = absurd (cc t)
none_other (u ∷ us) before rs h v t =
    let parts = or_parts (is_other before rs u) (list_any (is_other before rs) us) h in
    elim (cases_Bool (is_same_unit v u)) [
      | inl s ↦
          let same = (pointwise_decides is_same_row-Decides (values u before) (values u rs)).0 (not_other (are_same_values (values u before) (values u rs)) parts.0) in
          subst (λ w. values w before ≡ values w rs) (sym ((is_same_unit-Decides v u).0 s)) same
      | inr n ↦ none_other us before rs parts.1 v (rw n at t)
    ]

-- where nothing is changed, the resource is as it was
pub as_it_was : (p : Patch) (c d : Content) → IsResource c → IsResource d → p.kind ≡ c.kind → IsPatch p → d.kind ≡ c.kind → d.id ≡ c.id
    → all_stepped c.kind p.steps (Ok (rows c)) ≡ Ok (rows d) → changes p (rows c) (rows d) ≡ false → d ≡ c
as_it_was p c d own other of_kind may kinds ids h n =
    same_content d c other.part own.part kinds ids (λ v. elim (cases_Bool (is_about (touched p) v)) [
      | inl t ↦ sym (none_other (touched p) (rows c) (rows d) (or_parts (list_any (is_unseen_writing p.kind) p.steps) _ n).1 v t)
      | inr m ↦ untouched_stay c own p.steps (subst (λ k. All (IsStep k) p.steps) of_kind may) (rows d) h v m
    ])

-- ---- the outcome

module _ (p : Patch) (moment : ℕ) (c : Content) where
  -- a patch whose work is over the limit is refused
  pub over_limit : is_within_limit p (rows c) ≡ false → applied p moment c ≡ Err fault.Value
  unfolding applied
  over_limit over = ap (λ b. if_stepped p moment c (if b then all_stepped p.kind p.steps (Ok (rows c)) else Err fault.Value)) over

  -- the steps of another are applied
  pub within_limit : is_within_limit p (rows c) ≡ true → applied p moment c ≡ if_stepped p moment c (all_stepped p.kind p.steps (Ok (rows c)))
  unfolding applied
  within_limit few = ap (λ b. if_stepped p moment c (if b then all_stepped p.kind p.steps (Ok (rows c)) else Err fault.Value)) few

module _ (p : Patch) (moment : ℕ) (c : Content) (of_kind : p.kind ≡ c.kind) (few : is_within_limit p (rows c) ≡ true) where
  -- a fault of the steps is the outcome
  pub refused : (f : Failed StepFault) → IfBecause (λ e. Err e ≡ all_stepped c.kind p.steps (Ok (rows c))) f → IfBecause (λ e. Err e ≡ applied p moment c) f
  refused NoMemory h = tt
  refused (Because e) h = ap (if_stepped p moment c) (h ∙ ap (λ k. all_stepped k p.steps (Ok (rows c))) (sym of_kind)) ∙ sym (within_limit p moment c few)

  -- and else what is finished
  pub finished_so : (rs : List Row) (b : Bool) → Ok rs ≡ all_stepped c.kind p.steps (Ok (rows c)) → changes p (rows c) rs ≡ b
      → applied p moment c ≡ Ok ((if b then content c.kind c.id (modified_at moment rs) else c), b)
  finished_so rs b h e =
      within_limit p moment c few
      ∙ ap (if_stepped p moment c) (ap (λ k. all_stepped k p.steps (Ok (rows c))) of_kind ∙ sym h)
      ∙ (λ i. Ok ((if e i then content c.kind c.id (modified_at moment rs) else c), e i))
