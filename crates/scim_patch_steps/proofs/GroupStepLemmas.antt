-- Steps on the rows of a resource, in groups by unit.
use Rattle.std.proofs.Common.{◌≡◌, ◌<◌, ◌≤◌, ℕ, suc, ◌+◌, add-one, refl, sym, ◌∙◌, ap, subst, arith, List, ◌∷◌, drop, drop-cons, get_or, length, length-append, map}
use Rattle.std.specs.Prelude.{All, Contains, Result, Ok, Err}
use Rattle.std.specs.List.{insert}
use Rattle.std.proofs.lemmas.List.Elements.{All-weaker}
use Rattle.scim_text.specs.Failures.{IfBecause}
use Rattle.scim_text.specs.declared.memory.Failed.{Failed}
use Rattle.scim_text.specs.declared.memory.Failed.TheVariants.{Because, NoMemory}
use Rattle.scim_schema.specs.declared.Kind.{Kind}
use Rattle.scim_schema.specs.declared.Unit.{Unit as AttributeUnit}
use Rattle.scim_schema.specs.Units.{units}
use Rattle.scim_cell.specs.Content.{Content}
use Rattle.scim_cell.specs.Rows.{Row, rows, content, values, AreSound, IsValue}
use Rattle.scim_value.specs.Resource.{IsResource, HasBase}
use Rattle.scim_value.proofs.Facts.{part_content, rows_content, same_part, sound_part}
use Rattle.scim_patch_steps.specs.declared.steps.StepFault.{StepFault}
use Rattle.scim_patch_steps.specs.declared.patches.Step.{Step as KeptStep}
use Rattle.scim_patch_steps.specs.declared.unit_rows.UnitRows.{UnitRows}
use Rattle.scim_patch_steps.specs.Changes.{StepChange}
use Rattle.scim_patch_steps.specs.Steps.{after}
use Rattle.scim_patch_steps.specs.Patch.{Step, Pathless, Of, MayBeMade, IsStep, with_outcome, stepped, all_stepped}
use Rattle.scim_patch_steps.specs.Kept.{step_of}
use Rattle.scim_patch_steps.specs.code.Groups.{joined, AreGroups, AreOfResource, IsTaken}
use Rattle.scim_patch_steps.proofs.GroupLemmas.{groups_again, put_back, taken_values}
use Rattle.scim_patch_steps.proofs.OutcomeLemmas.{steps_sound}
use Rattle.scim_patch_steps.proofs.StandLemmas.{values_stand}
use Rattle.scim_patch_steps.proofs.StepLemmas.{after_stands, left_resource, left_sound, not_fixed}

-- ---- the rows of a resource

own_units : (c : Content) → IsResource c → (u : AttributeUnit) (change : StepChange) (ws : List Row) → Contains (units c.kind) u → MayBeMade c.kind u change
    → after c.kind u change (values u (rows c)) ≡ Ok ws → All (λ (r : Row). r.unit ≡ u) ws
own_units c own u change ws there may h =
    let free = not_fixed c.kind u change (values u (rows c)) ws h in
    let stand = after_stands c.kind u change (values u (rows c)) ws there may (values_stand c own u there free) h in
    All-weaker (IsValue c.kind u) (λ (r : Row). r.unit ≡ u) (λ r o. o.0) ws stand.own.own

-- what a step leaves of the values of a unit is of that unit
pub units_left : (kind : Kind) (rs : List Row) → AreOfResource kind rs → (u : AttributeUnit) (change : StepChange) (ws : List Row) → IsStep kind (Of u change)
    → after kind u change (values u rs) ≡ Ok ws → All (λ (r : Row). r.unit ≡ u) ws
units_left kind rs of u change ws =
    subst (λ k. IsStep k (Of u change) → after k u change (values u rs) ≡ Ok ws → All (λ (r : Row). r.unit ≡ u) ws) of.kind_is
    (λ may h. own_units of.resource of.whole u change ws may.0 may.1 (ap (λ xs. after of.resource.kind u change (values u xs)) of.rows_are ∙ h))

rows_again : (c : Content) → IsResource c → (s : Step) (left : List Row) → IsStep c.kind s → Ok left ≡ stepped c.kind s (rows c) → AreOfResource c.kind left
rows_again c own Pathless left may h = absurd (cc h)
rows_again c own (Of u change) left may h = record {
  resource = content c.kind c.id left;
  whole = left_resource c own u may.0 change may.1 left h;
  kind_is = refl;
  rows_are = rows_content c.kind c.id left (left_sound c own u may.0 change may.1 left h);
}

-- the rows after a step are those of a resource again
pub of_resource_again : (kind : Kind) (rs : List Row) → AreOfResource kind rs → (s : Step) (left : List Row) → IsStep kind s → Ok left ≡ stepped kind s rs → AreOfResource kind left
of_resource_again kind rs of s left =
    subst (λ k. IsStep k s → Ok left ≡ stepped k s rs → AreOfResource k left) of.kind_is
    (λ may h. rows_again of.resource of.whole s left may (h ∙ ap (stepped of.resource.kind s) (sym of.rows_are)))

-- the rows after all steps are those of a resource of the same base
pub left_of_all : (c : Content) → IsResource c → (steps : List Step) → All (IsStep c.kind) steps → (left : List Row) → Ok left ≡ all_stepped c.kind steps (Ok (rows c))
    → AreSound c.kind left × IsResource (content c.kind c.id left) × ((base : List ℕ) → HasBase base c → HasBase base (content c.kind c.id left))
left_of_all c own steps may left h =
    let made : (base : List ℕ) → HasBase base c → AreSound c.kind left × IsResource (content c.kind c.id left) × HasBase base (content c.kind c.id left)
    = λ base has. (
    let out = steps_sound base c (own, has) steps may left (sym h) in
    let d = out.0 in
    let sound : AreSound c.kind left = subst (AreSound c.kind) out.4 (subst (λ k. AreSound k (rows d)) out.2 (sound_part d out.1.0.part)) in
    let same : d ≡ content c.kind c.id left = same_part d (content c.kind c.id left) out.1.0.part (part_content c.kind c.id left sound) out.2 out.3 (out.4 ∙ sym (rows_content c.kind c.id left sound)) in
    (sound, subst IsResource same out.1.0, subst (HasBase base) same out.1.1)) in
    let one = made own.located.0 own.located.1 in
    (one.0, one.1, λ base has. (made base has).2)

-- the same of a resource that was taken apart
pub left_of_apart : (c : Content) → IsResource c → (k : Kind) (id : List ℕ) (rs : List Row) → k ≡ c.kind → id ≡ c.id → rs ≡ rows c
    → (steps : List Step) → All (IsStep c.kind) steps → (left : List Row) → Ok left ≡ all_stepped k steps (Ok rs)
    → AreSound k left × IsResource (content k id left) × ((base : List ℕ) → HasBase base c → HasBase base (content k id left))
left_of_apart c own k id rs kinds ids same steps may left h =
    let out = left_of_all c own steps may left (h ∙ (λ i. all_stepped (kinds i) steps (Ok (same i)))) in
    let again : content c.kind c.id left ≡ content k id left = λ i. content (sym kinds i) (sym ids i) left in
    (subst (λ x. AreSound x left) (sym kinds) out.0, subst IsResource again out.1, λ base has. subst (HasBase base) again (out.2 base has))

-- ---- all steps

-- the steps that are left go on from the rows after one
pub step_more : (kind : Kind) (steps : List KeptStep) (k : ℕ) (d : KeptStep) (rs left : List Row) (total : Result (List Row) StepFault) → k < length steps → d ≡ get_or steps k d
    → all_stepped kind (map step_of (drop k steps)) (Ok rs) ≡ total → Ok left ≡ stepped kind (step_of d) rs → all_stepped kind (map step_of (drop (k + 1) steps)) (Ok left) ≡ total
step_more kind steps k d rs left total l is so_far h =
    let next : drop k steps ≡ d ∷ drop (suc k) steps = drop-cons steps k d l ∙ ap (λ s. s ∷ drop (suc k) steps) (sym is) in
    let rest : all_stepped kind (map step_of (drop (suc k) steps)) (Ok left) ≡ total
    = ap (all_stepped kind (map step_of (drop (suc k) steps))) h ∙ ap (λ ss. all_stepped kind (map step_of ss) (Ok rs)) (sym next) ∙ so_far in
    rw add-one rest

-- ---- one step

module _ (u : AttributeUnit) (gs : List UnitRows) (index : ℕ) (own : List Row) (left : List UnitRows) (t : IsTaken u gs index own left) where
  -- a group may be inserted
  pub index_fits : index ≤ length left
  index_fits = omega (arith, t.index_is, ap length t.left_is, length-append t.low t.high)

  module _ (kind : Kind) (change : StepChange) where
    of_values : with_outcome u (joined gs) (after kind u change own) ≡ with_outcome u (joined gs) (after kind u change (values u (joined gs)))
    of_values = ap (λ vs. with_outcome u (joined gs) (after kind u change vs)) (sym (taken_values u gs index own left t))

    -- a fault is that of the step
    pub step_refused : (f : Failed StepFault) → IfBecause (λ e. Err e ≡ after kind u change own) f → IfBecause (λ e. Err e ≡ stepped kind (Of u change) (joined gs)) f
    step_refused NoMemory h = tt
    step_refused (Because e) h = ap (with_outcome u (joined gs)) h ∙ of_values

    -- and the rows with a group of what it leaves are those after the step
    pub step_made : (g : UnitRows) → Ok g.rows.items ≡ after kind u change own → Ok (joined (insert left index g)) ≡ stepped kind (Of u change) (joined gs)
    step_made g h = ap (λ rs. Ok rs) (put_back u gs index own left t g) ∙ ap (with_outcome u (joined gs)) h ∙ of_values

    pub step_groups : AreOfResource kind (joined gs) → IsStep kind (Of u change) → (g : UnitRows) → g.unit ≡ u → Ok g.rows.items ≡ after kind u change own → AreGroups (insert left index g)
    step_groups of may g e h =
        let made : after kind u change (values u (joined gs)) ≡ Ok g.rows.items = ap (after kind u change) (taken_values u gs index own left t) ∙ sym h in
        groups_again u gs index own left t g e
        (subst (λ v. All (λ (r : Row). r.unit ≡ v) g.rows.items) (sym e) (units_left kind (joined gs) of u change g.rows.items may made))
