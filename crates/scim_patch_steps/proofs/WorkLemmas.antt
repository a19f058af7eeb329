-- The work of a patch.
use Rattle.std.proofs.Common.{◌≡◌, ◌≤◌, ◌<◌, ℕ, zero, suc, ◌+◌, ◌*◌, refl, sym, ◌∙◌, ap, true, false, arith, inl, inr, List, [], ◌∷◌, length, take, get_or, map}
use Rattle.std.specs.Prelude.{min, nat_le}
use Rattle.std.specs.List.{sum_by, flat_map}
use Rattle.std.proofs.lemmas.Bool.{cases_Bool, lt-leb}
use Rattle.std.proofs.lemmas.List.Sums.{sum_by-cons}
use Rattle.scim_schema.specs.declared.Kind.{Kind}
use Rattle.scim_schema.specs.declared.Unit.{Unit as AttributeUnit}
use Rattle.scim_schema.specs.Mutability.{is_secret}
use Rattle.scim_schema.specs.Units.{is_same_unit}
use Rattle.scim_schema.proofs.Facts.{is_same_unit-Decides}
use Rattle.scim_cell.specs.Rows.{Row, values}
use Rattle.scim_patch_steps.specs.declared.work.TheConstants.{MOST_WORK, STEP}
use Rattle.scim_patch_steps.specs.Work.{looks}
use Rattle.scim_patch_steps.specs.Patch.{Step, Pathless, Of, Patch, units_in, touched, given_in, set_in, size_during, counted, step_work, is_within_limit}
use Rattle.scim_patch_steps.specs.declared.patches.Step.{Step as KeptStep}
use Rattle.scim_patch_steps.specs.Kept.{step_of}
use Rattle.scim_patch_steps.specs.code.Touched.{is_about}

-- ---- the limit

-- the work of some steps and of the next is within that of all
part_le : (f : Step → ℕ) (steps : List KeptStep) (k : ℕ) (d : KeptStep) → k < length steps
    → sum_by f (map step_of (take k steps)) + f (step_of (get_or steps k d)) ≤ sum_by f (map step_of steps)
part_le f [] k d l = absurd (omega (arith, l))
part_le f (s ∷ steps) zero d l = omega (arith, sum_by-cons f (step_of s) (map step_of steps))
part_le f (s ∷ steps) (suc k) d l =
    let whole = sum_by-cons f (step_of s) (map step_of steps) in
    let part = sum_by-cons f (step_of s) (map step_of (take k steps)) in
    omega (arith, whole, part, part_le f steps k d (omega (arith, l)))

-- where these are over the limit, so are all
pub all_over : (f : Step → ℕ) (steps : List KeptStep) (k : ℕ) (s : KeptStep) (most m so_far own total : ℕ) → k < length steps → s ≡ get_or steps k s
    → so_far ≡ min (sum_by f (map step_of (take k steps))) m → own ≡ min (f (step_of s)) m → total ≡ min (so_far + own) m → most < total
    → nat_le (sum_by f (map step_of steps)) most ≡ false
all_over f steps k s most m so_far own total l is by_so_far by_own by_total over =
    let whole = part_le f steps k s l in
    let same = ap (λ x. f (step_of x)) is in
    lt-leb (sum_by f (map step_of steps)) most (omega (arith, by_so_far, by_own, by_total, over, whole, same))

-- ---- units that are among some, and rows with the same values of these

-- a unit is one of some that it stands before
pub first_is_about : (u : AttributeUnit) (us : List AttributeUnit) → is_about (u ∷ us) u ≡ true
first_is_about u us = rw ((is_same_unit-Decides u u).1 refl) refl

-- and so is each of those
pub later_is_about : (u v : AttributeUnit) (us : List AttributeUnit) → is_about us v ≡ true → is_about (u ∷ us) v ≡ true
later_is_about u v us t = elim (cases_Bool (is_same_unit v u)) [ inl s ↦ rw s refl | inr n ↦ rw (n, t) refl ]

-- rows have the same values of those of these units that aren't writeOnly
abbrev pub AreSame : Kind → List AttributeUnit → List Row → List Row → Type 0
AreSame kind us xs ys = (v : AttributeUnit) → is_about us v ≡ true → is_secret kind v ≡ false → values v xs ≡ values v ys

-- the same of a unit counts
counted_same : (kind : Kind) (u : AttributeUnit) (xs ys : List Row) → (is_secret kind u ≡ false → values u xs ≡ values u ys) → counted kind xs u ≡ counted kind ys u
unfolding counted
counted_same kind u xs ys same = elim (cases_Bool (is_secret kind u)) [ inl t ↦ rw t refl | inr n ↦ rw n (same n) ]

-- then steps whose units are among these have the same work
steps_work_same : (kind : Kind) (us : List AttributeUnit) (size set : ℕ) (xs ys : List Row) → AreSame kind us xs ys → (steps : List Step)
    → ((v : AttributeUnit) → is_about (flat_map units_in steps) v ≡ true → is_about us v ≡ true)
    → sum_by (step_work kind size set xs) steps ≡ sum_by (step_work kind size set ys) steps
steps_work_same kind us size set xs ys same [] inside = refl
steps_work_same kind us size set xs ys same (Pathless ∷ steps) inside =
    let rest = steps_work_same kind us size set xs ys same steps inside in
    sum_by-cons (step_work kind size set xs) Pathless steps ∙ (λ i. 0 + rest i) ∙ sym (sum_by-cons (step_work kind size set ys) Pathless steps)
steps_work_same kind us size set xs ys same (Of u change ∷ steps) inside =
    let first = counted_same kind u xs ys (same u (inside u (first_is_about u (flat_map units_in steps)))) in
    let rest = steps_work_same kind us size set xs ys same steps (λ v t. inside v (later_is_about u v (flat_map units_in steps) t)) in
    sum_by-cons (step_work kind size set xs) (Of u change) steps
    ∙ (λ i. looks change * size_during size set (first i) + STEP + rest i)
    ∙ sym (sum_by-cons (step_work kind size set ys) (Of u change) steps)

-- so whether the work of a patch is within the limit rests on the values of the units that its steps name and that
-- aren't writeOnly
pub limit_same : (p : Patch) (xs ys : List Row) → AreSame p.kind (touched p) xs ys → is_within_limit p xs ≡ is_within_limit p ys
limit_same p xs ys same =
    ap (λ w. nat_le w MOST_WORK) (steps_work_same p.kind (touched p) (sum_by given_in p.steps) (sum_by set_in p.steps) xs ys same p.steps (λ v t. t))
