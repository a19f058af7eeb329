-- What the outcome of a patch rests on: the values of the units that it is about and that aren't writeOnly.
use Rattle.std.proofs.Common.{◌≡◌, ◌≢◌, ◌<◌, ℕ, zero, suc, refl, sym, ◌∙◌, ap, subst, Bool, true, false, arith, inl, inr, List, [], ◌∷◌, length, get_or}
use Rattle.std.specs.Prelude.{◌⊎◌, All, not, ◌||◌, Result, Ok, Err, if◌then◌else◌}
use Rattle.std.specs.List.{list_any, flat_map}
use Rattle.std.specs.Cmp.Lexicographic.{pointwise_decides}
use Rattle.std.proofs.lemmas.Bool.{cases_Bool, or_parts}
use Rattle.std.proofs.lemmas.List.Elements.{All-head, All-tail, All-weaker}
use Rattle.scim_text.specs.declared.memory.Failed.TheVariants.{Because}
use Rattle.scim_schema.specs.declared.Kind.{Kind}
use Rattle.scim_schema.specs.declared.Unit.{Unit as AttributeUnit}
use Rattle.scim_schema.specs.Mutability.{is_secret}
use Rattle.scim_schema.specs.Units.{is_same_unit}
use Rattle.scim_schema.proofs.Facts.{is_same_unit-Decides}
use Rattle.scim_cell.specs.Content.{Content}
use Rattle.scim_cell.specs.Equality.{is_same_row-Decides}
use Rattle.scim_cell.specs.Rows.{Row, rows, content, values, put_values, AreSound, IsValue}
use Rattle.scim_value.specs.Resource.{IsResource}
use Rattle.scim_value.proofs.Facts.{rows_content, sound_part}
use Rattle.scim_change.specs.Agreement.{are_same_values}
use Rattle.scim_change.specs.Replace.{modified_at}
use Rattle.scim_change.specs.Laws.{AgreeAtOpen, EndsAlike, IsLeft, Stays}
use Rattle.scim_change.proofs.Facts.{rows_modified, secret_unstamped, stamp, stamps, stamp_apart, stamp_own, values_fit, values_put, values_stay}
use Rattle.scim_patch_steps.specs.declared.steps.StepFault.{StepFault}
use Rattle.scim_patch_steps.specs.declared.steps.StepFault.TheVariants as fault
use Rattle.scim_patch_steps.specs.Changes.{StepChange}
use Rattle.scim_patch_steps.specs.Steps.{after}
use Rattle.scim_patch_steps.specs.Patch.{Step, Pathless, Of, Patch, IsStep, IsPatch, units_in, touched, with_outcome, all_stepped, writes, is_unseen_writing, changes, is_within_limit, applied}
use Rattle.scim_patch_steps.specs.Laws.{AreAlike, PatchingRestsOnItsUnits}
use Rattle.scim_patch_steps.specs.code.Touched.{is_about, is_other}
use Rattle.scim_patch_steps.proofs.SecretLemmas.{written_same, unwritten_kept}
use Rattle.scim_patch_steps.proofs.StepLemmas.{found, stands, left_sound, left_resource}
use Rattle.scim_patch_steps.proofs.WorkLemmas.{AreSame, first_is_about, later_is_about, limit_same}
use Rattle.scim_patch_steps.proofs.ApplyLemmas.{fault_stays, finished_so, over_limit, refused, untouched_stay}

-- ---- units that are among some

-- what holds of all of them holds of each
listed_value : (P : AttributeUnit → Type 0) (us : List AttributeUnit) (v : AttributeUnit) → All P us → is_about us v ≡ true → P v
listed_value P [] v h t = absurd (cc t)
listed_value P (u ∷ us) v h t = elim (cases_Bool (is_same_unit v u)) [
  | inl s ↦ subst P (sym ((is_same_unit-Decides v u).0 s)) (All-head P u us h)
  | inr n ↦ listed_value P us v (All-tail P u us h) (rw n at t)
]

-- each of them is
at_listed : (us : List AttributeUnit) (k : ℕ) (u : AttributeUnit) → k < length us → is_about us (get_or us k u) ≡ true
at_listed [] k u l = absurd (omega (arith, l))
at_listed (v ∷ us) zero u l = rw ((is_same_unit-Decides v v).1 refl) refl
at_listed (v ∷ us) (suc k) u l = elim (cases_Bool (is_same_unit (get_or us k u) v)) [
  | inl t ↦ rw t refl
  | inr n ↦ rw n (at_listed us k u (omega (arith, l)))
]

-- one that none of them is isn't
none_listed : (us : List AttributeUnit) (v : AttributeUnit) → All (λ u. u ≢ v) us → is_about us v ≡ false
none_listed [] v h = refl
none_listed (u ∷ us) v h = elim (cases_Bool (is_same_unit v u)) [
  | inl t ↦ absurd (All-head (λ w. w ≢ v) u us h (sym ((is_same_unit-Decides v u).0 t)))
  | inr n ↦ rw n (none_listed us v (All-tail (λ w. w ≢ v) u us h))
]

-- two tests that tell the same of each of them tell the same of all
same_any : (p q : AttributeUnit → Bool) (us : List AttributeUnit) → All (λ u. p u ≡ q u) us → list_any p us ≡ list_any q us
same_any p q [] h = refl
same_any p q (u ∷ us) h =
    let first = All-head (λ v. p v ≡ q v) u us h in
    let rest = same_any p q us (All-tail (λ v. p v ≡ q v) u us h) in
    λ i. first i || rest i

-- ---- the steps, one after another

-- of rows that were these before, both have the same values of a unit, or it is writeOnly and both have their own
abbrev AreEnded : Kind → AttributeUnit → List Row → List Row → List Row → List Row → Type 0
AreEnded kind v old_a old_b xs ys = (values v xs ≡ values v ys) ⊎ ((is_secret kind v ≡ true) × (values v xs ≡ values v old_a) × (values v ys ≡ values v old_b))

-- so it is with each of these units
abbrev AreAllEnded : Kind → List AttributeUnit → List Row → List Row → List Row → List Row → Type 0
AreAllEnded kind us old_a old_b xs ys = (v : AttributeUnit) → is_about us v ≡ true → AreEnded kind v old_a old_b xs ys

-- where a unit isn't writeOnly, both have the same
open_same : (kind : Kind) (v : AttributeUnit) (old_a old_b xs ys : List Row) → AreEnded kind v old_a old_b xs ys → is_secret kind v ≡ false → values v xs ≡ values v ys
open_same kind v old_a old_b xs ys (inl same) open' = same
open_same kind v old_a old_b xs ys (inr own) open' = (let secret = own.0 in cc)

-- what steps leave is alike: the same fault, or sound rows that end alike at these units
abbrev AreLeftAlike : Kind → List AttributeUnit → List Row → List Row → Kind → Kind → Result (List Row) StepFault → Result (List Row) StepFault → Type 0
AreLeftAlike kind us old_a old_b k l (Err e) (Err f) = e ≡ f
AreLeftAlike kind us old_a old_b k l (Ok xs) (Ok ys) = AreAllEnded kind us old_a old_b xs ys × AreSound k xs × AreSound l ys
AreLeftAlike kind us old_a old_b k l _ _ = ⊥

-- after one fault steps leave it of both
faults_alike : (kind : Kind) (us : List AttributeUnit) (old_a old_b : List Row) (k l : Kind) (steps : List Step) (e : StepFault)
    → AreLeftAlike kind us old_a old_b k l (all_stepped k steps (Err e)) (all_stepped l steps (Err e))
faults_alike kind us old_a old_b k l [] e = refl
faults_alike kind us old_a old_b k l (s ∷ steps) e = refl

-- new values of a unit of both: the same of both, or each its own from before
abbrev AreMade : AttributeUnit → List Row → List Row → List Row → List Row → Type 0
AreMade u xs ys vs ws = (vs ≡ ws) ⊎ ((vs ≡ values u xs) × (ws ≡ values u ys))

-- rows with such values put in end alike where they did before
put_ended : (kind : Kind) (us : List AttributeUnit) (u : AttributeUnit) (old_a old_b xs ys vs ws : List Row) → All (λ (r : Row). r.unit ≡ u) vs → All (λ (r : Row). r.unit ≡ u) ws
    → AreMade u xs ys vs ws → AreAllEnded kind us old_a old_b xs ys → AreAllEnded kind us old_a old_b (put_values u vs xs) (put_values u ws ys)
put_ended kind us u old_a old_b xs ys vs ws first second made ended v t = elim (cases_Bool (is_same_unit u v)) [
  | inl s ↦ (let e = (is_same_unit-Decides u v).0 s in
      subst (λ w. AreEnded kind w old_a old_b (put_values u vs xs) (put_values u ws ys)) e (at_unit made (subst (λ w. AreEnded kind w old_a old_b xs ys) (sym e) (ended v t))))
  | inr n ↦
      let other : u ≢ v = λ e. (let s : is_same_unit u v ≡ true = (is_same_unit-Decides u v).1 e in cc) in
      elsewhere (values_stay u vs xs first v other) (values_stay u ws ys second v other) (ended v t)
]
  where
    at_unit : AreMade u xs ys vs ws → AreEnded kind u old_a old_b xs ys → AreEnded kind u old_a old_b (put_values u vs xs) (put_values u ws ys)
    at_unit (inl same) before = inl (values_put u vs xs first ∙ same ∙ sym (values_put u ws ys second))
    at_unit (inr own) (inl same) = inl (values_put u vs xs first ∙ own.0 ∙ same ∙ sym (values_put u ws ys second ∙ own.1))
    at_unit (inr own) (inr kept) = inr (kept.0, values_put u vs xs first ∙ own.0 ∙ kept.1, values_put u ws ys second ∙ own.1 ∙ kept.2)

    elsewhere : values v (put_values u vs xs) ≡ values v xs → values v (put_values u ws ys) ≡ values v ys → AreEnded kind v old_a old_b xs ys → AreEnded kind v old_a old_b (put_values u vs xs) (put_values u ws ys)
    elsewhere e f (inl same) = inl (e ∙ same ∙ sym f)
    elsewhere e f (inr kept) = inr (kept.0, e ∙ kept.1, f ∙ kept.2)

-- one step leaves rows of a resource, which have the values that it makes
module _ (c : Content) (own : IsResource c) (u : AttributeUnit) (change : StepChange) (may : IsStep c.kind (Of u change)) (ws : List Row)
    (h : after c.kind u change (values u (rows c)) ≡ Ok ws) where
  abbrev next : Content
  next = content c.kind c.id (put_values u ws (rows c))

  -- that is what is left
  left : Ok (put_values u ws (rows c)) ≡ with_outcome u (rows c) (after c.kind u change (values u (rows c)))
  left = ap (with_outcome u (rows c)) (sym h)

  -- it is a resource
  next_resource : IsResource next
  next_resource = left_resource c own u may.0 change may.1 (put_values u ws (rows c)) left

  -- with just these rows
  next_rows : rows next ≡ put_values u ws (rows c)
  next_rows = rows_content c.kind c.id (put_values u ws (rows c)) (left_sound c own u may.0 change may.1 (put_values u ws (rows c)) left)

  -- the values are of the unit
  made_own : All (λ (r : Row). r.unit ≡ u) ws
  made_own =
      let out = found c own u may.0 change may.1 (put_values u ws (rows c)) left in
      let stand = stands c own u may.0 change may.1 (put_values u ws (rows c)) left in
      let same : out.0 ≡ ws = (let e = sym out.1 ∙ h in cc) in
      subst (All (λ (r : Row). r.unit ≡ u)) same (All-weaker (IsValue c.kind u) (λ (r : Row). r.unit ≡ u) (λ r o. o.0) out.0 stand.own.own)

  -- the other steps go on from there
  goes_on : (steps : List Step) → all_stepped c.kind (Of u change ∷ steps) (Ok (rows c)) ≡ all_stepped c.kind steps (Ok (rows next))
  goes_on steps = ap (all_stepped c.kind steps) (sym left ∙ ap (λ rs. Ok rs) (sym next_rows))

-- what a step makes of the values of its unit in two resources: a fault of both, or values of both
abbrev Outcomes : Content → Content → AttributeUnit → StepChange → Type 0
Outcomes a b u change =
    ((e : StepFault) × (after a.kind u change (values u (rows a)) ≡ Err e) × (after b.kind u change (values u (rows b)) ≡ Err e))
    ⊎ ((vs : List Row) × (ws : List Row) × (after a.kind u change (values u (rows a)) ≡ Ok vs) × (after b.kind u change (values u (rows b)) ≡ Ok ws) × AreMade u (rows a) (rows b) vs ws)

-- it makes the same of both
same_outcomes : (a b : Content) (u : AttributeUnit) (change : StepChange) → after b.kind u change (values u (rows b)) ≡ after a.kind u change (values u (rows a)) → Outcomes a b u change
same_outcomes a b u change same = go (after a.kind u change (values u (rows a))) refl
  where
    go : (out : Result (List Row) StepFault) → after a.kind u change (values u (rows a)) ≡ out → Outcomes a b u change
    go (Err e) made = inl (e, made, same ∙ made)
    go (Ok vs) made = inr (vs, vs, made, same ∙ made, inl refl)

-- or leaves both
outcomes : (old_a old_b : List Row) (a b : Content) → IsResource a → IsResource b → b.kind ≡ a.kind → (u : AttributeUnit) (change : StepChange) → IsStep a.kind (Of u change)
    → AreEnded a.kind u old_a old_b (rows a) (rows b) → Outcomes a b u change
outcomes old_a old_b a b one other kinds u change step (inl same) = same_outcomes a b u change (let e = sym same in λ i. after (kinds i) u change (e i))
outcomes old_a old_b a b one other kinds u change step (inr own) = elim (cases_Bool (writes change)) [
  | inl t ↦
      same_outcomes a b u change
      (ap (λ k. after k u change (values u (rows b))) kinds ∙ written_same a.kind u change step own.0 t (values u (rows b)) (values u (rows a)))
  | inr n ↦
      let step_too = subst (λ k. IsStep k (Of u change)) (sym kinds) step in
      let secret_too : is_secret b.kind u ≡ true = ap (λ k. is_secret k u) kinds ∙ own.0 in
      inr (
        values u (rows a),
        values u (rows b),
        unwritten_kept a.kind u change step own.0 n (values u (rows a)) (values_fit a.kind u (rows a) (sound_part a one.part)),
        unwritten_kept b.kind u change step_too secret_too n (values u (rows b)) (values_fit b.kind u (rows b) (sound_part b other.part)),
        inr (refl, refl),
      )
]

-- from two resources of one kind that end alike at these units, steps that are about some of them leave what is alike
steps_alike : (us : List AttributeUnit) (old_a old_b : List Row) (a b : Content) → IsResource a → IsResource b → b.kind ≡ a.kind → (steps : List Step) → All (IsStep a.kind) steps
    → ((v : AttributeUnit) → is_about (flat_map units_in steps) v ≡ true → is_about us v ≡ true) → AreAllEnded a.kind us old_a old_b (rows a) (rows b)
    → AreLeftAlike a.kind us old_a old_b a.kind b.kind (all_stepped a.kind steps (Ok (rows a))) (all_stepped b.kind steps (Ok (rows b)))
steps_alike us old_a old_b a b one other kinds [] may inside ended = (ended, sound_part a one.part, sound_part b other.part)
steps_alike us old_a old_b a b one other kinds (Pathless ∷ steps) may inside ended = faults_alike a.kind us old_a old_b a.kind b.kind steps fault.NoTarget
steps_alike us old_a old_b a b one other kinds (Of u change ∷ steps) may inside ended =
    go (λ c d is it e all. steps_alike us old_a old_b c d is it e steps all later) (outcomes old_a old_b a b one other kinds u change step (ended u (inside u own)))
  where
    step : IsStep a.kind (Of u change)
    step = All-head (IsStep a.kind) (Of u change) steps may

    -- the unit of the step is one of those that the steps are about
    own : is_about (u ∷ flat_map units_in steps) u ≡ true
    own = first_is_about u (flat_map units_in steps)

    -- and so are those of the steps behind it
    later : (v : AttributeUnit) → is_about (flat_map units_in steps) v ≡ true → is_about us v ≡ true
    later v t = inside v (later_is_about u v (flat_map units_in steps) t)

    -- by what the step makes of the values
    go : ((c d : Content) → IsResource c → IsResource d → d.kind ≡ c.kind → All (IsStep c.kind) steps → AreAllEnded c.kind us old_a old_b (rows c) (rows d)
        → AreLeftAlike c.kind us old_a old_b c.kind d.kind (all_stepped c.kind steps (Ok (rows c))) (all_stepped d.kind steps (Ok (rows d))))
        → Outcomes a b u change
        → AreLeftAlike a.kind us old_a old_b a.kind b.kind (all_stepped a.kind (Of u change ∷ steps) (Ok (rows a))) (all_stepped b.kind (Of u change ∷ steps) (Ok (rows b)))
    go again (inl (e, made, made_too)) =
        subst (λ o. AreLeftAlike a.kind us old_a old_b a.kind b.kind (all_stepped a.kind steps (with_outcome u (rows a) o)) (all_stepped b.kind (Of u change ∷ steps) (Ok (rows b)))) (sym made)
        (subst (λ o. AreLeftAlike a.kind us old_a old_b a.kind b.kind (all_stepped a.kind steps (Err e)) (all_stepped b.kind steps (with_outcome u (rows b) o))) (sym made_too)
        (faults_alike a.kind us old_a old_b a.kind b.kind steps e))
    go again (inr (vs, ws, made, made_too, values_made)) =
        let step_too = subst (λ k. IsStep k (Of u change)) (sym kinds) step in
        let c = next a one u change step vs made in
        let d = next b other u change step_too ws made_too in
        let put = put_ended a.kind us u old_a old_b (rows a) (rows b) vs ws (made_own a one u change step vs made) (made_own b other u change step_too ws made_too) values_made ended in
        let e = next_rows a one u change step vs made in
        let f = next_rows b other u change step_too ws made_too in
        let end : AreAllEnded a.kind us old_a old_b (rows c) (rows d) = λ v t. subst (λ zs. AreEnded a.kind v old_a old_b zs (rows d)) (sym e) (subst (AreEnded a.kind v old_a old_b (put_values u vs (rows a))) (sym f) (put v t)) in
        let rest = again c d (next_resource a one u change step vs made) (next_resource b other u change step_too ws made_too) kinds (All-tail (IsStep a.kind) (Of u change) steps may) end in
        subst (λ o. AreLeftAlike a.kind us old_a old_b a.kind b.kind o (all_stepped b.kind (Of u change ∷ steps) (Ok (rows b)))) (sym (goes_on a one u change step vs made steps))
        (subst (AreLeftAlike a.kind us old_a old_b a.kind b.kind (all_stepped a.kind steps (Ok (rows c)))) (sym (goes_on b other u change step_too ws made_too steps)) rest)

-- ---- writeOnly units that no step writes to

-- their values stay
unwritten_stay : (c : Content) → IsResource c → (steps : List Step) → All (IsStep c.kind) steps → (left : List Row) → all_stepped c.kind steps (Ok (rows c)) ≡ Ok left
    → list_any (is_unseen_writing c.kind) steps ≡ false → (v : AttributeUnit) → is_secret c.kind v ≡ true → values v left ≡ values v (rows c)
unwritten_stay c own [] may left h idle v secret = (let same : rows c ≡ left = cc in ap (values v) (sym same))
unwritten_stay c own (Pathless ∷ steps) may left h idle v secret = absurd (let e = fault_stays c.kind steps fault.NoTarget in cc)
unwritten_stay c own (Of u change ∷ steps) may left h idle v secret =
    go (λ d is all more. unwritten_stay d is steps all left more) (after c.kind u change (values u (rows c))) refl
  where
    step : IsStep c.kind (Of u change)
    step = All-head (IsStep c.kind) (Of u change) steps may

    parts : (is_unseen_writing c.kind (Of u change) ≡ false) × (list_any (is_unseen_writing c.kind) steps ≡ false)
    parts = or_parts (is_unseen_writing c.kind (Of u change)) (list_any (is_unseen_writing c.kind) steps) idle

    -- the values that the step makes of its unit are those that the unit has, if it is this one
    kept : (ws : List Row) → after c.kind u change (values u (rows c)) ≡ Ok ws → u ≡ v → ws ≡ values u (rows c)
    kept ws made e =
        let at : is_secret c.kind u ≡ true = ap (is_secret c.kind) e ∙ secret in
        let stays = unwritten_kept c.kind u change step at (rw at at parts.0) (values u (rows c)) (values_fit c.kind u (rows c) (sound_part c own.part)) in
        let same : Ok ws ≡ Ok (values u (rows c)) = sym made ∙ stays in cc

    go : ((d : Content) → IsResource d → All (IsStep d.kind) steps → all_stepped d.kind steps (Ok (rows d)) ≡ Ok left
        → list_any (is_unseen_writing d.kind) steps ≡ false → (w : AttributeUnit) → is_secret d.kind w ≡ true → values w left ≡ values w (rows d))
        → (out : Result (List Row) StepFault) → after c.kind u change (values u (rows c)) ≡ out → values v left ≡ values v (rows c)
    go again (Err e) made = absurd (let f = sym h ∙ ap (λ o. all_stepped c.kind steps (with_outcome u (rows c) o)) made ∙ fault_stays c.kind steps e in cc)
    go again (Ok ws) made =
        let d = next c own u change step ws made in
        let rest = again d (next_resource c own u change step ws made) (All-tail (IsStep c.kind) (Of u change) steps may) (sym (goes_on c own u change step ws made steps) ∙ h) parts.1 v secret in
        rest ∙ ap (values v) (next_rows c own u change step ws made) ∙ elim (cases_Bool (is_same_unit u v)) [
          | inl s ↦ (let e = (is_same_unit-Decides u v).0 s in
              subst (λ w. values w (put_values u ws (rows c)) ≡ values w (rows c)) e (values_put u ws (rows c) (made_own c own u change step ws made) ∙ kept ws made e))
          | inr n ↦
              let other : u ≢ v = λ e. (let s : is_same_unit u v ≡ true = (is_same_unit-Decides u v).1 e in cc) in
              values_stay u ws (rows c) (made_own c own u change step ws made) v other
        ]

-- ---- what is changed

-- a unit that has the same values as before isn't another
not_other : (before rs : List Row) (u : AttributeUnit) → values u rs ≡ values u before → is_other before rs u ≡ false
not_other before rs u same = ap not ((pointwise_decides is_same_row-Decides (values u before) (values u rs)).1 (sym same))

-- whether something is changed rests on the values of the units that the patch is about and that aren't writeOnly
same_changes : (p : Patch) (old_a old_b xs ys : List Row) → AreSame p.kind (touched p) old_a old_b → AreAllEnded p.kind (touched p) old_a old_b xs ys
    → (list_any (is_unseen_writing p.kind) p.steps ≡ false → (v : AttributeUnit) → is_secret p.kind v ≡ true → (values v xs ≡ values v old_a) × (values v ys ≡ values v old_b))
    → changes p old_a xs ≡ changes p old_b ys
same_changes p old_a old_b xs ys before ended idle = elim (cases_Bool (list_any (is_unseen_writing p.kind) p.steps)) [
  | inl t ↦ rw t refl
  | inr n ↦ rw n (same_any (is_other old_a xs) (is_other old_b ys) (touched p) (λ k u l. each n (get_or (touched p) k u) (at_listed (touched p) k u l)))
]
  where
    each : list_any (is_unseen_writing p.kind) p.steps ≡ false → (u : AttributeUnit) → is_about (touched p) u ≡ true → is_other old_a xs u ≡ is_other old_b ys u
    each n u t = elim (cases_Bool (is_secret p.kind u)) [
      | inl secret ↦ (let own = idle n u secret in not_other old_a xs u own.0 ∙ sym (not_other old_b ys u own.1))
      | inr open' ↦ (let e = before u t open' in let f = open_same p.kind u old_a old_b xs ys (ended u t) open' in λ i. not (are_same_values (e i) (f i)))
    ]

-- ---- the outcomes

module _ (p : Patch) (moment : ℕ) where
  -- a resource after the steps
  module _ (c : Content) (own : IsResource c) (may : All (IsStep c.kind) p.steps) (rs : List Row) (h : all_stepped c.kind p.steps (Ok (rows c)) ≡ Ok rs) (sound : AreSound c.kind rs) where
    abbrev outcome : Content
    outcome = content c.kind c.id (modified_at moment rs)

    -- its rows, modified at the moment
    rows_outcome : rows outcome ≡ modified_at moment rs
    rows_outcome = rows_modified c.kind c.id moment rs sound

    -- its values of a unit are those that the steps left, or the moment
    told : (u : AttributeUnit) → values u (rows outcome) ≡ (if is_same_unit stamp u then stamps moment else values u rs)
    told u = ap (values u) rows_outcome ∙ elim (cases_Bool (is_same_unit stamp u)) [
      | inl s ↦ rw s (subst (λ v. values v (modified_at moment rs) ≡ stamps moment) ((is_same_unit-Decides stamp u).0 s) (stamp_own moment rs))
      | inr n ↦
          let other : stamp ≢ u = λ e. (let s : is_same_unit stamp u ≡ true = (is_same_unit-Decides stamp u).1 e in cc) in
          rw n (stamp_apart moment rs u other)
    ]

    -- those of a writeOnly unit are no moment
    told_secret : (kind : Kind) (u : AttributeUnit) → is_secret kind u ≡ true → values u (rows outcome) ≡ values u rs
    told_secret kind u secret = ap (values u) rows_outcome ∙ stamp_apart moment rs u (secret_unstamped kind u secret)

    -- and the others it keeps
    stays : Stays (touched p) c outcome
    stays v apart =
        ap (values v) rows_outcome ∙ stamp_apart moment rs v apart.unstamped ∙ untouched_stay c own p.steps may rs h v (none_listed (touched p) v apart.none)

    is_left : IsLeft (touched p) true moment c outcome
    is_left = record { kind = refl; id = refl; stays = stays; modified = ap (values stamp) rows_outcome ∙ stamp_own moment rs }

  -- what isn't changed is left
  as_it_was : (c : Content) → IsLeft (touched p) false moment c c
  as_it_was c = record { kind = refl; id = refl; stays = λ v apart. refl; modified = refl }

  module _ (a b : Content) (is : IsPatch p) (one : IsResource a) (other : IsResource b) (k : a.kind ≡ p.kind) (l : b.kind ≡ p.kind) (agree : AgreeAtOpen p.kind (touched p) a b) where
    -- the steps may be made of both
    may : All (IsStep a.kind) p.steps
    may = subst (λ x. All (IsStep x) p.steps) (sym k) is

    may_too : All (IsStep b.kind) p.steps
    may_too = subst (λ x. All (IsStep x) p.steps) (sym l) is

    -- the two agree, unit by unit
    same : AreSame p.kind (touched p) (rows a) (rows b)
    same v t = listed_value (λ u. is_secret p.kind u ≡ false → values u (rows a) ≡ values u (rows b)) (touched p) v agree t

    -- so they end alike before any step
    unchanged : (v : AttributeUnit) → (is_secret p.kind v ≡ false → values v (rows a) ≡ values v (rows b)) → AreEnded p.kind v (rows a) (rows b) (rows a) (rows b)
    unchanged v h = elim (cases_Bool (is_secret p.kind v)) [ inl t ↦ inr (t, refl, refl) | inr n ↦ inl (h n) ]

    pub begun : AreAllEnded a.kind (touched p) (rows a) (rows b) (rows a) (rows b)
    begun v t = subst (λ x. AreEnded x v (rows a) (rows b) (rows a) (rows b)) (sym k) (unchanged v (same v t))

    -- what is finished of rows that are alike is alike
    finished_alike : (xs ys : List Row) (x : Bool) → all_stepped a.kind p.steps (Ok (rows a)) ≡ Ok xs → all_stepped b.kind p.steps (Ok (rows b)) ≡ Ok ys
        → AreAllEnded p.kind (touched p) (rows a) (rows b) xs ys → AreSound a.kind xs → AreSound b.kind ys
        → AreAlike p.kind (touched p) moment a b (Ok ((if x then content a.kind a.id (modified_at moment xs) else a), x)) (Ok ((if x then content b.kind b.id (modified_at moment ys) else b), x))
    finished_alike xs ys true e f ended first second = (
      refl,
      λ n u m. end (get_or (touched p) n u) (ended (get_or (touched p) n u) (at_listed (touched p) n u m)),
      is_left a one may xs e first,
      is_left b other may_too ys f second,
    )
      where
        end : (v : AttributeUnit) → AreEnded p.kind v (rows a) (rows b) xs ys → EndsAlike p.kind v a b (outcome a one may xs e first) (outcome b other may_too ys f second)
        end v (inl values_same) =
            inl (told a one may xs e first v ∙ ap (λ vs. if is_same_unit stamp v then stamps moment else vs) values_same ∙ sym (told b other may_too ys f second v))
        end v (inr own) = inr (own.0, told_secret a one may xs e first p.kind v own.0 ∙ own.1, told_secret b other may_too ys f second p.kind v own.0 ∙ own.2)
    finished_alike xs ys false e f ended first second = (
      refl,
      All-weaker (λ u. is_secret p.kind u ≡ false → values u (rows a) ≡ values u (rows b)) (λ u. EndsAlike p.kind u a b a b) unchanged (touched p) agree,
      as_it_was a,
      as_it_was b,
    )

    -- so are the outcomes where what the steps leave is
    alike : is_within_limit p (rows a) ≡ true → is_within_limit p (rows b) ≡ true
        → (x y : Result (List Row) StepFault) → all_stepped a.kind p.steps (Ok (rows a)) ≡ x → all_stepped b.kind p.steps (Ok (rows b)) ≡ y
        → AreLeftAlike a.kind (touched p) (rows a) (rows b) a.kind b.kind x y → AreAlike p.kind (touched p) moment a b (applied p moment a) (applied p moment b)
    alike few little (Err e) (Err f) first second agreed =
        rw (sym (refused p moment a (sym k) few (Because e) (sym first)), sym (refused p moment b (sym l) little (Because f) (sym second))) agreed
    alike few little (Ok xs) (Ok ys) first second agreed =
        let ended : AreAllEnded p.kind (touched p) (rows a) (rows b) xs ys = subst (λ x. AreAllEnded x (touched p) (rows a) (rows b) xs ys) k agreed.0 in
        let idle : list_any (is_unseen_writing p.kind) p.steps ≡ false → (v : AttributeUnit) → is_secret p.kind v ≡ true → (values v xs ≡ values v (rows a)) × (values v ys ≡ values v (rows b))
        = λ n v secret. (
          unwritten_stay a one p.steps may xs first (subst (λ x. list_any (is_unseen_writing x) p.steps ≡ false) (sym k) n) v (subst (λ x. is_secret x v ≡ true) (sym k) secret),
          unwritten_stay b other p.steps may_too ys second (subst (λ x. list_any (is_unseen_writing x) p.steps ≡ false) (sym l) n) v (subst (λ x. is_secret x v ≡ true) (sym l) secret),
        ) in
        let changed = same_changes p (rows a) (rows b) xs ys same ended idle in
        rw (finished_so p moment a (sym k) few xs (changes p (rows b) ys) (sym first) changed, finished_so p moment b (sym l) little ys (changes p (rows b) ys) (sym second) refl)
        (finished_alike xs ys (changes p (rows b) ys) first second ended agreed.1 agreed.2)
    alike few little (Ok xs) (Err f) first second agreed = absurd agreed
    alike few little (Err e) (Ok ys) first second agreed = absurd agreed

-- the law itself
pub patching_rests_on_its_units : PatchingRestsOnItsUnits
patching_rests_on_its_units p moment a b is one other k l agree =
    let agreed = same p moment a b is one other k l agree in
    let limits = limit_same p (rows a) (rows b) agreed in
    elim (cases_Bool (is_within_limit p (rows a))) [
      | inl few ↦
          alike p moment a b is one other k l agree few (sym limits ∙ few) _ _ refl refl
          (steps_alike (touched p) (rows a) (rows b) a b one other (l ∙ sym k) p.steps (may p moment a b is one other k l agree) (λ v t. t) (begun p moment a b is one other k l agree))
      | inr over ↦ rw (over_limit p moment a over, over_limit p moment b (sym limits ∙ over)) refl
    ]
