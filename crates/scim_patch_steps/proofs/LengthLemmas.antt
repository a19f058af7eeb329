-- After a change that only takes values away, or puts some behind them, as many values as before are the same ones.
use Rattle.std.proofs.Common.{◌≡◌, ◌≤◌, ◌∙◌, Bool, true, false, refl, sym, ap, subst, arith, inl, inr, List, [], ◌∷◌, ◌++◌, length, filter, map, Some, None}
use Rattle.std.specs.Prelude.{All, Contains, Ok, not, ◌||◌, ◌==◌, if◌then◌else◌}
use Rattle.std.specs.List.{list_any, flat_map}
use Rattle.std.specs.Cmp.{unsigned_Decides}
use Rattle.std.specs.Cmp.Lexicographic.{pointwise_decides}
use Rattle.std.specs.Ordering.{is_eq}
use Rattle.std.proofs.lemmas.Bool.{cases_Bool, or_parts, not-true}
use Rattle.std.proofs.lemmas.List.{length-append, nil_from_length}
use Rattle.std.proofs.lemmas.List.Elements.{All-filter, All-head, All-weaker}
use Rattle.std.proofs.lemmas.List.Sums.{length-filter, count_by-le-length}
use Rattle.scim_schema.specs.declared.Kind.{Kind}
use Rattle.scim_schema.specs.declared.Attribute.{Attribute}
use Rattle.scim_schema.specs.declared.Unit.{Unit as AttributeUnit}
use Rattle.scim_schema.specs.Units.{units}
use Rattle.scim_cell.specs.Content.{Content}
use Rattle.scim_cell.specs.Equality.{is_same_row-Decides}
use Rattle.scim_cell.specs.Place.{unit_cmp}
use Rattle.scim_cell.specs.Rows.{Row, rows, values, has_fields, is_primary, IsValue}
use Rattle.scim_value.specs.Resource.{IsResource}
use Rattle.scim_value.proofs.Facts.{sound_part}
use Rattle.scim_change.specs.Agreement.{are_same_values}
use Rattle.scim_change.proofs.Facts.{values_put}
use Rattle.scim_cell.specs.SameValues.{is_same_value, with_value, with_values}
use Rattle.scim_filter.specs.Truth.{truth_in_value}
use Rattle.scim_patch_values.specs.Matches.{kept, marked, given_primary, is_listed}
use Rattle.scim_patch_steps.specs.Changes.{StepChange, Keep, KeepMatches, KeepSubAttribute, Append, Replace, Clear, RemoveListed, AddToMatches, ReplaceMatches, RemoveMatches, AddAtMatches, SetAtMatches, ClearAtMatches, SetEverywhere, ClearEverywhere}
use Rattle.scim_patch_steps.specs.Table.{row}
use Rattle.scim_patch_steps.specs.Steps.{is_forbidden, gives_two_primary, settled, judged, after}
use Rattle.scim_patch_steps.specs.Patch.{Step, Pathless, Of, Patch, AreGivenValues, MayBeMade, IsStep, IsPatch, units_in, touched, stepped, all_stepped, is_unseen_writing, changes}
use Rattle.scim_patch_steps.specs.code.Touched.{is_other}
use Rattle.scim_patch_steps.specs.code.Lengths.{is_told_by_length, unit_told_among}
use Rattle.scim_patch_steps.specs.declared.touched_units.Before.{Before}
use Rattle.scim_patch_steps.specs.declared.touched_units.Before.TheVariants.{Number, Rows}
use Rattle.scim_patch_steps.specs.code.Before.{IsBefore, tells}
use Rattle.scim_patch_steps.proofs.UnitLemmas.{rows_alike}
use Rattle.scim_patch_steps.proofs.ApplyLemmas.{changes_same}
use Rattle.scim_patch_steps.proofs.Outcomes.{not_refused}
use Rattle.scim_patch_steps.proofs.SingleLemmas.{kept_left, nothing_left}
use Rattle.scim_patch_steps.proofs.SoundLemmas.{with_all}
use Rattle.scim_patch_steps.proofs.StepLemmas.{found, stands}

-- ---- lists

-- as many elements as there are pass a test only if all do
all_pass : {X : Type 0} (p : X → Bool) (xs : List X) → length (filter p xs) ≡ length xs → filter p xs ≡ xs
all_pass p [] h = refl
all_pass p (x ∷ xs) h = elim (cases_Bool (p x)) [
  | inl t ↦ rw t (let n : length (x ∷ filter p xs) ≡ length (x ∷ xs) = rw t at h in ap (λ ys. x ∷ ys) (all_pass p xs (omega (arith, n))))
  | inr f ↦ absurd (let n : length (filter p xs) ≡ length (x ∷ xs) = rw f at h in omega (arith, n, length-filter p xs, count_by-le-length p xs))
]

-- where not any passes a test, none is left of them
none_left : {X : Type 0} (p : X → Bool) (xs : List X) → list_any p xs ≡ false → filter p xs ≡ []
none_left p [] h = refl
none_left p (x ∷ xs) h = let parts = or_parts (p x) (list_any p xs) h in rw parts.0 (none_left p xs parts.1)

-- ---- values and more of them

-- no value is lost by putting one behind them
one_more : (a : Attribute) (rs : List Row) (r : Row) → length rs ≤ length (with_value a rs r)
one_more a rs r = go (list_any (λ s. is_same_value a s r) rs)
  where
    go : (b : Bool) → length rs ≤ length (if b then rs else rs ++ r ∷ [])
    go true = omega arith
    go false = omega (arith, length-append rs (r ∷ []))

-- nor by putting several
no_fewer : (a : Attribute) (rs more : List Row) → length rs ≤ length (with_values a rs more)
no_fewer a rs [] = omega arith
no_fewer a rs (r ∷ more) = omega (arith, one_more a rs r, no_fewer a (with_value a rs r) more)

-- where they are as many afterwards, none was put behind them
none_more : (a : Attribute) (rs more : List Row) → length (with_values a rs more) ≡ length rs → with_values a rs more ≡ rs
none_more a rs [] h = refl
none_more a rs (r ∷ more) h = elim (cases_Bool (list_any (λ s. is_same_value a s r) rs)) [
  | inl t ↦ rw t (none_more a rs more (rw t at h))
  | inr f ↦ absurd (let more_of : length (with_values a (rs ++ r ∷ []) more) ≡ length rs = rw f at h in omega (arith, more_of, no_fewer a (rs ++ r ∷ []) more, length-append rs (r ∷ [])))
]

-- ---- what is left

-- all values that a client gives of a unit have fields
all_full : (kind : Kind) (u : AttributeUnit) (vs : List Row) → AreGivenValues kind u vs → All (λ r. has_fields r ≡ true) vs
all_full kind u vs given = All-weaker (IsValue kind u) (λ r. has_fields r ≡ true) (λ r own. own.1) vs given.own.own

-- of values that are put behind others none is chosen, where none of them is primary
left_unmarked : (a : Attribute) (given vs : List Row) → not (list_any is_primary given) ≡ true → map (marked a (given_primary a given)) vs ≡ map kept vs
left_unmarked a given vs told = ap (λ (ps : List Row). map (marked a (with_values a [] ps)) vs) (none_left is_primary given (not-true (list_any is_primary given) told))

-- the values that pass a test are all that there are, where as many are left
filter_left : (a : Attribute) (p : Row → Bool) (vs ws : List Row) → All (λ r. has_fields r ≡ true) vs → settled a (Some (map kept (filter p vs))) ≡ Ok ws → length ws ≡ length vs → ws ≡ vs
filter_left a p vs ws full h same =
    let left = kept_left a (filter p vs) ws (All-filter p (λ r. has_fields r ≡ true) vs full) h in
    sym left ∙ all_pass p vs (ap (λ (rs : List Row). length rs) left ∙ same)

-- values and more of them are what there was, where they are as many
appended_left : (kind : Kind) (u : AttributeUnit) (given vs ws : List Row) → not (list_any is_primary given) ≡ true → AreGivenValues kind u given → All (λ r. has_fields r ≡ true) vs
    → settled u.attribute (row u (Append given) vs) ≡ Ok ws → length ws ≡ length vs → ws ≡ vs
appended_left kind u given vs ws told own full h same =
    let values = with_values u.attribute vs given in
    let unmarked : settled u.attribute (Some (map kept values)) ≡ Ok ws = ap (λ ps. settled u.attribute (Some ps)) (sym (left_unmarked u.attribute given values told)) ∙ h in
    let left = kept_left u.attribute values ws (with_all (λ r. has_fields r ≡ true) u.attribute vs given full (all_full kind u given own)) unmarked in
    sym left ∙ none_more u.attribute vs given (ap (λ (rs : List Row). length rs) left ∙ same)

-- after a change that the number of values tells about, as many values as before are the same ones
pub same_by_length : (kind : Kind) (u : AttributeUnit) (change : StepChange) (vs ws : List Row) → is_told_by_length change ≡ true → MayBeMade kind u change → All (λ r. has_fields r ≡ true) vs
    → after kind u change vs ≡ Ok ws → length ws ≡ length vs → ws ≡ vs
same_by_length kind u change vs ws told may full h same =
    let allowed = not_refused (is_forbidden kind u change vs) _ (judged u.attribute change (row u change vs)) ws h in
    let single = not_refused (gives_two_primary u.attribute change) _ (settled u.attribute (row u change vs)) ws allowed.1 in
    go change told may single.1
  where
    go : (c : StepChange) → is_told_by_length c ≡ true → MayBeMade kind u c → settled u.attribute (row u c vs) ≡ Ok ws → ws ≡ vs
    go Keep t m e = sym (kept_left u.attribute vs ws full e)
    go (KeepMatches p) t m e = sym (kept_left u.attribute vs ws full e)
    go (KeepSubAttribute b) t m e = sym (kept_left u.attribute vs ws full e)
    go (Append given) t m e = appended_left kind u given vs ws t m.1 full e same
    go Clear t m e =
        let none = nothing_left u.attribute ws e in
        sym none ∙ sym (nil_from_length vs (sym same ∙ ap (λ (rs : List Row). length rs) (sym none)))
    go (RemoveListed texts) t m e = filter_left u.attribute (λ r. not (is_listed texts r)) vs ws full e same
    go (RemoveMatches p) t m e = filter_left u.attribute (λ r. not (truth_in_value p r)) vs ws full e same
    go (Replace given) t m e = absurd (cc t)
    go (AddToMatches p fs) t m e = absurd (cc t)
    go (ReplaceMatches p fs) t m e = absurd (cc t)
    go (AddAtMatches p f) t m e = absurd (cc t)
    go (SetAtMatches p f) t m e = absurd (cc t)
    go (ClearAtMatches p b) t m e = absurd (cc t)
    go (SetEverywhere f) t m e = absurd (cc t)
    go (ClearEverywhere b) t m e = absurd (cc t)

-- ---- one step

-- two tests of two lists agree where the number of values tells whether they are others
numbers_tell : (vs ws : List Row) → (length ws ≡ length vs → ws ≡ vs) → not (are_same_values vs ws) ≡ not (length ws == length vs)
numbers_tell vs ws told = elim (cases_Bool (length ws == length vs)) [
  | inl t ↦
      let equal = told ((unsigned_Decides (length ws) (length vs)).0 t) in
      let same : are_same_values vs ws ≡ true = (pointwise_decides is_same_row-Decides vs ws).1 (sym equal) in rw (t, same) refl
  | inr n ↦ elim (cases_Bool (are_same_values vs ws)) [
    | inl s ↦
        let same = (pointwise_decides is_same_row-Decides vs ws).0 s in
        absurd (let t : (length ws == length vs) ≡ true = (unsigned_Decides (length ws) (length vs)).1 (ap (λ (rs : List Row). length rs) (sym same)) in cc)
    | inr d ↦ rw (n, d) refl
  ]
]

module _ (c : Content) (own : IsResource c) (left : List Row) where
  one_step : (v : AttributeUnit) (change : StepChange) → is_told_by_length change ≡ true → Contains (units c.kind) v → MayBeMade c.kind v change
      → Ok left ≡ stepped c.kind (Of v change) (rows c) → is_other (rows c) left v ≡ not (length (values v left) == length (values v (rows c)))
  one_step v change told there may h =
      let out = found c own v there change may left h in
      let stand = stands c own v there change may left h in
      let units = All-weaker (IsValue c.kind v) (λ (r : Row). r.unit ≡ v) (λ r o. o.0) out.0 stand.own.own in
      let after : values v left ≡ out.0 = ap (values v) out.2 ∙ values_put v out.0 (rows c) units in
      let full = All-filter (λ (r : Row). is_eq (unit_cmp r.unit v)) (λ r. has_fields r ≡ true) (rows c) (sound_part c own.part).full in
      numbers_tell (values v (rows c)) (values v left)
      (λ l. after ∙ same_by_length c.kind v change (values v (rows c)) out.0 told may full out.1 (ap (λ (rs : List Row). length rs) (sym after) ∙ l))

  or_no : (b : Bool) → (b || false) ≡ b
  or_no true = refl
  or_no false = refl

  by_steps : (u : AttributeUnit) (steps : List Step) → unit_told_among steps ≡ Some u → All (IsStep c.kind) steps → Ok left ≡ all_stepped c.kind steps (Ok (rows c))
      → list_any (is_other (rows c) left) (flat_map units_in steps) ≡ not (length (values u left) == length (values u (rows c)))
  by_steps u [] told may h = absurd (cc told)
  by_steps u (Pathless ∷ steps) told may h = absurd (cc told)
  by_steps u (Of v change ∷ s ∷ steps) told may h = absurd (cc told)
  by_steps u (Of v change ∷ []) told may h = elim (cases_Bool (is_told_by_length change)) [
    | inl t ↦
        let first = All-head (IsStep c.kind) (Of v change) [] may in
        let same : v ≡ u = (let e : Some v ≡ Some u = rw t at told in cc) in
        or_no (is_other (rows c) left v) ∙ one_step v change t first.0 first.1 h ∙ ap (λ w. not (length (values w left) == length (values w (rows c)))) same
    | inr n ↦ absurd (let e : None ≡ Some u = rw n at told in cc)
  ]

-- so what was kept of a resource tells whether a patch changed something
pub tells_change : (p : Patch) (c d : Content) → IsResource c → p.kind ≡ c.kind → IsPatch p → Ok (rows d) ≡ all_stepped c.kind p.steps (Ok (rows c))
    → (b : Before) → IsBefore p (rows c) b → tells p (rows d) b ≡ changes p (rows c) (rows d)
tells_change p c d own of_kind may h (Number u n) is =
    let number = by_steps c own (rows d) u p.steps is.0 (subst (λ k. All (IsStep k) p.steps) of_kind may) h in
    ap (λ b. list_any (is_unseen_writing p.kind) p.steps || b) (ap (λ m. not (length (values u (rows d)) == m)) is.1 ∙ sym number)
tells_change p c d own of_kind may h (Rows us v) is =
    let kept = is.1 ∙ rows_alike us.items (touched p) (rows c) is.0 in
    ap (λ b. list_any (is_unseen_writing p.kind) p.steps || b) (is.0 (is_other v.items (rows d))) ∙ ap (λ rs. changes p rs (rows d)) kept ∙ changes_same p (rows c) (rows d)
