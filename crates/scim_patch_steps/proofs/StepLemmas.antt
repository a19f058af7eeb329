-- A resource stays one after a step.
use Rattle.std.proofs.Common.{◌≡◌, ℕ, refl, sym, ◌∙◌, ap, subst, true, false, inl, inr, List}
use Rattle.std.specs.Prelude.{Contains, Result, Ok, Err}
use Rattle.std.proofs.lemmas.Bool.{cases_Bool, or_parts}
use Rattle.scim_schema.specs.declared.Kind.{Kind}
use Rattle.scim_schema.specs.declared.Kind.TheVariants.{User, Group}
use Rattle.scim_schema.specs.declared.Unit.{Unit as AttributeUnit}
use Rattle.scim_schema.specs.Characteristics.{is_multi_valued}
use Rattle.scim_schema.specs.Mutability.{is_fixed}
use Rattle.scim_schema.specs.Units.{units}
use Rattle.scim_cell.specs.Content.{Content}
use Rattle.scim_cell.specs.Rows.{Row, rows, content, values, put_values, AreSound}
use Rattle.scim_value.specs.Resource.{IsResource, HasBase}
use Rattle.scim_value.proofs.Facts.{put_sound, sound_part}
use Rattle.scim_patch_steps.specs.declared.steps.StepFault.{StepFault}
use Rattle.scim_patch_steps.specs.declared.steps.StepFault.TheVariants as fault
use Rattle.scim_patch_steps.specs.Changes.{StepChange}
use Rattle.scim_patch_steps.specs.Table.{row}
use Rattle.scim_patch_steps.specs.Steps.{is_forbidden, is_barred, judged, after}
use Rattle.scim_patch_steps.specs.Patch.{MayBeMade, with_outcome}
use Rattle.scim_patch_steps.proofs.Stand.{NamesAs, MayStand}
use Rattle.scim_patch_steps.proofs.StandLemmas.{values_stand, put_stands, base_stays}
use Rattle.scim_patch_steps.proofs.Outcomes.{not_refused}
use Rattle.scim_patch_steps.proofs.PrimaryLemmas.{one_primary}
use Rattle.scim_patch_steps.proofs.SoundLemmas.{values_sound, after_left}
use Rattle.scim_patch_steps.proofs.SingleLemmas.{single_left}

-- no multi-valued attribute is what a kind is named by
many_names : (kind : Kind) (u : AttributeUnit) (vs : List Row) → is_multi_valued u.attribute ≡ true → NamesAs kind u vs
many_names User u vs many = λ e. absurd (let single : is_multi_valued u.attribute ≡ false = ap (λ (v : AttributeUnit). is_multi_valued v.attribute) e in let m = many in cc)
many_names Group u vs many = λ e. absurd (let single : is_multi_valued u.attribute ≡ false = ap (λ (v : AttributeUnit). is_multi_valued v.attribute) e in let m = many in cc)

-- what a step leaves of values that may stand may stand
pub after_stands : (kind : Kind) (u : AttributeUnit) (change : StepChange) (vs ws : List Row) → Contains (units kind) u
    → MayBeMade kind u change → MayStand kind u vs → after kind u change vs ≡ Ok ws → MayStand kind u ws
after_stands kind u change vs ws there may stands h = elim (cases_Bool (is_multi_valued u.attribute)) [
  | inl many ↦
      let left = after_left kind u change vs ws there many may (values_sound kind u vs stands.own stands.kept) h in
      record {
        own = left.own;
        kept = left.kept;
        named = left.named;
        one_primary = one_primary kind u change vs ws may stands.one_primary h;
        few = left.few;
        names = many_names kind u ws many;
      }
  | inr single ↦ single_left kind u change vs ws single may stands h
]

-- a unit that a step changed isn't readOnly
pub not_fixed : (kind : Kind) (u : AttributeUnit) (change : StepChange) (vs ws : List Row) → after kind u change vs ≡ Ok ws → is_fixed kind u ≡ false
not_fixed kind u change vs ws h =
    (or_parts (is_fixed kind u) (is_barred kind u change vs) (not_refused (is_forbidden kind u change vs) fault.Mutability (judged u.attribute change (row u change vs)) ws h).0).0

-- rows that a step leaves are those with the values that it leaves
pub left_by : (u : AttributeUnit) (rs left : List Row) (found : Result (List Row) StepFault) → Ok left ≡ with_outcome u rs found
    → (ws : List Row) × (found ≡ Ok ws) × (left ≡ put_values u ws rs)
left_by u rs left (Ok ws) h = (ws, refl, cc)
left_by u rs left (Err e) h = absurd (cc h)

module _ (c : Content) (own : IsResource c) (u : AttributeUnit) (there : Contains (units c.kind) u) (change : StepChange) (may : MayBeMade c.kind u change)
    (left : List Row) (h : Ok left ≡ with_outcome u (rows c) (after c.kind u change (values u (rows c)))) where
  abbrev pub found : (ws : List Row) × (after c.kind u change (values u (rows c)) ≡ Ok ws) × (left ≡ put_values u ws (rows c))
  found = left_by u (rows c) left (after c.kind u change (values u (rows c))) h

  free : is_fixed c.kind u ≡ false
  free = not_fixed c.kind u change (values u (rows c)) found.0 found.1

  pub stands : MayStand c.kind u found.0
  stands = after_stands c.kind u change (values u (rows c)) found.0 there may (values_stand c own u there free) found.1

  -- they are sound, and those of a resource with the same base
  pub left_sound : AreSound c.kind left
  left_sound = subst (AreSound c.kind) (sym found.2) (put_sound c.kind u found.0 (rows c) stands.own (sound_part c own.part))

  pub left_resource : IsResource (content c.kind c.id left)
  left_resource = subst (λ rs. IsResource (content c.kind c.id rs)) (sym found.2) (put_stands c own u there free found.0 stands)

  pub left_base : (base : List ℕ) → HasBase base c → HasBase base (content c.kind c.id left)
  left_base base has = subst (λ rs. HasBase base (content c.kind c.id rs)) (sym found.2) (base_stays c own u there free found.0 stands base has)

-- the same of a resource that was taken apart
pub left_of : (c : Content) → IsResource c → (k : Kind) (id : List ℕ) (rs : List Row) → k ≡ c.kind → id ≡ c.id → rs ≡ rows c
    → (u : AttributeUnit) → Contains (units c.kind) u → (change : StepChange) → MayBeMade c.kind u change
    → (left : List Row) → Ok left ≡ with_outcome u rs (after k u change (values u rs))
    → AreSound k left × IsResource (content k id left) × ((base : List ℕ) → HasBase base c → HasBase base (content k id left))
left_of c own k id rs kinds ids same u there change may left h =
    let whole : Ok left ≡ with_outcome u (rows c) (after c.kind u change (values u (rows c)))
    = h ∙ (λ i. with_outcome u (same i) (after (kinds i) u change (values u (same i)))) in
    let again : content c.kind c.id left ≡ content k id left = λ i. content (sym kinds i) (sym ids i) left in (
      subst (λ x. AreSound x left) (sym kinds) (left_sound c own u there change may left whole),
      subst IsResource again (left_resource c own u there change may left whole),
      λ base has. subst (HasBase base) again (left_base c own u there change may left whole base has),
    )
