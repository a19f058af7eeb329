-- The first lost unit that passes a test, and how many more do.
use Rattle.std.proofs.Common.{◌≡◌, refl, sym, ap, ◌∙◌, ℕ, ◌-◌, ◌≤◌, Bool, List, [], ◌∷◌, length, inl, inr, arith}
use Rattle.std.specs.Prelude.{Some, filter, find, option_map}
use Rattle.std.proofs.lemmas.Bool.{cases_Bool}
use Rattle.scim_policy_warnings.specs.declared.losses.LostUnit.{LostUnit}
use Rattle.scim_policy_warnings.specs.declared.losses.Loss.{Loss}
use Rattle.scim_policy_warnings.specs.declared.losses.Scope.TheVariants.{OneUnit}
use Rattle.scim_policy_warnings.specs.Warnings.{first_lost}

-- the loss of a unit, where so many are lost
abbrev pub loss_among : ℕ → LostUnit → Loss
loss_among count u = record { scope = OneUnit u.unit (count - 1); missing = u.missing }

module _ (p : LostUnit → Bool) where
  pub first_of_lost : (us : List LostUnit) → first_lost (filter p us) ≡ option_map (loss_among (length (filter p us))) (find p us)
  first_of_lost [] = refl
  first_of_lost (u ∷ us) = elim (cases_Bool (p u)) [
    | inl t ↦ (
        let behind : length (filter p us) ≡ length (u ∷ filter p us) - 1 = omega arith in
        rw t (ap (λ (n : ℕ). Some (record { scope = OneUnit u.unit n; missing = u.missing })) behind)
        )
    | inr f ↦ rw f (first_of_lost us)
  ]

  -- where one passes, at least one does
  pub some_pass : (us : List LostUnit) (u : LostUnit) → find p us ≡ Some u → 1 ≤ length (filter p us)
  some_pass [] u e = cc
  some_pass (v ∷ us) u e = elim (cases_Bool (p v)) [
    | inl t ↦ (let kept : filter p (v ∷ us) ≡ v ∷ filter p us = rw t refl in omega (arith, ap length kept))
    | inr f ↦ (
        let found : find p (v ∷ us) ≡ find p us = rw f refl in
        let kept : filter p (v ∷ us) ≡ filter p us = rw f refl in
        let rest = some_pass us u (sym found ∙ e) in
        omega (arith, ap length kept, rest)
        )
  ]
