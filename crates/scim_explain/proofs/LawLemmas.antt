-- What explanations tell of the rules before the deciding one.
use Rattle.std.proofs.Common.{◌≡◌, refl, sym, ap, ◌∙◌, subst, ℕ, ◌+◌, ◌-◌, Bool, false, List, [], ◌∷◌, length, map, take, inl, inr, arith, eqb-true}
use Rattle.std.specs.Prelude.{All, ◌==◌, ◌⊎◌, filter, if◌then◌else◌}
use Rattle.std.specs.List.{before_first, enumerate_from}
use Rattle.std.proofs.lemmas.Bool.{cases_Bool}
use Rattle.std.proofs.lemmas.List.{length-map}
use Rattle.scim_schema.specs.declared.Op.{Op}
use Rattle.scim_schema.specs.declared.Leaf.{Leaf}
use Rattle.scim_cell.specs.Content.{Content}
use Rattle.scim_policy.specs.declared.rules.Decision.{Decision}
use Rattle.scim_policy.specs.Rules.{Rule}
use Rattle.scim_policy.specs.Fits.{decide_wholly, fits_wholly, first_of}
use Rattle.scim_explain.specs.Explain.{entry_of, explained}
use Rattle.scim_explain.specs.Laws.{rules_before}
use Rattle.scim_explain.proofs.ListLemmas.{front_fails, front_passes, left_out, none_passes}

-- what the first of numbered rules decides that passes
abbrev first_passing : (Rule → Bool) → ℕ → List Rule → Decision
first_passing p n rs = first_of (filter (λ (numbered : ℕ × Rule). p numbered.1) (enumerate_from n rs))

-- where none passes its number is 0, and all are before it
abbrev None_passes : (Rule → Bool) → ℕ → List Rule → Type 0
None_passes p n rs = ((first_passing p n rs).rule ≡ 0) × (before_first p rs ≡ rs)

-- else it has the number behind those before it
abbrev One_passes : (Rule → Bool) → ℕ → List Rule → Type 0
One_passes p n rs = ((first_passing p n rs).rule ≡ n + length (before_first p rs)) × (take (length (before_first p rs)) rs ≡ before_first p rs)

first_number : (p : Rule → Bool) (n : ℕ) (rs : List Rule) → None_passes p n rs ⊎ One_passes p n rs
first_number p n [] = inl (refl, refl)
first_number p n (r ∷ rs) = elim (cases_Bool (p r)) [
  | inl t ↦ (
      let front : before_first p (r ∷ rs) ≡ [] = front_passes p r rs t in
      let here : (first_passing p n (r ∷ rs)).rule ≡ n = rw t refl in
      inr (omega (arith, here, ap length front), ap (λ (qs : List Rule). take (length qs) (r ∷ rs)) front ∙ sym front)
      )
  | inr f ↦ (
      let front : before_first p (r ∷ rs) ≡ r ∷ before_first p rs = front_fails p r rs f in
      let same : first_passing p n (r ∷ rs) ≡ first_passing p (n + 1) rs = ap first_of (left_out p n r rs f) in
      elim (first_number p (n + 1) rs) [
        | inl none ↦ inl (ap (λ (d : Decision). d.rule) same ∙ none.0, front ∙ ap (λ (qs : List Rule). r ∷ qs) none.1)
        | inr one ↦ (
            let number : (first_passing p n (r ∷ rs)).rule ≡ n + 1 + length (before_first p rs) = ap (λ (d : Decision). d.rule) same ∙ one.0 in
            inr (omega (arith, number, ap length front), ap (λ (qs : List Rule). take (length qs) (r ∷ rs)) front ∙ ap (λ (qs : List Rule). r ∷ qs) one.1 ∙ sym front)
            )
      ]
      )
]

-- what is said of a number above 0
above_zero : {X : Type 0} (number n : ℕ) (whole : X) (part : ℕ → X) → number ≡ 1 + n → (if number == 0 then whole else part (number - 1)) ≡ part n
above_zero number n whole part e = elim (cases_Bool (number == 0)) [
  | inl z ↦ absurd (let zero : number ≡ 0 = eqb-true number 0 z in omega (arith, zero, e))
  | inr more ↦ rw more (ap part (omega (arith, e)))
]

module _ (policy : List Rule) (client : List ℕ) (op : Op) (c : Content) (l : Leaf) where
  abbrev front : List Rule
  front = before_first (fits_wholly client op c l) policy

  -- the rules that an explanation tells of are those before the first that fits and covers the leaf at all values
  before_is : rules_before policy (explained policy client op c l) ≡ front
  unfolding decide_wholly
  before_is = elim (first_number (fits_wholly client op c l) 1 policy) [ inl none ↦ rw none.0 (sym none.1) | inr one ↦ above_zero (explained policy client op c l).decision.rule (length front) policy (λ n. take n policy) one.0 ∙ one.1 ]

  pub as_many : length (explained policy client op c l).entries ≡ (if (explained policy client op c l).decision.rule == 0 then length policy else (explained policy client op c l).decision.rule - 1)
  unfolding decide_wholly
  as_many = length-map front (entry_of client op c l) ∙ elim (first_number (fits_wholly client op c l) 1 policy) [ inl none ↦ rw none.0 (ap length none.1) | inr one ↦ sym (above_zero (explained policy client op c l).decision.rule (length front) (length policy) (λ n. n) one.0) ]

  pub own_entries : (explained policy client op c l).entries ≡ map (entry_of client op c l) (rules_before policy (explained policy client op c l))
  own_entries = ap (map (entry_of client op c l)) (sym before_is)

  pub none_fits_wholly : All (λ r. fits_wholly client op c l r ≡ false) (rules_before policy (explained policy client op c l))
  none_fits_wholly = subst (All (λ r. fits_wholly client op c l r ≡ false)) (sym before_is) (none_passes (fits_wholly client op c l) policy)
