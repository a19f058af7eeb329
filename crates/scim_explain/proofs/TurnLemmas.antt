-- The rules of a pattern fit, and none before them fits and covers the leaf at all values.
use Rattle.std.proofs.Common.{◌≡◌, refl, sym, subst, ℕ, zero, suc, ◌+◌, ◌<◌, Bool, true, false, List, [], ◌∷◌, get_or, inl, inr, arith}
use Rattle.std.specs.Prelude.{All, ◌⊎◌, filter}
use Rattle.std.proofs.lemmas.Bool.{cases_Bool}
use Rattle.std.proofs.lemmas.List.Elements.{All-nil, All-cons, All-head, All-tail, All-weaker}
use Rattle.scim_schema.specs.declared.Op.TheVariants.{Read}
use Rattle.scim_schema.specs.declared.Leaf.{Leaf}
use Rattle.scim_cell.specs.Content.{Content}
use Rattle.scim_policy.specs.declared.rules.Decision.{Decision}
use Rattle.scim_policy.specs.Rules.{Rule}
use Rattle.scim_policy.specs.Fits.{fits, fits_wholly}
use Rattle.scim_policy.specs.Patterns.{PatternRule, decisions_of, first_or_denied, pattern, pattern_rules}
use Rattle.scim_explain.proofs.ExplainLemmas.{whole_fits}
use Rattle.scim_explain.proofs.PartLemmas.{pattern_ends, pattern_from, pattern_goes_on, pattern_passes}

module _ (client : List ℕ) (c : Content) (l : Leaf) (r0 : Rule) where
  -- a number is 0, or that of a rule, numbered from n, that fits, and no rule before it fits and covers the leaf at
  -- all values
  abbrev pub FitsInTurn : ℕ → List Rule → ℕ → Type 0
  FitsInTurn n rs number =
      (number ≡ 0) ⊎ ((k : ℕ) × ((number ≡ n + k) × (fits client Read c l (get_or rs k r0) ≡ true) × ((i : ℕ) → i < k → fits_wholly client Read c l (get_or rs i r0) ≡ false)))

  first_in_turn : (n : ℕ) (r : Rule) (rs : List Rule) → fits client Read c l r ≡ true → FitsInTurn n (r ∷ rs) n
  first_in_turn n r rs fit = inr (0, (omega arith, fit, λ i less. absurd (omega (arith, less))))

  none_whole : (r : Rule) (rs : List Rule) (k : ℕ) → fits_wholly client Read c l r ≡ false → ((i : ℕ) → i < k → fits_wholly client Read c l (get_or rs i r0) ≡ false)
      → (i : ℕ) → i < suc k → fits_wholly client Read c l (get_or (r ∷ rs) i r0) ≡ false
  none_whole r rs k part before zero less = part
  none_whole r rs k part before (suc i) less = before i (omega (arith, less))

  later_in_turn : (n : ℕ) (r : Rule) (rs : List Rule) (number : ℕ) → fits_wholly client Read c l r ≡ false → FitsInTurn (n + 1) rs number → FitsInTurn n (r ∷ rs) number
  later_in_turn n r rs number part in_turn = elim in_turn [
    | inl none ↦ inl none
    | inr there ↦ inr (suc there.0, (omega (arith, there.1.0), there.1.1, none_whole r rs there.0 part there.1.2))
  ]

  all_in_turn : (n : ℕ) (rs : List Rule) → All (λ (d : Decision). FitsInTurn n rs d.rule) (pattern_from client c l n rs)
  all_in_turn n [] = All-cons (λ (d : Decision). FitsInTurn n [] d.rule) (record { rule = 0; allow = false }) [] (inl refl) (All-nil (λ (d : Decision). FitsInTurn n [] d.rule))
  all_in_turn n (r ∷ rs) =
      let P : Decision → Type 0 = λ (d : Decision). FitsInTurn n (r ∷ rs) d.rule in
      let later : fits_wholly client Read c l r ≡ false → All (λ (d : Decision). FitsInTurn n (r ∷ rs) d.rule) (pattern_from client c l (n + 1) rs) =
      λ part. All-weaker (λ (d : Decision). FitsInTurn (n + 1) rs d.rule) (λ (d : Decision). FitsInTurn n (r ∷ rs) d.rule) (λ d in_turn. later_in_turn n r rs d.rule part in_turn) (pattern_from client c l (n + 1) rs) (all_in_turn (n + 1) rs) in
      elim (cases_Bool (fits_wholly client Read c l r)) [
        | inl whole ↦ subst (All P) (sym (pattern_ends client c l n r rs whole)) (All-cons P _ [] (first_in_turn n r rs (whole_fits client Read c l r whole)) (All-nil P))
        | inr part ↦ elim (cases_Bool (fits client Read c l r)) [
          | inl fit ↦ subst (All P) (sym (pattern_goes_on client c l n r rs fit part)) (All-cons P _ _ (first_in_turn n r rs fit) (later part))
          | inr apart ↦ subst (All P) (sym (pattern_passes client c l n r rs apart)) (later part)
        ]
      ]

  pub pattern_in_turn : (policy : List Rule) → All (λ (d : Decision). FitsInTurn 1 policy d.rule) (pattern policy client c l)
  unfolding pattern_rules
  pattern_in_turn policy = all_in_turn 1 policy

-- ---- what a pattern decides

module _ (passes : PatternRule → Bool) (P : Decision → Type 0) where
  first_kept : (r : PatternRule) (rs : List PatternRule) → passes r ≡ true → first_or_denied (decisions_of (filter passes (r ∷ rs))) ≡ r.decision
  first_kept r rs is = rw is refl

  first_past : (r : PatternRule) (rs : List PatternRule) → passes r ≡ false → first_or_denied (decisions_of (filter passes (r ∷ rs))) ≡ first_or_denied (decisions_of (filter passes rs))
  first_past r rs other = rw other refl

  -- what is true of a denial by rule 0 and of all decisions of a pattern is true of the first of some of them
  pub first_is : (rs : List PatternRule) → P (record { rule = 0; allow = false }) → All P (decisions_of rs) → P (first_or_denied (decisions_of (filter passes rs)))
  first_is [] denied all = denied
  first_is (r ∷ rs) denied all = elim (cases_Bool (passes r)) [
    | inl there ↦ subst P (sym (first_kept r rs there)) (All-head P r.decision (decisions_of rs) all)
    | inr other ↦ subst P (sym (first_past r rs other)) (first_is rs denied (All-tail P r.decision (decisions_of rs) all))
  ]
