-- The least rule that fits decides.
use Rattle.std.proofs.Common.{◌≡◌, ◌≢◌, ◌⊎◌, refl, sym, ◌∙◌, ap, subst, ℕ, suc, ◌+◌, Bool, true, false, List, [], ◌∷◌, ◌++◌, length, inl, inr, arith}
use Rattle.std.specs.Prelude.{filter}
use Rattle.std.specs.List.{list_any, enumerate_from}
use Rattle.std.proofs.lemmas.Bool.{cases_Bool}
use Rattle.std.proofs.lemmas.List.Elements.{filter_agree}
use Rattle.std.proofs.Math.Bool.{or-false}
use Rattle.scim_schema.specs.declared.Op.{Op}
use Rattle.scim_schema.specs.declared.Op.TheVariants.{Create, Read, Modify, Delete}
use Rattle.scim_schema.specs.declared.Leaf.{Leaf}
use Rattle.scim_cell.specs.Content.{Content}
use Rattle.scim_policy.specs.declared.rules.Decision.{Decision}
use Rattle.scim_policy.specs.Rules.{Rule}
use Rattle.scim_policy.specs.Fits.{is_reading, covers_in, covers_partly, fits, fits_wholly, first_of, decide_wholly}
use Rattle.scim_policy.specs.Decide.{decide}
use Rattle.scim_policy.specs.PatternLaws.{is_plain}
use Rattle.scim_policy.specs.Patterns.{up_to_whole, decisions_of, first_or_denied, pattern_rules}
use Rattle.scim_policy.proofs.Facts.{decide_other, plain_once}
use Rattle.scim_headline.specs.Headline.{IsOfLeast, LeastRulesDecide}

module _ (test : Rule → Bool) where
  -- the decision is that of the least rule that passes the test, counted from k
  abbrev IsOfLeastFrom : ℕ → List Rule → Decision → Type 0
  IsOfLeastFrom k policy decision =
      ((before : List Rule) × (rule : Rule) × (behind : List Rule)
      × (policy ≡ before ++ rule ∷ behind) × (list_any test before ≡ false) × (test rule ≡ true)
      × (decision ≡ record { rule = k + length before; allow = rule.allow }))
      ⊎ ((list_any test policy ≡ false) × (decision ≡ record { rule = 0; allow = false }))

  -- one rule more, that doesn't pass, in front
  one_more : (k : ℕ) (r : Rule) (rs : List Rule) (d : Decision) → test r ≡ false → IsOfLeastFrom (k + 1) rs d → IsOfLeastFrom k (r ∷ rs) d
  one_more k r rs d fails (inl (before, rule, behind, is, none, passes, e)) =
      let count : k + 1 + length before ≡ k + length (r ∷ before) = omega arith in
      inl (r ∷ before, rule, behind, ap (λ xs. r ∷ xs) is, rw fails none, passes, e ∙ (λ i. record { rule = count i; allow = rule.allow }))
  one_more k r rs d fails (inr (none, e)) = inr (rw fails none, e)

  -- the first of the numbered rules that pass is the least
  least_from : (k : ℕ) (policy : List Rule) → IsOfLeastFrom k policy (first_of (filter (λ (numbered : ℕ × Rule). test numbered.1) (enumerate_from k policy)))
  least_from k [] = inr (refl, refl)
  least_from k (r ∷ rs) = elim (cases_Bool (test r)) [
    | inl passes ↦
        let count : k ≡ k + length {A = Rule} [] = omega arith in
        let first : first_of (filter (λ (numbered : ℕ × Rule). test numbered.1) (enumerate_from k (r ∷ rs))) ≡ record { rule = k; allow = r.allow } = rw passes refl in
        inl ([], r, rs, refl, refl, passes, first ∙ (λ i. record { rule = count i; allow = r.allow }))
    | inr fails ↦
        let rest = least_from (k + 1) rs in
        let same : first_of (filter (λ (numbered : ℕ × Rule). test numbered.1) (enumerate_from (k + 1) rs))
        ≡ first_of (filter (λ (numbered : ℕ × Rule). test numbered.1) (enumerate_from k (r ∷ rs))) = rw fails refl in
        one_more k r rs _ fails (subst (IsOfLeastFrom (k + 1) rs) same rest)
  ]

  -- counted from 1
  from_one : (policy : List Rule) (d : Decision) → IsOfLeastFrom 1 policy d → IsOfLeast test policy d
  from_one policy d (inl (before, rule, behind, is, none, passes, e)) =
      let count : 1 + length before ≡ suc (length before) = omega arith in
      inl (before, rule, behind, is, none, passes, e ∙ (λ i. record { rule = count i; allow = rule.allow }))
  from_one policy d (inr (none, e)) = inr (none, e)

-- no other operation than reading is decided by value
not_reading : (op : Op) → op ≢ Read → is_reading op ≡ false
not_reading Create other = refl
not_reading Read other = absurd (other refl)
not_reading Modify other = refl
not_reading Delete other = refl

not_partly : (op : Op) (c : Content) (leaf : Leaf) (r : Rule) → op ≢ Read → covers_partly op c leaf r ≡ false
not_partly Create c leaf r other = refl
not_partly Read c leaf r other = absurd (other refl)
not_partly Modify c leaf r other = refl
not_partly Delete c leaf r other = refl

-- so a rule that fits covers the leaf at all values
fits_as_wholly : (client : List ℕ) (op : Op) (c : Content) (leaf : Leaf) → op ≢ Read → (r : Rule) → fits_wholly client op c leaf r ≡ fits client op c leaf r
fits_as_wholly client op c leaf other r = rw (not_partly op c leaf r other, or-false (covers_in c leaf r)) refl

other_least : (policy : List Rule) (client : List ℕ) (op : Op) (c : Content) (leaf : Leaf) → op ≢ Read → IsOfLeast (fits client op c leaf) policy (decide policy client op c leaf)
unfolding decide_wholly
other_least policy client op c leaf other =
    let test = fits client op c leaf in
    let wholly : decide policy client op c leaf ≡ decide_wholly policy client op c leaf = decide_other policy client op c leaf (not_reading op other) in
    let alike : decide_wholly policy client op c leaf ≡ first_of (filter (λ (numbered : ℕ × Rule). test numbered.1) (enumerate_from 1 policy))
    = ap first_of (filter_agree _ _ (λ (numbered : ℕ × Rule). fits_as_wholly client op c leaf other numbered.1) (enumerate_from 1 policy)) in
    from_one test policy _ (subst (IsOfLeastFrom test 1 policy) (sym (wholly ∙ alike)) (least_from test 1 policy))

-- ---- reading

-- a pattern begins with the decision of the first rule that fits
pattern_head : (c : Content) (leaf : Leaf) (numbered : List (ℕ × Rule)) → first_or_denied (decisions_of (up_to_whole c leaf numbered)) ≡ first_of numbered
pattern_head c leaf [] = refl
pattern_head c leaf (n ∷ ns) = elim (cases_Bool (covers_in c leaf n.1)) [
  | inl t ↦ rw t refl
  | inr f ↦ rw f refl
]

-- without value filters it is all of the pattern
reading_least : (policy : List Rule) (client : List ℕ) (c : Content) (leaf : Leaf) → is_plain policy ≡ true → IsOfLeast (fits client Read c leaf) policy (decide policy client Read c leaf)
unfolding pattern_rules
reading_least policy client c leaf plain =
    let test = fits client Read c leaf in
    let first : decide policy client Read c leaf ≡ first_of (filter (λ (numbered : ℕ × Rule). test numbered.1) (enumerate_from 1 policy))
    = ap first_or_denied (sym (plain_once policy client c leaf plain).one) ∙ pattern_head c leaf (filter (λ (numbered : ℕ × Rule). test numbered.1) (enumerate_from 1 policy)) in
    from_one test policy _ (subst (IsOfLeastFrom test 1 policy) (sym first) (least_from test 1 policy))

plain_least : (policy : List Rule) (client : List ℕ) (op : Op) (c : Content) (leaf : Leaf) → is_plain policy ≡ true → IsOfLeast (fits client op c leaf) policy (decide policy client op c leaf)
plain_least policy client Read c leaf plain = reading_least policy client c leaf plain
plain_least policy client Create c leaf plain = other_least policy client Create c leaf (λ e. cc)
plain_least policy client Modify c leaf plain = other_least policy client Modify c leaf (λ e. cc)
plain_least policy client Delete c leaf plain = other_least policy client Delete c leaf (λ e. cc)

pub least_rules_decide : LeastRulesDecide
least_rules_decide policy client op c leaf (inl other) = other_least policy client op c leaf other
least_rules_decide policy client op c leaf (inr plain) = plain_least policy client op c leaf plain
