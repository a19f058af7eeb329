-- The rules of a pattern are told by their numbers.
use Rattle.std.proofs.Common.{◌≡◌, refl, sym, ap, ap₂, ◌∙◌, ℕ, ◌+◌, ◌<◌, Bool, true, false, List, [], ◌∷◌, map, arith, inl, inr}
use Rattle.std.specs.Prelude.{nat_eq, filter, None, Some, if◌then◌else◌}
use Rattle.std.specs.List.{list_any, enumerate_from}
use Rattle.std.proofs.lemmas.Bool.{cases_Bool, eq-eqb, ne_eqb}
use Rattle.scim_schema.specs.declared.Kind.{Kind}
use Rattle.scim_schema.specs.declared.Op.TheVariants.{Read}
use Rattle.scim_schema.specs.declared.Leaf.{Leaf}
use Rattle.scim_cell.specs.Content.{Content}
use Rattle.scim_policy.specs.declared.rules.Decision.{Decision}
use Rattle.scim_policy.specs.Rules.{Rule}
use Rattle.scim_policy.specs.Fits.{covers, covers_in, filtered_on, fits, paths_on}
use Rattle.scim_policy.specs.Patterns.{PatternRule, decision_of, decisions_of, filters_on, pattern, pattern_rules, up_to_whole}
use Rattle.scim_policy.proofs.PatternLemmas.{whole_first, partial_first}

-- the rule of a pattern that a numbered rule makes
abbrev made_of : Kind → Leaf → (ℕ × Rule) → PatternRule
made_of k l n =
    if list_any (covers l) (paths_on k n.1.paths)
    then record { decision = decision_of n; filters = None }
    else record { decision = decision_of n; filters = Some (filters_on l (filtered_on k n.1.paths)) }

-- the rule of a pattern with this decision, where rules are numbered from n; rule 0 is for all values
abbrev rule_with : Kind → Leaf → ℕ → List Rule → Decision → PatternRule
rule_with k l n [] d = record { decision = d; filters = None }
rule_with k l n (r ∷ rs) d = if nat_eq d.rule n then made_of k l (n, r) else rule_with k l (n + 1) rs d

module _ (c : Content) (l : Leaf) (keep : ℕ × Rule → Bool) where
  -- the pattern of the rules that pass a test, of rules numbered from n
  abbrev kept : ℕ → List Rule → List PatternRule
  kept n rs = up_to_whole c l (filter keep (enumerate_from n rs))

  -- a rule with a lower number isn't in it
  lower_apart : (m : ℕ) (r : Rule) (qs : List Rule) (n : ℕ) (rs : List Rule) → 0 < m → m < n
      → map (rule_with c.kind l m (r ∷ qs)) (decisions_of (kept n rs)) ≡ map (rule_with c.kind l (m + 1) qs) (decisions_of (kept n rs))
  lower_apart m r qs n [] some less =
      let other : nat_eq 0 m ≡ false = ne_eqb 0 m (λ same. omega (arith, some, same)) in
      rw other refl
  lower_apart m r qs n (q ∷ rs) some less =
      let other : nat_eq n m ≡ false = ne_eqb n m (λ same. omega (arith, less, same)) in
      elim (cases_Bool (keep (n, q))) [
        | inl is ↦ elim (cases_Bool (covers_in c l q)) [
          | inl whole ↦ rw (is, whole_first c l (n, q) (filter keep (enumerate_from (n + 1) rs)) whole, other) refl
          | inr part ↦ rw (is, partial_first c l (n, q) (filter keep (enumerate_from (n + 1) rs)) part, other)
              (ap (λ (more : List PatternRule). rule_with c.kind l (m + 1) qs (decision_of (n, q)) ∷ more) (lower_apart m r qs (n + 1) rs some (omega (arith, less))))
        ]
        | inr gone ↦ rw gone (lower_apart m r qs (n + 1) rs some (omega (arith, less)))
      ]

  rules_by_number : (n : ℕ) (rs : List Rule) → 0 < n → map (rule_with c.kind l n rs) (decisions_of (kept n rs)) ≡ kept n rs
  rules_by_number n [] some = refl
  rules_by_number n (r ∷ rs) some =
      let own : nat_eq n n ≡ true = eq-eqb n n refl in
      let rest : map (rule_with c.kind l n (r ∷ rs)) (decisions_of (kept (n + 1) rs)) ≡ kept (n + 1) rs =
      lower_apart n r rs (n + 1) rs some (omega arith) ∙ rules_by_number (n + 1) rs (omega arith) in
      elim (cases_Bool (keep (n, r))) [
        | inl is ↦ elim (cases_Bool (covers_in c l r)) [
          | inl whole ↦ rw (is, whole_first c l (n, r) (filter keep (enumerate_from (n + 1) rs)) whole, own, whole) refl
          | inr part ↦ rw (is, partial_first c l (n, r) (filter keep (enumerate_from (n + 1) rs)) part, own, part)
              (ap (λ (more : List PatternRule). record { decision = decision_of (n, r); filters = Some (filters_on l (filtered_on c.kind r.paths)) } ∷ more) rest)
        ]
        | inr gone ↦ rw gone rest
      ]

numbered_pattern : (policy : List Rule) (client : List ℕ) (c : Content) (l : Leaf) → map (rule_with c.kind l 1 policy) (pattern policy client c l) ≡ pattern_rules policy client c l
unfolding pattern_rules
numbered_pattern policy client c l = rules_by_number c l (λ (numbered : ℕ × Rule). fits client Read c l numbered.1) 1 policy (omega arith)

-- on resources of one kind, patterns with the same decisions have the same rules
pub same_decisions_same_rules : (policy : List Rule) (client : List ℕ) (a b : Content) (l : Leaf) → a.kind ≡ b.kind → pattern policy client a l ≡ pattern policy client b l → pattern_rules policy client a l ≡ pattern_rules policy client b l
same_decisions_same_rules policy client a b l kinds same =
    sym (numbered_pattern policy client a l)
    ∙ ap₂ (λ (k : Kind) (ds : List Decision). map (rule_with k l 1 policy) ds) kinds same
    ∙ numbered_pattern policy client b l
