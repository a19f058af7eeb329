-- Idle rules, one after another, and that they never decide.
use Rattle.std.proofs.Common.{◌≡◌, refl, sym, subst, ap, ◌∙◌, ℕ, zero, suc, ◌+◌, ◌-◌, ◌<◌, ◌≤◌, Bool, true, false, List, [], ◌∷◌, ◌++◌, length, get_or, take, inl, inr, arith}
use Rattle.std.specs.Prelude.{All, Option, Some, None, ◌≢◌, not, filter, option_map, position}
use Rattle.std.specs.List.{filter_map, cons_option, enumerate_from}
use Rattle.std.proofs.lemmas.Bool.{cases_Bool}
use Rattle.std.proofs.lemmas.List.{get_or-take, length-take}
use Rattle.std.proofs.lemmas.List.Elements.{All-nil, All-cons, All-head, All-append, All-filter, All-weaker}
use Rattle.std.proofs.lemmas.List.FromFn.{get_or-enumerate_from, length-enumerate_from}
use Rattle.std.proofs.lemmas.List.Quantifiers.{position-Some}
use Rattle.scim_schema.specs.declared.Op.{Op}
use Rattle.scim_schema.specs.declared.Op.TheVariants.{Read}
use Rattle.scim_schema.specs.declared.Leaf.{Leaf}
use Rattle.scim_cell.specs.Content.{Content}
use Rattle.scim_policy.specs.declared.rules.Decision.{Decision}
use Rattle.scim_policy.specs.Rules.{Rule}
use Rattle.scim_policy.specs.Fits.{decide_wholly, first_of, fits, fits_wholly}
use Rattle.scim_policy.specs.Decide.{decide}
use Rattle.scim_policy.specs.Patterns.{decide_at, first_or_denied, pattern, pattern_rules, whole_decision}
use Rattle.scim_explain.specs.declared.never_deciding.IdleRule.{IdleRule}
use Rattle.scim_explain.specs.Idle.{covers_rule, idle_behind, idle_rules}
use Rattle.scim_explain.proofs.CoverLemmas.{covering_fits}
use Rattle.scim_explain.proofs.ExplainLemmas.{whole_fits}
use Rattle.scim_explain.proofs.TurnLemmas.{FitsInTurn, first_is, pattern_in_turn}
use Rattle.scim_explain.proofs.ListLemmas.{left_out}

-- the idle ones of some rules of a policy, numbered from one on
abbrev pub idle_from : List Rule → ℕ → List Rule → List IdleRule
idle_from policy first rules = filter_map (λ (numbered : ℕ × Rule). idle_behind (take (numbered.0 - 1) policy) numbered.0 numbered.1) (enumerate_from first rules)

-- ---- the first that passes

-- what the first of numbered rules decides that passes
abbrev pub first_passing : (Rule → Bool) → ℕ → List Rule → Decision
first_passing p n rs = first_of (filter (λ (numbered : ℕ × Rule). p numbered.1) (enumerate_from n rs))

module _ (p : Rule → Bool) where
  skips : (n : ℕ) (r : Rule) (rs : List Rule) → p r ≡ false → (first_passing p n (r ∷ rs)).rule ≡ (first_passing p (n + 1) rs).rule
  skips n r rs f = ap (λ ds. (first_of ds).rule) (left_out p n r rs f)

  takes : (n : ℕ) (r : Rule) (rs : List Rule) → p r ≡ true → (first_passing p n (r ∷ rs)).rule ≡ n
  takes n r rs t = rw t refl

  -- its number isn't below the first number, unless none passes
  not_below : (n m : ℕ) (rs : List Rule) → 1 ≤ m → m < n → (first_passing p n rs).rule ≡ m → ⊥
  not_below n m [] some less e = absurd (omega (arith, e, some))
  not_below n m (r ∷ rs) some less e = elim (cases_Bool (p r)) [
    | inl t ↦ (let here : (first_passing p n (r ∷ rs)).rule ≡ n = takes n r rs t in absurd (omega (arith, here, e, less)))
    | inr f ↦ not_below (n + 1) m rs some (omega (arith, less)) (sym (skips n r rs f) ∙ e)
  ]

  -- it isn't that of one that doesn't pass
  not_failing : (n : ℕ) (rs : List Rule) (j : ℕ) (d : Rule) → 1 ≤ n → j < length rs → p (get_or rs j d) ≡ false → (first_passing p n rs).rule ≡ n + j → ⊥
  not_failing n [] j d some less fails e = absurd (omega (arith, less))
  not_failing n (r ∷ rs) zero d some less fails e = not_below (n + 1) n rs some (omega arith) (sym (skips n r rs fails) ∙ e ∙ omega arith)
  not_failing n (r ∷ rs) (suc j) d some less fails e = elim (cases_Bool (p r)) [
    | inl t ↦ (let here : (first_passing p n (r ∷ rs)).rule ≡ n = takes n r rs t in absurd (omega (arith, here, e)))
    | inr f ↦ not_failing (n + 1) rs j d (omega (arith, some)) (omega (arith, less)) fails (sym (skips n r rs f) ∙ e ∙ omega arith)
  ]

  -- nor that of one behind another that passes where it does
  pub not_behind : (n : ℕ) (rs : List Rule) (i j : ℕ) (d : Rule) → 1 ≤ n → i < j → j < length rs → (p (get_or rs j d) ≡ true → p (get_or rs i d) ≡ true) → (first_passing p n rs).rule ≡ n + j → ⊥
  not_behind n [] i j d some before less passes e = absurd (omega (arith, less))
  not_behind n (r ∷ rs) i zero d some before less passes e = absurd (omega (arith, before))
  not_behind n (r ∷ rs) zero (suc j) d some before less passes e = elim (cases_Bool (p r)) [
    | inl t ↦ (let here : (first_passing p n (r ∷ rs)).rule ≡ n = takes n r rs t in absurd (omega (arith, here, e)))
    | inr f ↦ elim (cases_Bool (p (get_or rs j d))) [
      | inl t ↦ (let u : p r ≡ true = passes t in cc)
      | inr g ↦ not_failing n (r ∷ rs) (suc j) d some less g e
    ]
  ]
  not_behind n (r ∷ rs) (suc i) (suc j) d some before less passes e = elim (cases_Bool (p r)) [
    | inl t ↦ (let here : (first_passing p n (r ∷ rs)).rule ≡ n = takes n r rs t in absurd (omega (arith, here, e)))
    | inr f ↦ not_behind (n + 1) rs i j d (omega (arith, some)) (omega (arith, before)) (omega (arith, less)) passes (sym (skips n r rs f) ∙ e ∙ omega arith)
  ]

-- ---- lists

with_made : {Y : Type 0} (P : Y → Type 0) (o : Option Y) (ys : List Y) → ((y : Y) → o ≡ Some y → P y) → All P ys → All P (cons_option o ys)
with_made P None ys own rest = rest
with_made P (Some y) ys own rest = All-cons P y ys (own y refl) rest

-- what is true of each that is made of an element is true of all that are made
all_of_made : {X Y : Type 0} (h : X → Option Y) (P : Y → Type 0) (xs : List X) → ((k : ℕ) (d : X) → k < length xs → (y : Y) → h (get_or xs k d) ≡ Some y → P y) → All P (filter_map h xs)
all_of_made h P [] own = All-nil P
all_of_made h P (x ∷ xs) own =
    let rest : All P (filter_map h xs) = all_of_made h P xs (λ k d less y e. own (suc k) d (omega (arith, less)) y e) in
    with_made P (h x) (filter_map h xs) (λ y e. own 0 x (omega arith) y e) rest

-- ---- idle rules

rule_in : Option IdleRule → ℕ
rule_in None = 0
rule_in (Some idle) = idle.rule

from_place : (o : Option ℕ) (number : ℕ) (y : IdleRule) → option_map (λ i. record { rule = number; covered_by = i + 1 }) o ≡ Some y → (i : ℕ) × ((o ≡ Some i) × (y.rule ≡ number))
unfolding rule_in
from_place None number y e = cc
from_place (Some i) number y e = (i, (refl, sym (ap rule_in e)))

-- what is true of each rule that is idle behind those before it is true of all idle rules
all_idle : (policy : List Rule) (P : IdleRule → Type 0) → ((k : ℕ) (d : Rule) (y : IdleRule) → k < length policy → idle_behind (take k policy) (1 + k) (get_or policy k d) ≡ Some y → P y) → All P (idle_rules policy)
all_idle policy P own =
    all_of_made (λ (numbered : ℕ × Rule). idle_behind (take (numbered.0 - 1) policy) numbered.0 numbered.1) P (enumerate_from 1 policy)
    (λ k d less y e.
    let within : k < length policy = omega (arith, less, length-enumerate_from 1 policy) in
    let there = get_or-enumerate_from 1 policy k d within in
    let idle : idle_behind (take (1 + k - 1) policy) (1 + k) (get_or policy k d.1) ≡ Some y = sym (ap (λ (numbered : ℕ × Rule). idle_behind (take (numbered.0 - 1) policy) numbered.0 numbered.1) there) ∙ e in
    let before : 1 + k - 1 ≡ k = omega arith in
    own k d.1 y within (sym (ap (λ n. idle_behind (take n policy) (1 + k) (get_or policy k d.1)) before) ∙ idle))

-- a rule that is idle has its number, and an earlier rule covers it
covering : (policy : List Rule) (k : ℕ) (d : Rule) (y : IdleRule) → k < length policy → idle_behind (take k policy) (1 + k) (get_or policy k d) ≡ Some y
    → (i : ℕ) × ((i < k) × (covers_rule (get_or policy i d) (get_or policy k d) ≡ true) × (y.rule ≡ 1 + k))
covering policy k d y less e =
    let place = from_place (position (λ (r : Rule). covers_rule r (get_or policy k d)) (take k policy)) (1 + k) y e in
    let found = position-Some (λ (r : Rule). covers_rule r (get_or policy k d)) (take k policy) place.0 d place.1.0 in
    let before : place.0 < k = omega (arith, found.0, length-take k policy) in
    let covered : covers_rule (get_or policy place.0 d) (get_or policy k d) ≡ true = sym (ap (λ (r : Rule). covers_rule r (get_or policy k d)) (get_or-take k policy place.0 d before)) ∙ found.1 in
    (place.0, (before, covered, place.1.1))

-- it isn't the first that fits and covers the leaf at all values
never_wholly : (policy : List Rule) (client : List ℕ) (op : Op) (c : Content) (l : Leaf) → All (λ (idle : IdleRule). (decide_wholly policy client op c l).rule ≢ idle.rule) (idle_rules policy)
unfolding decide_wholly
never_wholly policy client op c l =
    all_idle policy (λ (idle : IdleRule). (decide_wholly policy client op c l).rule ≢ idle.rule)
    (λ k d y less e decides.
    let by = covering policy k d y less e in
    not_behind (fits_wholly client op c l) 1 policy by.0 k d (omega arith) by.1.0 less
    (λ own. covering_fits (get_or policy by.0 d) (get_or policy k d) client op c l by.1.1 (whole_fits client op c l (get_or policy k d) own))
    (decides ∙ by.1.2))

-- ---- patterns

-- the rule with an idle rule's number fits only where an earlier one fits and covers the leaf at all values
not_idle : (policy : List Rule) (client : List ℕ) (c : Content) (l : Leaf) (k : ℕ) (d : Rule) (y : IdleRule) (number : ℕ) → k < length policy
    → idle_behind (take k policy) (1 + k) (get_or policy k d) ≡ Some y → FitsInTurn client c l d 1 policy number → number ≢ y.rule
not_idle policy client c l k d y number less e in_turn same =
    let by = covering policy k d y less e in
    elim in_turn [
      | inl none ↦ absurd (omega (arith, none, same, by.1.2))
      | inr there ↦ absurd (
          let place : there.0 ≡ k = omega (arith, there.1.0, same, by.1.2) in
          let fit : fits client Read c l (get_or policy k d) ≡ true = subst (λ (j : ℕ). fits client Read c l (get_or policy j d) ≡ true) place there.1.1 in
          let whole : fits_wholly client Read c l (get_or policy by.0 d) ≡ true = covering_fits (get_or policy by.0 d) (get_or policy k d) client Read c l by.1.1 fit in
          let part : fits_wholly client Read c l (get_or policy by.0 d) ≡ false = there.1.2 by.0 (omega (arith, by.1.0, place)) in
          cc
          )
    ]

in_no_pattern_of : (policy : List Rule) (client : List ℕ) (c : Content) (l : Leaf) (k : ℕ) (d : Rule) (y : IdleRule) → k < length policy
    → idle_behind (take k policy) (1 + k) (get_or policy k d) ≡ Some y → All (λ (e : Decision). e.rule ≢ y.rule) (pattern policy client c l)
in_no_pattern_of policy client c l k d y less e =
    All-weaker (λ (g : Decision). FitsInTurn client c l d 1 policy g.rule) (λ (g : Decision). g.rule ≢ y.rule)
    (λ g in_turn. not_idle policy client c l k d y g.rule less e in_turn) (pattern policy client c l) (pattern_in_turn client c l d policy)

pub in_no_pattern : (policy : List Rule) (client : List ℕ) (c : Content) (l : Leaf) → All (λ (idle : IdleRule). All (λ (d : Decision). d.rule ≢ idle.rule) (pattern policy client c l)) (idle_rules policy)
in_no_pattern policy client c l =
    all_idle policy (λ (idle : IdleRule). All (λ (d : Decision). d.rule ≢ idle.rule) (pattern policy client c l)) (λ k d y less e. in_no_pattern_of policy client c l k d y less e)

-- what is true of a denial by rule 0 and of all decisions is true of the decision on all values
whole_is : (P : Decision → Type 0) (ds : List Decision) → P (record { rule = 0; allow = false }) → All P ds → P (whole_decision ds)
whole_is P ds denied all = first_all (filter (λ (d : Decision). not d.allow) ds ++ ds) (All-append P (filter (λ (d : Decision). not d.allow) ds) ds (All-filter (λ (d : Decision). not d.allow) P ds all) all)
  where
    first_all : (es : List Decision) → All P es → P (first_or_denied es)
    first_all [] each = denied
    first_all (e ∷ es) each = All-head P e es each

never_whole : (policy : List Rule) (client : List ℕ) (c : Content) (l : Leaf) → All (λ (idle : IdleRule). (whole_decision (pattern policy client c l)).rule ≢ idle.rule) (idle_rules policy)
never_whole policy client c l =
    all_idle policy (λ (idle : IdleRule). (whole_decision (pattern policy client c l)).rule ≢ idle.rule)
    (λ k d y less e.
    whole_is (λ (g : Decision). g.rule ≢ y.rule) (pattern policy client c l)
    (λ none. absurd (omega (arith, none, (covering policy k d y less e).1.2)))
    (in_no_pattern_of policy client c l k d y less e))

pub never_deciding : (policy : List Rule) (client : List ℕ) (op : Op) (c : Content) (l : Leaf) → All (λ (idle : IdleRule). (decide policy client op c l).rule ≢ idle.rule) (idle_rules policy)
unfolding decide
never_deciding policy client Read c l = never_whole policy client c l
never_deciding policy client op c l = never_wholly policy client op c l

pub no_value : (policy : List Rule) (client : List ℕ) (c : Content) (l : Leaf) (place : ℕ) → All (λ (idle : IdleRule). (decide_at policy client c l place).rule ≢ idle.rule) (idle_rules policy)
unfolding decide_at
no_value policy client c l place =
    all_idle policy (λ (idle : IdleRule). (decide_at policy client c l place).rule ≢ idle.rule)
    (λ k d y less e.
    first_is _ (λ (g : Decision). g.rule ≢ y.rule) (pattern_rules policy client c l)
    (λ none. absurd (omega (arith, none, (covering policy k d y less e).1.2)))
    (in_no_pattern_of policy client c l k d y less e))
