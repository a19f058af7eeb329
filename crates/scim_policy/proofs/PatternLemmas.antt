-- What a table of patterns says while rules are added.
use Rattle.std.proofs.Common.{◌≡◌, refl, sym, subst, ap, ap₂, ◌∙◌, ℕ, ◌+◌, ◌<◌, ◌≤◌, Bool, true, false, List, [], ◌∷◌, ◌++◌, length, get_or, map, drop, All, inl, inr, arith}
use Rattle.std.specs.Prelude.{not, ◌&&◌, ◌||◌, ◌==◌, nat_lt, Option, Some, None, is_some, filter, if◌then◌else◌}
use Rattle.std.specs.List.{list_any}
use Rattle.std.specs.Option.{option_eq}
use denote.Enum.Bare.{sameb}
use Rattle.scim_schema.specs.declared.Attribute.{Attribute}
use Rattle.scim_schema.specs.declared.Attribute.TheVariants.{Groups}
use Rattle.scim_schema.specs.contracts.Attribute.{the_type as the_attribute}
use Rattle.scim_schema.specs.Characteristics.{is_multi_valued}
use Rattle.scim_schema.specs.Units.{is_same_attribute}
use Rattle.scim_schema.proofs.Facts.{attribute_one}
use Rattle.std.proofs.Math.ListN.{drop_of_length-le}
use Rattle.std.proofs.lemmas.Bool.{cases_Bool, lt-ltb, le-ltb, and_left, and_right, or_parts}
use Rattle.std.proofs.lemmas.List.{at_drop_more, append-nil}
use Rattle.std.proofs.lemmas.List.Elements.{All-head, All-tail, All-nil, All-cons, All-append, All-weaker}
use Rattle.scim_schema.specs.declared.Kind.{Kind}
use Rattle.scim_schema.specs.declared.Op.TheVariants.{Read}
use Rattle.scim_schema.specs.declared.Leaf.{Leaf}
use Rattle.scim_cell.specs.Content.{Content}
use Rattle.scim_filter_grammar.specs.Tree.{Tree}
use Rattle.scim_policy.specs.declared.rules.Decision.{Decision}
use Rattle.scim_policy.specs.declared.patterns.PartialRule.{PartialRule}
use Rattle.scim_policy.specs.declared.patterns.Patterns.{Patterns}
use Rattle.scim_policy.specs.Rules.{FilteredPath, Rule}
use Rattle.scim_policy.specs.Fits.{attribute_before, covers, covers_in, covers_in_part, filtered_on, fits, is_about, is_after, is_target_met, paths_on, speaks_of}
use Rattle.scim_policy.specs.Patterns.{PatternRule, decided_for, decision_of, filters_on, first_or_denied, is_for_value, pattern_rules, up_to_whole, whole_decision}
use Rattle.scim_policy.specs.PatternTable.{partial_paths, is_on, counts, partial_rule, partial_rules, last_decision, last_rule, rules_in}
use Rattle.scim_policy.specs.Table.{or_else, decided}
use Rattle.scim_policy.specs.code.Walk.{by_paths}
use Rattle.scim_policy.proofs.RuleLemmas.{speaks_grouped}
use Rattle.scim_policy.proofs.TableLemmas.{rest_all}
use Rattle.scim_policy.specs.code.PatternWalk.{partial_of, AddsRule, rules_left, fitting_from, HasWalked}

-- ---- the rules that decide on some values

partial_append : (l : Leaf) (o : Option Decision) (ps qs : List (Decision × List FilteredPath)) → partial_rules l o (ps ++ qs) ≡ partial_rules l o ps ++ partial_rules l o qs
partial_append l o [] qs = refl
partial_append l o (p ∷ ps) qs = elim (cases_Bool (counts l o p)) [
  | inl there ↦ rw there (ap (◌∷◌ (partial_rule l p)) (partial_append l o ps qs))
  | inr absent ↦ rw absent (partial_append l o ps qs)
]

-- rules with lower numbers come before a decision
low_count : (l : Leaf) (d : Decision) (ps : List (Decision × List FilteredPath)) (i : ℕ) → All (λ (p : Decision × List FilteredPath). p.0.rule ≤ i) ps → i < d.rule → partial_rules l (Some d) ps ≡ partial_rules l None ps
low_count l d [] i low less = refl
low_count l d (p ∷ ps) i h less =
    let before : nat_lt p.0.rule d.rule ≡ true = lt-ltb p.0.rule d.rule (omega (arith, All-head (λ (q : Decision × List FilteredPath). q.0.rule ≤ i) p ps h, less)) in
    let behind : All (λ (q : Decision × List FilteredPath). q.0.rule ≤ i) ps = All-tail (λ (q : Decision × List FilteredPath). q.0.rule ≤ i) p ps h in
    rw before (elim (cases_Bool (list_any (covers_in_part l) p.1)) [
      | inl there ↦ rw there (ap (◌∷◌ (partial_rule l p)) (low_count l d ps i behind less))
      | inr absent ↦ rw absent (low_count l d ps i behind less)
    ])

-- a rule that covers absent value of the leaf adds nothing
none_new : (l : Leaf) (o : Option Decision) (d : Decision) (fs : List FilteredPath) → list_any (covers_in_part l) fs ≡ false → partial_rules l o (partial_of d fs) ≡ []
none_new l o d [] absent = refl
none_new l o d (f ∷ fs) absent = rw absent refl

-- nor does one that comes behind a decision on all values
late_new : (l : Leaf) (e d : Decision) (fs : List FilteredPath) → e.rule ≤ d.rule → partial_rules l (Some e) (partial_of d fs) ≡ []
late_new l e d [] late = refl
late_new l e d (f ∷ fs) late =
    let absent : nat_lt d.rule e.rule ≡ false = le-ltb d.rule e.rule late in
    elim (cases_Bool (list_any (covers_in_part l) (f ∷ fs))) [
      | inl there ↦ rw (there, absent) refl
      | inr other ↦ rw other refl
    ]

one_new : (l : Leaf) (d : Decision) (fs : List FilteredPath) → list_any (covers_in_part l) fs ≡ true → partial_rules l None (partial_of d fs) ≡ record { decision = d; filters = Some (filters_on l fs) } ∷ []
one_new l d [] there = cc
one_new l d (f ∷ fs) there = rw there refl

append_nil : {X : Type 0} (xs ys : List X) → ys ≡ [] → xs ++ ys ≡ xs
append_nil xs ys none = ap (λ (zs : List _). xs ++ zs) none ∙ append-nil xs

append_assoc : {X : Type 0} (xs ys zs : List X) → (xs ++ ys) ++ zs ≡ xs ++ (ys ++ zs)
append_assoc [] ys zs = refl
append_assoc (x ∷ xs) ys zs = ap (◌∷◌ x) (append_assoc xs ys zs)

-- ---- one rule more

-- what is given by the rules that were walked and those that are left
abbrev given : Content → Leaf → Option Decision → List (Decision × List FilteredPath) → List (ℕ × Rule) → List PatternRule
given c l o ps ns = partial_rules l o ps ++ rules_left c l o ns

-- a rule in front of those that are left
pub whole_first : (c : Content) (l : Leaf) (n : ℕ × Rule) (ns : List (ℕ × Rule)) → covers_in c l n.1 ≡ true → up_to_whole c l (n ∷ ns) ≡ last_rule (Some (decision_of n)) ∷ []
whole_first c l n ns whole = rw whole refl

pub partial_first : (c : Content) (l : Leaf) (n : ℕ × Rule) (ns : List (ℕ × Rule)) → covers_in c l n.1 ≡ false → up_to_whole c l (n ∷ ns) ≡ record { decision = decision_of n; filters = Some (filters_on l (filtered_on c.kind n.1.paths)) } ∷ up_to_whole c l ns
partial_first c l n ns other = rw other refl

-- the rules that are left, with one before them if it covers the leaf at all values or at some
abbrev pub with_one : Content → Leaf → (ℕ × Rule) → List (ℕ × Rule) → List (ℕ × Rule)
with_one c l n ns = if covers_in c l n.1 || list_any (covers_in_part l) (filtered_on c.kind n.1.paths) then n ∷ ns else ns

one_more : (c : Content) (l : Leaf) (n : ℕ × Rule) (o : Option Decision) (ps : List (Decision × List FilteredPath)) (ns : List (ℕ × Rule)) (i : ℕ)
    → All (λ (p : Decision × List FilteredPath). p.0.rule ≤ i) ps → ((d : Decision) → o ≡ Some d → d.rule ≤ i) → i < n.0
    → given c l (or_else o (by_paths (paths_on c.kind n.1.paths) (decision_of n) l)) (ps ++ partial_of (decision_of n) (filtered_on c.kind n.1.paths)) ns ≡ given c l o ps (with_one c l n ns)
one_more c l n (Some d) ps ns i low last less =
    let late : d.rule ≤ n.0 = omega (arith, last d refl, less) in
    ap (λ (rs : List PatternRule). rs ++ (last_rule (Some d) ∷ []))
    (partial_append l (Some d) ps (partial_of (decision_of n) (filtered_on c.kind n.1.paths))
    ∙ append_nil _ _ (late_new l d (decision_of n) (filtered_on c.kind n.1.paths) late))
one_more c l n None ps ns i low last less =
    let fs = filtered_on c.kind n.1.paths in
    let new = decision_of n in
    elim (cases_Bool (covers_in c l n.1)) [
      | inl whole ↦ rw whole
          (ap (λ (rs : List PatternRule). rs ++ (last_rule (Some new) ∷ []))
          (partial_append l (Some new) ps (partial_of new fs)
          ∙ append_nil _ _ (late_new l new new fs (omega arith))
          ∙ low_count l new ps i low less)
          ∙ ap (λ (rs : List PatternRule). partial_rules l None ps ++ rs) (sym (whole_first c l n ns whole)))
      | inr other ↦ elim (cases_Bool (list_any (covers_in_part l) fs)) [
        | inl some ↦ rw (other, some)
            (ap (λ (rs : List PatternRule). rs ++ up_to_whole c l ns)
            (partial_append l None ps (partial_of new fs) ∙ ap (λ (rs : List PatternRule). partial_rules l None ps ++ rs) (one_new l new fs some))
            ∙ append_assoc (partial_rules l None ps) _ (up_to_whole c l ns)
            ∙ ap (λ (rs : List PatternRule). partial_rules l None ps ++ rs) (sym (partial_first c l n ns other)))
        | inr none ↦ rw (other, none)
            (ap (λ (rs : List PatternRule). rs ++ up_to_whole c l ns)
            (partial_append l None ps (partial_of new fs) ∙ append_nil _ _ (none_new l None new fs none)))
      ]
    ]

-- ---- the walk over the rules

-- a decision that a rule with a higher number adds
low_added : (o : Option Decision) (added : Bool) (new d : Decision) (i : ℕ) → ((e : Decision) → o ≡ Some e → e.rule ≤ i) → i ≤ new.rule → or_else o (if added then Some new else None) ≡ Some d → d.rule ≤ new.rule
low_added (Some e) added new d i low high is =
    let same : e.rule ≡ d.rule = cc in
    omega (arith, low e refl, same, high)
low_added None true new d i low high is =
    let same : new.rule ≡ d.rule = cc in
    omega (arith, same)
low_added None false new d i low high is = cc

low_new : (d : Decision) (fs : List FilteredPath) → All (λ (p : Decision × List FilteredPath). p.0.rule ≤ d.rule) (partial_of d fs)
low_new d [] = All-nil (λ (p : Decision × List FilteredPath). p.0.rule ≤ d.rule)
low_new d (f ∷ fs) = All-cons (λ (p : Decision × List FilteredPath). p.0.rule ≤ d.rule) (d, f ∷ fs) [] (omega arith) (All-nil (λ (p : Decision × List FilteredPath). p.0.rule ≤ d.rule))

-- a table to which nothing was added
pub walk_start : (c : Content) (left : Leaf → List (ℕ × Rule)) (ps : Patterns) → ((l : Leaf) → decided ps.last l ≡ None) → ps.partial.items ≡ [] → HasWalked c left (λ l. up_to_whole c l (left l)) 0 ps
walk_start c left ps none empty = record {
  goes = λ l. rw (none l, empty) refl;
  low_partial = rw empty (All-nil (λ (p : Decision × List FilteredPath). p.0.rule ≤ 0));
  low_last = λ l d is. (let other : None ≡ Some d = sym (none l) ∙ is in cc);
}

-- a rule that is added
pub walk_rule : (c : Content) (k : Kind) (left next : Leaf → List (ℕ × Rule)) (all : Leaf → List PatternRule) (i : ℕ) (n : ℕ × Rule) (old new : Patterns)
    → k ≡ c.kind → i < n.0 → ((l : Leaf) → left l ≡ with_one c l n (next l)) → AddsRule k n.1 (decision_of n) old new → HasWalked c left all i old → HasWalked c next all n.0 new
walk_rule c k left next all i n old new same less first adds walked =
    let d = decision_of n in
    let last : (l : Leaf) → decided new.last l ≡ or_else (decided old.last l) (by_paths (paths_on c.kind n.1.paths) d l) =
    λ l. subst (λ (j : Kind). decided new.last l ≡ or_else (decided old.last l) (by_paths (paths_on j n.1.paths) d l)) same (adds.last l) in
    let partial : map partial_paths new.partial.items ≡ map partial_paths old.partial.items ++ partial_of d (filtered_on c.kind n.1.paths) =
    subst (λ (j : Kind). map partial_paths new.partial.items ≡ map partial_paths old.partial.items ++ partial_of d (filtered_on j n.1.paths)) same adds.partial in
    record {
      goes = λ l.
          ap₂ (λ (o : Option Decision) (ps : List (Decision × List FilteredPath)). given c l o ps (next l)) (last l) partial
          ∙ one_more c l n (decided old.last l) (map partial_paths old.partial.items) (next l) i walked.low_partial (walked.low_last l) less
          ∙ sym (ap (λ (ns : List (ℕ × Rule)). given c l (decided old.last l) (map partial_paths old.partial.items) ns) (first l))
          ∙ walked.goes l;
      low_partial = rw partial
          (All-append (λ (p : Decision × List FilteredPath). p.0.rule ≤ n.0) (map partial_paths old.partial.items) (partial_of d (filtered_on c.kind n.1.paths))
          (All-weaker (λ (p : Decision × List FilteredPath). p.0.rule ≤ i) (λ (p : Decision × List FilteredPath). p.0.rule ≤ n.0) (λ p low. omega (arith, low, less)) (map partial_paths old.partial.items) walked.low_partial)
          (low_new d (filtered_on c.kind n.1.paths)));
      low_last = λ l e is. low_added (decided old.last l) (list_any (covers l) (paths_on c.kind n.1.paths)) d e i (walked.low_last l) (omega (arith, less)) (sym (last l) ∙ is);
    }

-- a rule that is passed over
pub walk_past : (c : Content) (left next : Leaf → List (ℕ × Rule)) (all : Leaf → List PatternRule) (i j : ℕ) (ps : Patterns) → i ≤ j → ((l : Leaf) → left l ≡ next l) → HasWalked c left all i ps → HasWalked c next all j ps
walk_past c left next all i j ps less same walked = record {
  goes = λ l. ap (λ (ns : List (ℕ × Rule)). given c l (decided ps.last l) (map partial_paths ps.partial.items) ns) (sym (same l)) ∙ walked.goes l;
  low_partial = All-weaker (λ (p : Decision × List FilteredPath). p.0.rule ≤ i) (λ (p : Decision × List FilteredPath). p.0.rule ≤ j) (λ p low. omega (arith, low, less)) (map partial_paths ps.partial.items) walked.low_partial;
  low_last = λ l d is. omega (arith, walked.low_last l d is, less);
}

none_left : (c : Content) (l : Leaf) (o : Option Decision) → rules_left c l o [] ≡ last_rule o ∷ []
none_left c l None = refl
none_left c l (Some d) = refl

whole_left : (c : Content) (l : Leaf) (o : Option Decision) (ns : List (ℕ × Rule)) → is_some o ≡ true → rules_left c l o ns ≡ last_rule o ∷ []
whole_left c l None ns is = cc
whole_left c l (Some d) ns is = refl

-- where no rules are left
pub walk_end : (c : Content) (left : Leaf → List (ℕ × Rule)) (all : Leaf → List PatternRule) (i : ℕ) (ps : Patterns) → ((l : Leaf) → left l ≡ []) → HasWalked c left all i ps → (l : Leaf) → rules_in ps l ≡ all l
unfolding rules_in
walk_end c left all i ps gone walked l =
    ap (λ (rs : List PatternRule). partial_rules l (decided ps.last l) (map partial_paths ps.partial.items) ++ rs)
    (sym (ap (rules_left c l (decided ps.last l)) (gone l) ∙ none_left c l (decided ps.last l)))
    ∙ walked.goes l

-- where every leaf is decided at all values
pub walk_whole : (c : Content) (left : Leaf → List (ℕ × Rule)) (all : Leaf → List PatternRule) (i : ℕ) (ps : Patterns) → is_some ps.last.rest ≡ true → HasWalked c left all i ps → (l : Leaf) → rules_in ps l ≡ all l
unfolding rules_in
walk_whole c left all i ps rest walked l =
    ap (λ (rs : List PatternRule). partial_rules l (decided ps.last l) (map partial_paths ps.partial.items) ++ rs)
    (sym (whole_left c l (decided ps.last l) (left l) (rest_all ps.last l rest)))
    ∙ walked.goes l

-- ---- the walk over a policy

-- the rules that fit, from the i-th on, from 0, by that one and those behind it
from_next : (client : List ℕ) (c : Content) (l : Leaf) (rs : List Rule) (i : ℕ) (r : Rule) → i < length rs → r ≡ get_or rs i r
    → fitting_from client c l (i + 1) (drop i rs) ≡ (if fits client Read c l r then (i + 1, r) ∷ fitting_from client c l (i + 1 + 1) (drop (i + 1) rs) else fitting_from client c l (i + 1 + 1) (drop (i + 1) rs))
from_next client c l rs i r less there =
    at_drop_more (λ (qs : List Rule). fitting_from client c l (i + 1) qs) rs i r less
    ∙ ap (λ (q : Rule). fitting_from client c l (i + 1) (q ∷ drop (i + 1) rs)) (sym there)

-- a rule that is for the client's reading of the resource fits where it covers the leaf
pub spoken_next : (client : List ℕ) (c : Content) (l : Leaf) (rs : List Rule) (i : ℕ) (r : Rule) → i < length rs → r ≡ get_or rs i r → speaks_of client Read c r ≡ true
    → fitting_from client c l (i + 1) (drop i rs) ≡ with_one c l (i + 1, r) (fitting_from client c l (i + 1 + 1) (drop (i + 1) rs))
spoken_next client c l rs i r less there speaks =
    from_next client c l rs i r less there
    ∙ rw speaks refl

-- another doesn't
pub silent_next : (client : List ℕ) (c : Content) (l : Leaf) (rs : List Rule) (i : ℕ) (r : Rule) → i < length rs → r ≡ get_or rs i r → speaks_of client Read c r ≡ false
    → fitting_from client c l (i + 1) (drop i rs) ≡ fitting_from client c l (i + 1 + 1) (drop (i + 1) rs)
silent_next client c l rs i r less there silent =
    from_next client c l rs i r less there
    ∙ rw silent refl

-- a table to which the first rules of a policy were added
abbrev pub PolicyWalked : List ℕ → Content → List Rule → ℕ → Patterns → Type 0
PolicyWalked client c rs i ps = HasWalked c (λ l. fitting_from client c l (i + 1) (drop i rs)) (λ l. pattern_rules rs client c l) i ps

pub policy_start : (client : List ℕ) (c : Content) (rs : List Rule) (ps : Patterns) → ((l : Leaf) → decided ps.last l ≡ None) → ps.partial.items ≡ [] → PolicyWalked client c rs 0 ps
unfolding pattern_rules
policy_start client c rs ps none empty = walk_start c (λ l. fitting_from client c l 1 rs) ps none empty

pub policy_rule : (client : List ℕ) (c : Content) (k : Kind) (rs : List Rule) (i n : ℕ) (r : Rule) (old new : Patterns) → i < length rs → r ≡ get_or rs i r → n ≡ i → k ≡ c.kind → speaks_of client Read c r ≡ true
    → AddsRule k r (record { rule = n + 1; allow = r.allow }) old new → PolicyWalked client c rs i old → PolicyWalked client c rs (i + 1) new
policy_rule client c k rs i n r old new less there numbered same speaks adds walked =
    walk_rule c k (λ l. fitting_from client c l (i + 1) (drop i rs)) (λ l. fitting_from client c l (i + 1 + 1) (drop (i + 1) rs)) (λ l. pattern_rules rs client c l) i (i + 1, r) old new same (omega arith)
    (λ l. spoken_next client c l rs i r less there speaks)
    (subst (λ (m : ℕ). AddsRule k r (record { rule = m + 1; allow = r.allow }) old new) numbered adds) walked

pub policy_past : (client : List ℕ) (c : Content) (rs : List Rule) (i : ℕ) (r : Rule) (ps : Patterns) → i < length rs → r ≡ get_or rs i r → speaks_of client Read c r ≡ false → PolicyWalked client c rs i ps → PolicyWalked client c rs (i + 1) ps
policy_past client c rs i r ps less there silent walked =
    walk_past c (λ l. fitting_from client c l (i + 1) (drop i rs)) (λ l. fitting_from client c l (i + 1 + 1) (drop (i + 1) rs)) (λ l. pattern_rules rs client c l) i (i + 1) ps (omega arith)
    (λ l. silent_next client c l rs i r less there silent) walked

pub policy_end : (client : List ℕ) (c : Content) (rs : List Rule) (i : ℕ) (ps : Patterns) → length rs ≤ i → PolicyWalked client c rs i ps → (l : Leaf) → rules_in ps l ≡ pattern_rules rs client c l
policy_end client c rs i ps end walked =
    walk_end c (λ l. fitting_from client c l (i + 1) (drop i rs)) (λ l. pattern_rules rs client c l) i ps
    (λ l. ap (fitting_from client c l (i + 1)) (drop_of_length-le rs end)) walked

pub policy_whole : (client : List ℕ) (c : Content) (rs : List Rule) (i : ℕ) (ps : Patterns) → is_some ps.last.rest ≡ true → PolicyWalked client c rs i ps → (l : Leaf) → rules_in ps l ≡ pattern_rules rs client c l
policy_whole client c rs i ps = walk_whole c (λ l. fitting_from client c l (i + 1) (drop i rs)) (λ l. pattern_rules rs client c l) i ps

-- a table to which the first rules of a policy were added, for each resource of a kind
abbrev pub AllWalked : List ℕ → Kind → List Rule → ℕ → Patterns → Type 0
AllWalked client k rs i ps = (c : Content) → c.kind ≡ k → PolicyWalked client c rs i ps

-- a rule without a target is for each resource of the kind that it is about
pub all_rule : (client : List ℕ) (k : Kind) (rs : List Rule) (i n : ℕ) (r : Rule) (old new : Patterns) → i < length rs → r ≡ get_or rs i r → n ≡ i → is_about client Read k r ≡ true → (length r.targets == 0) ≡ true
    → AddsRule k r (record { rule = n + 1; allow = r.allow }) old new → AllWalked client k rs i old → AllWalked client k rs (i + 1) new
all_rule client k rs i n r old new less there numbered ours bare adds walked c same =
    let is_ours : is_about client Read c.kind r ≡ true = ap (λ (j : Kind). is_about client Read j r) same ∙ ours in
    let speaks : speaks_of client Read c r ≡ true = speaks_grouped client Read c r ∙ rw (is_ours, bare) refl in
    policy_rule client c k rs i n r old new less there numbered (sym same) speaks adds (walked c same)

-- a rule that isn't about the kind is for none
pub all_past : (client : List ℕ) (k : Kind) (rs : List Rule) (i : ℕ) (r : Rule) (ps : Patterns) → i < length rs → r ≡ get_or rs i r → is_about client Read k r ≡ false → AllWalked client k rs i ps → AllWalked client k rs (i + 1) ps
all_past client k rs i r ps less there other walked c same =
    let isnt : is_about client Read c.kind r ≡ false = ap (λ (j : Kind). is_about client Read j r) same ∙ other in
    let silent : speaks_of client Read c r ≡ false = speaks_grouped client Read c r ∙ ap (λ (b : Bool). b && is_target_met c r) isnt in
    policy_past client c rs i r ps less there silent (walked c same)

-- ---- the decision on a leaf as a whole

-- the decision on a leaf as a whole, from the first decision that was passed over, which allowed, and those that are
-- left
abbrev pub whole_after : Option Decision → List Decision → Decision
whole_after None ds = whole_decision ds
whole_after (Some first) ds = first_or_denied (filter (λ (d : Decision). not d.allow) ds ++ first ∷ [])

same_front : (xs ys zs : List Decision) (d : Decision) → first_or_denied (xs ++ d ∷ ys) ≡ first_or_denied (xs ++ d ∷ zs)
same_front [] ys zs d = refl
same_front (x ∷ xs) ys zs d = refl

-- one that denies decides
pub whole_denied : (first : Option Decision) (d : Decision) (ds : List Decision) → d.allow ≡ false → whole_after first (d ∷ ds) ≡ d
whole_denied None d ds denies = rw denies refl
whole_denied (Some first) d ds denies = rw denies refl

-- one that allows is passed over; the first is kept
pub whole_passed : (d : Decision) (ds : List Decision) → d.allow ≡ true → whole_after None (d ∷ ds) ≡ whole_after (Some d) ds
whole_passed d ds allows =
    let others = filter (λ (e : Decision). not e.allow) ds in
    ap (λ (allow : Bool). first_or_denied ((if not allow then d ∷ others else others) ++ d ∷ ds)) allows ∙ same_front others ds [] d

pub whole_kept : (first d : Decision) (ds : List Decision) → d.allow ≡ true → whole_after (Some first) (d ∷ ds) ≡ whole_after (Some first) ds
whole_kept first d ds allows = rw allows refl

pub whole_still : (o : Option Decision) (d : Decision) (ds : List Decision) → is_some o ≡ true → d.allow ≡ true → whole_after o (d ∷ ds) ≡ whole_after o ds
whole_still None d ds is allows = cc
whole_still (Some first) d ds is allows = whole_kept first d ds allows

-- ---- the rules of a table, one after another

-- the rules of a leaf's pattern from the i-th on, from 0, of rules of which f tells the decision and the paths; and
-- the last
abbrev pub rules_from : {X : Type 0} → (X → Decision × List FilteredPath) → Leaf → Option Decision → List X → ℕ → List PatternRule
rules_from f l o rs i = partial_rules l o (map f (drop i rs)) ++ last_rule o ∷ []

module _ {X : Type 0} (f : X → Decision × List FilteredPath) (l : Leaf) (o : Option Decision) (rs : List X) (p : X) (i : ℕ) where
  from_counted : counts l o (f p) ≡ true
      → partial_rules l o (map f (p ∷ drop (i + 1) rs)) ++ last_rule o ∷ [] ≡ partial_rule l (f p) ∷ rules_from f l o rs (i + 1)
  from_counted counted = rw counted refl

  from_other : counts l o (f p) ≡ false
      → partial_rules l o (map f (p ∷ drop (i + 1) rs)) ++ last_rule o ∷ [] ≡ rules_from f l o rs (i + 1)
  from_other other = rw other refl

  from_item : i < length rs → p ≡ get_or rs i p
      → rules_from f l o rs i ≡ partial_rules l o (map f (p ∷ drop (i + 1) rs)) ++ last_rule o ∷ []
  from_item less there =
      at_drop_more (λ (qs : List X). partial_rules l o (map f qs) ++ last_rule o ∷ []) rs i p less
      ∙ ap (λ (q : X). partial_rules l o (map f (q ∷ drop (i + 1) rs)) ++ last_rule o ∷ []) (sym there)

  pub rules_counted : i < length rs → p ≡ get_or rs i p → counts l o (f p) ≡ true → rules_from f l o rs i ≡ partial_rule l (f p) ∷ rules_from f l o rs (i + 1)
  rules_counted less there counted = from_item less there ∙ from_counted counted

  pub rules_other : i < length rs → p ≡ get_or rs i p → counts l o (f p) ≡ false → rules_from f l o rs i ≡ rules_from f l o rs (i + 1)
  rules_other less there other = from_item less there ∙ from_other other

-- the first rule that is for a value decides on it
pub decided_now : (matches : Tree → Bool) (r : PatternRule) (rs : List PatternRule) → is_for_value matches r ≡ true → decided_for matches (r ∷ rs) ≡ r.decision
decided_now matches r rs is = rw is refl

pub decided_later : (matches : Tree → Bool) (r : PatternRule) (rs : List PatternRule) → is_for_value matches r ≡ false → decided_for matches (r ∷ rs) ≡ decided_for matches rs
decided_later matches r rs other = rw other refl

-- so it does of the rules from the i-th on, if that counts for the leaf
module _ {X : Type 0} (f : X → Decision × List FilteredPath) (l : Leaf) (o : Option Decision) (rs : List X) (p : X) (i : ℕ) (less : i < length rs) (there : p ≡ get_or rs i p) (matches : Tree → Bool) where
  pub decided_here : counts l o (f p) ≡ true → list_any matches (filters_on l (f p).1) ≡ true → (f p).0 ≡ decided_for matches (rules_from f l o rs i)
  decided_here counted is =
      sym (decided_now matches (partial_rule l (f p)) (rules_from f l o rs (i + 1)) is)
      ∙ ap (decided_for matches) (sym (rules_counted f l o rs p i less there counted))

  pub decided_behind : counts l o (f p) ≡ true → list_any matches (filters_on l (f p).1) ≡ false → decided_for matches (rules_from f l o rs (i + 1)) ≡ decided_for matches (rules_from f l o rs i)
  decided_behind counted other =
      sym (decided_later matches (partial_rule l (f p)) (rules_from f l o rs (i + 1)) other)
      ∙ ap (decided_for matches) (sym (rules_counted f l o rs p i less there counted))

  pub decided_beside : counts l o (f p) ≡ false → decided_for matches (rules_from f l o rs (i + 1)) ≡ decided_for matches (rules_from f l o rs i)
  decided_beside other = ap (decided_for matches) (sym (rules_other f l o rs p i less there other))

-- ---- attributes on which no rule has a value filter

-- a path that is on none of some attributes covers no leaf of them
apart_covers : (attributes : List Attribute) (l : Leaf) (p : FilteredPath) → list_any (sameb the_attribute l.attribute) attributes ≡ true → is_on attributes p ≡ false → covers_in_part l p ≡ false
apart_covers attributes l p own apart =
    and_right (is_multi_valued l.attribute) _ (and_right (not (is_same_attribute l.attribute Groups)) _ (and_left _ (is_after p.sub_attribute l) (other attributes own apart)))
  where
    other : (more : List Attribute) → list_any (sameb the_attribute l.attribute) more ≡ true → is_on more p ≡ false → option_eq is_same_attribute (attribute_before p.tree) (Some l.attribute) ≡ false
    other [] own apart = cc
    other (a ∷ more) own apart =
        let parts = or_parts (option_eq is_same_attribute (attribute_before p.tree) (Some a)) (is_on more p) apart in
        elim (cases_Bool (sameb the_attribute l.attribute a)) [
          | inl one ↦ ap (λ (b : Attribute). option_eq is_same_attribute (attribute_before p.tree) (Some b)) (attribute_one l.attribute a one) ∙ parts.0
          | inr two ↦ other more (rw two at own) parts.1
        ]

paths_apart : (attributes : List Attribute) (l : Leaf) (ps : List FilteredPath) → list_any (sameb the_attribute l.attribute) attributes ≡ true → list_any (is_on attributes) ps ≡ false → list_any (covers_in_part l) ps ≡ false
paths_apart attributes l [] own apart = refl
paths_apart attributes l (p ∷ ps) own apart =
    let parts = or_parts (is_on attributes p) (list_any (is_on attributes) ps) apart in
    rw (apart_covers attributes l p own parts.0) (paths_apart attributes l ps own parts.1)

rules_apart : (attributes : List Attribute) (l : Leaf) (o : Option Decision) (rs : List PartialRule) → list_any (sameb the_attribute l.attribute) attributes ≡ true
    → list_any (λ (r : PartialRule). list_any (is_on attributes) r.filtered.now) rs ≡ false → partial_rules l o (map partial_paths rs) ≡ []
rules_apart attributes l o [] own apart = refl
rules_apart attributes l o (r ∷ rs) own apart =
    let parts = or_parts (list_any (is_on attributes) r.filtered.now) (list_any (λ (q : PartialRule). list_any (is_on attributes) q.filtered.now) rs) apart in
    rw (paths_apart attributes l r.filtered.now own parts.0) (rules_apart attributes l o rs own parts.1)

-- the pattern of a leaf of them in the table is the last rule
pub plain_rules : (ps : Patterns) (attributes : List Attribute) → list_any (λ (r : PartialRule). list_any (is_on attributes) r.filtered.now) ps.partial.items ≡ false
    → (l : Leaf) → list_any (sameb the_attribute l.attribute) attributes ≡ true → rules_in ps l ≡ record { decision = last_decision ps l; filters = None } ∷ []
unfolding rules_in last_decision
plain_rules ps attributes apart l own = ap (λ (rs : List PatternRule). rs ++ last_rule (decided ps.last l) ∷ []) (rules_apart attributes l (decided ps.last l) ps.partial.items own apart)
