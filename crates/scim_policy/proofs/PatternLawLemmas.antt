-- What patterns say of positions, of values and of leaves as a whole.
use Rattle.std.proofs.Common.{◌≡◌, refl, sym, ap, ap₂, ◌∙◌, ℕ, zero, suc, ◌+◌, Bool, true, false, List, [], ◌∷◌, ◌++◌, length, drop, take, inl, inr, arith}
use Rattle.std.specs.Prelude.{not, ◌&&◌, ◌||◌, ◌==◌, slice_get, Some, None, filter, if◌then◌else◌}
use Rattle.std.specs.List.{list_any, list_all, enumerate_from}
use Rattle.std.specs.Option.{option_eq}
use Rattle.std.proofs.lemmas.Bool.{cases_Bool, eqb-true, or_left, or_right}
use denote.Enum.Bare.{sameb}
use Rattle.scim_schema.specs.declared.Kind.{Kind}
use Rattle.scim_schema.specs.declared.Op.TheVariants.{Read}
use Rattle.scim_schema.specs.declared.Leaf.{Leaf}
use Rattle.scim_schema.specs.declared.Attribute.{Attribute}
use Rattle.scim_schema.specs.declared.Attribute.TheVariants.{Groups}
use Rattle.scim_schema.specs.contracts.Kind.{the_type as the_kind}
use Rattle.scim_schema.specs.Characteristics.{is_multi_valued}
use Rattle.scim_schema.specs.Units.{is_same_attribute}
use Rattle.scim_schema.proofs.Facts.{attribute_one}
use Rattle.scim_cell.specs.Content.{Content}
use Rattle.scim_cell.specs.Rows.{Row, rows, attribute_rows}
use Rattle.scim_filter_grammar.specs.declared.tree.Meant.{Meant}
use Rattle.scim_filter_grammar.specs.declared.tree.Meant.TheVariants as meant
use Rattle.scim_filter_grammar.specs.Tree.{Tree, Values, attribute_meant}
use Rattle.scim_filter.specs.Truth.{rows_at, truth, truth_at, truth_in_value}
use Rattle.scim_policy.specs.declared.rules.Decision.{Decision}
use Rattle.scim_policy.specs.Rules.{FilteredPath, KindPaths, Rule}
use Rattle.scim_policy.specs.Fits.{attribute_before, covers_in, covers_in_part, covers_partly, decide_wholly, filtered_on, first_of, fits, fits_wholly, speaks_of}
use Rattle.scim_policy.specs.Decide.{decide}
use Rattle.scim_policy.specs.Opened.{allows}
use Rattle.scim_policy.specs.Patterns.{PatternRule, decided_for, decisions_of, decide_at, decide_in, decision_of, filters_on, first_or_denied, is_for_value, pattern, pattern_rules, up_to_whole, whole_decision}
use Rattle.scim_policy.proofs.PatternLemmas.{whole_first, partial_first}
use Rattle.scim_policy.specs.PatternLaws.{is_plain, PlainPoliciesDecideOnce, PositionsAreDecidedByValue, WholesAllowEachValue}

and_first : (a b : Bool) → a && b ≡ true → a ≡ true
and_first true b e = refl
and_first false b e = e

and_second : (a b : Bool) → a && b ≡ true → b ≡ true
and_second true b e = e
and_second false b e = cc

neither_first : (a b : Bool) → a || b ≡ false → a ≡ false
neither_first true b e = e
neither_first false b e = refl

neither_second : (a b : Bool) → a || b ≡ false → b ≡ false
neither_second true b e = cc
neither_second false b e = e

-- ---- patterns of one rule

none_filtered : (k : Kind) (ps : List KindPaths) → list_all (λ (p : KindPaths). length p.filtered == 0) ps ≡ true → filtered_on k ps ≡ []
none_filtered k [] plain = refl
none_filtered k (p ∷ ps) plain = elim (cases_Bool (sameb the_kind k p.kind)) [
  | inl own ↦ rw own (no_elements p.filtered (and_first _ _ plain))
  | inr other ↦ rw other (none_filtered k ps (and_second _ _ plain))
]
  where
    no_elements : (fs : List FilteredPath) → (length fs == 0) ≡ true → fs ≡ []
    no_elements [] e = refl
    no_elements (f ∷ fs) e = absurd (omega (arith, eqb-true (length (f ∷ fs)) 0 e))

plain_undivided : (c : Content) (l : Leaf) (rs : List Rule) → is_plain rs ≡ true → list_any (covers_partly Read c l) rs ≡ false
plain_undivided c l [] plain = refl
plain_undivided c l (r ∷ rs) plain =
    let none : filtered_on c.kind r.paths ≡ [] = none_filtered c.kind r.paths (and_first _ _ plain) in
    rw none (plain_undivided c l rs (and_second _ _ plain))

-- no value filter covers a leaf of a single-valued attribute, or of `groups`
none_covers : (l : Leaf) (ps : List FilteredPath) → ((p : FilteredPath) → covers_in_part l p ≡ false) → list_any (covers_in_part l) ps ≡ false
none_covers l [] none = refl
none_covers l (p ∷ ps) none = rw (none p) (none_covers l ps none)

none_divides : (c : Content) (l : Leaf) (rs : List Rule) → ((p : FilteredPath) → covers_in_part l p ≡ false) → list_any (covers_partly Read c l) rs ≡ false
none_divides c l [] none = refl
none_divides c l (r ∷ rs) none = rw (none_covers l (filtered_on c.kind r.paths) none) (none_divides c l rs none)

pub single_undivided : (c : Content) (l : Leaf) (rs : List Rule) → is_multi_valued l.attribute ≡ false → list_any (covers_partly Read c l) rs ≡ false
single_undivided c l rs single = none_divides c l rs (λ p. rw single refl)

pub groups_undivided : (c : Content) (l : Leaf) (rs : List Rule) → l.attribute ≡ Groups → list_any (covers_partly Read c l) rs ≡ false
groups_undivided c l rs own = none_divides c l rs (λ p. rw own refl)

-- if no rule covers the leaf at some values, the first that covers it at all values is the whole pattern
undivided_rules : (client : List ℕ) (c : Content) (l : Leaf) (n : ℕ) (rs : List Rule) → list_any (covers_partly Read c l) rs ≡ false
    → up_to_whole c l (filter (λ (numbered : ℕ × Rule). fits client Read c l numbered.1) (enumerate_from n rs))
    ≡ record { decision = first_of (filter (λ (numbered : ℕ × Rule). fits_wholly client Read c l numbered.1) (enumerate_from n rs)); filters = None } ∷ []
undivided_rules client c l n [] none = refl
undivided_rules client c l n (r ∷ rs) none =
    let own : covers_partly Read c l r ≡ false = neither_first _ _ none in
    let ih = undivided_rules client c l (n + 1) rs (neither_second _ _ none) in
    elim (cases_Bool (speaks_of client Read c r)) [
      | inl speaks ↦ elim (cases_Bool (covers_in c l r)) [
        | inl covered ↦ rw (speaks, covered) (whole_first c l (n, r) _ covered)
        | inr apart ↦ rw (speaks, apart, own) ih
      ]
      | inr silent ↦ rw silent ih
    ]

undivided_wholly : (policy : List Rule) (client : List ℕ) (c : Content) (l : Leaf) → list_any (covers_partly Read c l) policy ≡ false
    → pattern_rules policy client c l ≡ record { decision = decide_wholly policy client Read c l; filters = None } ∷ []
unfolding pattern_rules decide_wholly
undivided_wholly policy client c l none = undivided_rules client c l 1 policy none

pub whole_one : (d : Decision) → whole_decision (d ∷ []) ≡ d
whole_one d = elim (cases_Bool d.allow) [ inl t ↦ rw t refl | inr f ↦ rw f refl ]

pub undivided_decision : (policy : List Rule) (client : List ℕ) (c : Content) (l : Leaf) → list_any (covers_partly Read c l) policy ≡ false
    → decide policy client Read c l ≡ decide_wholly policy client Read c l
unfolding decide
undivided_decision policy client c l none =
    ap (λ (rs : List PatternRule). whole_decision (decisions_of rs)) (undivided_wholly policy client c l none)
    ∙ whole_one (decide_wholly policy client Read c l)

-- it is the decision on the leaf
pub undivided_pattern : (policy : List Rule) (client : List ℕ) (c : Content) (l : Leaf) → list_any (covers_partly Read c l) policy ≡ false
    → pattern_rules policy client c l ≡ record { decision = decide policy client Read c l; filters = None } ∷ []
undivided_pattern policy client c l none =
    undivided_wholly policy client c l none
    ∙ ap (λ (d : Decision). record { decision = d; filters = None } ∷ []) (sym (undivided_decision policy client c l none))

pub plain_once : PlainPoliciesDecideOnce
unfolding decide_at decide_in
plain_once policy client c l plain =
    let rules = undivided_pattern policy client c l (plain_undivided c l policy plain) in
    record {
      one = ap decisions_of rules;
      positions = λ k. ap (decided_for (λ t. truth_at t k (rows c))) rules;
      values = λ r. ap (decided_for (λ t. truth_in_value t r)) rules;
    }

-- ---- positions and their values

one_there : (rs : List Row) (k : ℕ) (r : Row) → slice_get rs k ≡ Some r → take 1 (drop k rs) ≡ r ∷ []
one_there [] k r e = cc
one_there (s ∷ rs) zero r e = ap (λ (q : Row). q ∷ []) (some_same s r e)
  where
    some_same : (a b : Row) → Some a ≡ Some b → a ≡ b
    some_same a b same = cc
one_there (s ∷ rs) (suc k) r e = one_there rs k r e

-- a filter on an attribute sees the value at a position alone
meant_same : (inner : Tree) (m : Meant) (a : Attribute) (k : ℕ) (rs : List Row) (r : Row) → option_eq is_same_attribute (attribute_meant m) (Some a) ≡ true → is_multi_valued a ≡ true
    → slice_get (attribute_rows a rs) k ≡ Some r → truth inner (rows_at m k rs) ≡ truth inner (r ∷ [])
meant_same inner meant.Nothing a k rs r on many there = cc
meant_same inner (meant.Attribute b) a k rs r on many there =
    let same : b ≡ a = attribute_one b a on in
    rw (same, many) (ap (truth inner) (one_there (attribute_rows a rs) k r there))
meant_same inner (meant.SubAttribute b sub) a k rs r on many there = cc

tree_same : (t : Tree) (a : Attribute) (k : ℕ) (rs : List Row) (r : Row) → option_eq is_same_attribute (attribute_before t) (Some a) ≡ true → is_multi_valued a ≡ true
    → slice_get (attribute_rows a rs) k ≡ Some r → truth_at t k rs ≡ truth_in_value t r
tree_same (Values path inner) a k rs r on many there = meant_same inner path.meant a k rs r on many there
tree_same _ a k rs r on many there = cc

-- filters of paths on the leaf's attribute see the value at a position alone
filters_same : (l : Leaf) (k : ℕ) (rs : List Row) (r : Row) (ps : List FilteredPath) → slice_get (attribute_rows l.attribute rs) k ≡ Some r
    → list_any (λ t. truth_at t k rs) (filters_on l ps) ≡ list_any (λ t. truth_in_value t r) (filters_on l ps)
filters_same l k rs r [] there = refl
filters_same l k rs r (p ∷ ps) there = elim (cases_Bool (covers_in_part l p)) [
  | inl covered ↦ (
      let many : is_multi_valued l.attribute ≡ true = and_first _ _ covered in
      let on : option_eq is_same_attribute (attribute_before p.tree) (Some l.attribute) ≡ true = and_first _ _ (and_second _ _ (and_second _ _ covered)) in
      rw (covered, tree_same p.tree l.attribute k rs r on many there, filters_same l k rs r ps there) refl
      )
  | inr other ↦ rw other (filters_same l k rs r ps there)
]

rules_same : (c : Content) (l : Leaf) (k : ℕ) (r : Row) (ns : List (ℕ × Rule)) → slice_get (attribute_rows l.attribute (rows c)) k ≡ Some r
    → decided_for (λ t. truth_at t k (rows c)) (up_to_whole c l ns) ≡ decided_for (λ t. truth_in_value t r) (up_to_whole c l ns)
rules_same c l k r [] there = refl
rules_same c l k r (n ∷ ns) there = elim (cases_Bool (covers_in c l n.1)) [
  | inl whole ↦ rw (whole_first c l n ns whole) refl
  | inr other ↦ rw (partial_first c l n ns other, filters_same l k (rows c) r (filtered_on c.kind n.1.paths) there)
      (elim (cases_Bool (list_any (λ t. truth_in_value t r) (filters_on l (filtered_on c.kind n.1.paths)))) [
        | inl it ↦ rw it refl
        | inr none ↦ rw none (rules_same c l k r ns there)
      ])
]

pub positions_by_value : PositionsAreDecidedByValue
unfolding decide_at decide_in pattern_rules
positions_by_value policy client c l k r there =
    rules_same c l k r (filter (λ (numbered : ℕ × Rule). fits client Read c l numbered.1) (enumerate_from 1 policy)) there

-- ---- leaves as a whole

-- if each rule allows, each value may be read
all_allowed : (matches : Tree → Bool) (c : Content) (l : Leaf) (ns : List (ℕ × Rule)) → list_all (λ (d : Decision). d.allow) (decisions_of (up_to_whole c l ns)) ≡ true → (decided_for matches (up_to_whole c l ns)).allow ≡ true
all_allowed matches c l [] all = cc
all_allowed matches c l (n ∷ ns) all = elim (cases_Bool (covers_in c l n.1)) [
  | inl whole ↦ (
      let own : n.1.allow && true ≡ true = sym (ap (λ (rs : List PatternRule). list_all (λ (d : Decision). d.allow) (decisions_of rs)) (whole_first c l n ns whole)) ∙ all in
      rw (whole_first c l n ns whole) (and_first _ _ own)
      )
  | inr other ↦ (
      let both : n.1.allow && list_all (λ (d : Decision). d.allow) (decisions_of (up_to_whole c l ns)) ≡ true = sym (ap (λ (rs : List PatternRule). list_all (λ (d : Decision). d.allow) (decisions_of rs)) (partial_first c l n ns other)) ∙ all in
      rw (partial_first c l n ns other)
      (elim (cases_Bool (list_any matches (filters_on l (filtered_on c.kind n.1.paths)))) [
        | inl it ↦ rw it (and_first _ _ both)
        | inr none ↦ rw none (all_allowed matches c l ns (and_second _ _ both))
      ])
      )
]

-- the first of those that deny, or of others that allow, allows where none denies
first_allows : (ds es : List Decision) (allow : Bool) → (first_or_denied es).allow ≡ allow → (list_all (λ (d : Decision). d.allow) ds ≡ true → allow ≡ true)
    → (first_or_denied (filter (λ (d : Decision). not d.allow) ds ++ es)).allow ≡ list_all (λ (d : Decision). d.allow) ds
first_allows [] es allow first all = first ∙ all refl
first_allows (d ∷ ds) es allow first all = elim (cases_Bool d.allow) [
  | inl yes_allow ↦ ap (λ (b : Bool). (first_or_denied ((if not b then d ∷ filter (λ (e : Decision). not e.allow) ds else filter (λ (e : Decision). not e.allow) ds) ++ es)).allow) yes_allow
      ∙ first_allows ds es allow first (λ rest. all (ap₂ ◌&&◌ yes_allow rest))
      ∙ sym (ap (λ (b : Bool). b && list_all (λ (e : Decision). e.allow) ds) yes_allow)
  | inr denies ↦ ap (λ (b : Bool). (first_or_denied ((if not b then d ∷ filter (λ (e : Decision). not e.allow) ds else filter (λ (e : Decision). not e.allow) ds) ++ es)).allow) denies
      ∙ denies
      ∙ sym (ap (λ (b : Bool). b && list_all (λ (e : Decision). e.allow) ds) denies)
]

whole_of : (c : Content) (l : Leaf) (ns : List (ℕ × Rule)) → (whole_decision (decisions_of (up_to_whole c l ns))).allow ≡ list_all (λ (d : Decision). d.allow) (decisions_of (up_to_whole c l ns))
whole_of c l [] = refl
whole_of c l (n ∷ ns) = elim (cases_Bool (covers_in c l n.1)) [
  | inl whole ↦ rw (whole_first c l n ns whole) (one (decision_of n) [])
  | inr other ↦ rw (partial_first c l n ns other) (one (decision_of n) (decisions_of (up_to_whole c l ns)))
]
  where
    one : (d : Decision) (ds : List Decision) → (whole_decision (d ∷ ds)).allow ≡ list_all (λ (e : Decision). e.allow) (d ∷ ds)
    one d ds = first_allows (d ∷ ds) (d ∷ ds) d.allow refl (λ all. and_first _ _ all)

pub wholes_allow : WholesAllowEachValue
unfolding decide pattern_rules decide_at decide_in
wholes_allow policy client c l =
    let ns = filter (λ (numbered : ℕ × Rule). fits client Read c l numbered.1) (enumerate_from 1 policy) in
    let every = whole_of c l ns in
    record {
      every = every;
      positions = λ allowed k. all_allowed (λ t. truth_at t k (rows c)) c l ns (sym every ∙ allowed);
      values = λ allowed r. all_allowed (λ t. truth_in_value t r) c l ns (sym every ∙ allowed);
    }

-- ---- patterns of which a rule allows

-- if the first rule that is for a value allows, a rule allows
pub some_allows_for : (matches : Tree → Bool) (rs : List PatternRule) → (decided_for matches rs).allow ≡ true → list_any allows (decisions_of rs) ≡ true
some_allows_for matches [] = λ none. cc
some_allows_for matches (r ∷ rs) = elim (cases_Bool (is_for_value matches r)) [
  | inl it ↦ rw it (λ allowed. or_left _ _ allowed)
  | inr other ↦ rw other (λ allowed. or_right _ _ (some_allows_for matches rs allowed))
]

pub some_allows_in : (policy : List Rule) (client : List ℕ) (c : Content) (l : Leaf) (r : Row) → (decide_in policy client c l r).allow ≡ true → list_any allows (pattern policy client c l) ≡ true
unfolding decide_in
some_allows_in policy client c l r allowed = some_allows_for (λ t. truth_in_value t r) (pattern_rules policy client c l) allowed

-- a pattern isn't empty: if all its rules allow, one does
some_of : (c : Content) (l : Leaf) (ns : List (ℕ × Rule)) → list_all allows (decisions_of (up_to_whole c l ns)) ≡ true → list_any allows (decisions_of (up_to_whole c l ns)) ≡ true
some_of c l [] = λ all. cc
some_of c l (n ∷ ns) = elim (cases_Bool (covers_in c l n.1)) [
  | inl whole ↦ rw (whole_first c l n ns whole) (first_some (decision_of n) [])
  | inr other ↦ rw (partial_first c l n ns other) (first_some (decision_of n) (decisions_of (up_to_whole c l ns)))
]
  where
    first_some : (d : Decision) (ds : List Decision) → list_all allows (d ∷ ds) ≡ true → list_any allows (d ∷ ds) ≡ true
    first_some d ds all = or_left d.allow (list_any allows ds) (and_first d.allow (list_all allows ds) all)

pub some_allows : (policy : List Rule) (client : List ℕ) (c : Content) (l : Leaf) → list_all allows (pattern policy client c l) ≡ true → list_any allows (pattern policy client c l) ≡ true
unfolding pattern_rules
some_allows policy client c l all = some_of c l (filter (λ (numbered : ℕ × Rule). fits client Read c l numbered.1) (enumerate_from 1 policy)) all
