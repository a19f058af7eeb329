-- How the fields of a value are decided by the rules that it matches.
use Rattle.std.proofs.Common.{◌≡◌, refl, sym, ap, ap₂, ◌∙◌, Bool, true, false, List, [], ◌∷◌, ◌++◌, map, inl, inr}
use Rattle.std.specs.Prelude.{◌&&◌, Option, filter, if◌then◌else◌}
use Rattle.std.specs.List.{list_any}
use Rattle.std.proofs.lemmas.Bool.{cases_Bool, or_left, or_right}
use Rattle.scim_schema.specs.declared.Leaf.{Leaf}
use Rattle.scim_cell.specs.declared.rows.Field.{Field}
use Rattle.scim_cell.specs.Rows.{Row}
use Rattle.scim_filter.specs.Truth.{truth_in_value}
use Rattle.scim_policy.specs.declared.rules.Decision.{Decision}
use Rattle.scim_policy.specs.declared.patterns.Patterns.{Patterns}
use Rattle.scim_policy.specs.Rules.{FilteredPath}
use Rattle.scim_policy.specs.Fits.{covers_in_part}
use Rattle.scim_policy.specs.Patterns.{decided_for, decisions_of, filters_on, first_or_denied}
use Rattle.scim_policy.specs.PatternTable.{is_before, partial_paths, partial_rules, last_rule, rules_in}
use Rattle.scim_policy.specs.Table.{decided}
use Rattle.scim_policy.specs.code.ValueWalk.{covers_field, matched_in, matching}

-- where a path covers the leaf, it covers a field
abbrev IsFieldLeaf : List Field → Leaf → Type 0
IsFieldLeaf fs l = (p : FilteredPath) → covers_in_part l p ≡ true → covers_field fs p ≡ true

module _ (value : Row) (l : Leaf) (own : IsFieldLeaf value.fields l) where
  -- a value matches a filter for the leaf where one of the matched paths covers the leaf
  matched_same : (ps : List FilteredPath) → list_any (λ t. truth_in_value t value) (filters_on l ps) ≡ list_any (covers_in_part l) (matched_in value ps)
  matched_same [] = refl
  matched_same (p ∷ ps) = elim (cases_Bool (covers_in_part l p)) [
    | inl covers ↦ (
        let field : covers_field value.fields p ≡ true = own p covers in
        elim (cases_Bool (truth_in_value p.tree value)) [
          | inl holds ↦ rw (covers, field, holds, covers) refl
          | inr fails ↦ rw (covers, field, fails) (matched_same ps)
        ]
        )
    | inr apart ↦ elim (cases_Bool (covers_field value.fields p && truth_in_value p.tree value)) [
      | inl kept ↦ rw (apart, kept, apart) (matched_same ps)
      | inr gone ↦ rw (apart, gone) (matched_same ps)
    ]
  ]

  -- where a value matches a filter for the leaf, a path covers the leaf
  some_covers : (ps : List FilteredPath) → list_any (λ t. truth_in_value t value) (filters_on l ps) ≡ true → list_any (covers_in_part l) ps ≡ true
  some_covers [] e = e
  some_covers (p ∷ ps) e = elim (cases_Bool (covers_in_part l p)) [
    | inl covers ↦ or_left _ _ covers
    | inr apart ↦ or_right _ _ (some_covers ps (sym (ap (λ (b : Bool). list_any (λ t. truth_in_value t value) (map (λ (q : FilteredPath). q.tree) (if b then p ∷ filter (covers_in_part l) ps else filter (covers_in_part l) ps))) apart) ∙ e))
  ]

  -- the decision on the leaf in the value is that of the first matching rule
  pub decided_matching : (whole : Option Decision) (ps : List (Decision × List FilteredPath))
      → decided_for (λ t. truth_in_value t value) (partial_rules l whole ps ++ last_rule whole ∷ [])
      ≡ first_or_denied (decisions_of (partial_rules l whole (map (matching value) ps) ++ last_rule whole ∷ []))
  decided_matching whole [] = refl
  decided_matching whole (p ∷ ps) =
      let same = matched_same p.1 in
      elim (cases_Bool (is_before p.0.rule whole)) [
        | inl before ↦ elim (cases_Bool (list_any (λ t. truth_in_value t value) (filters_on l p.1))) [
          | inl holds ↦ (
              let some = some_covers p.1 holds in
              let matched : list_any (covers_in_part l) (matched_in value p.1) ≡ true = sym same ∙ holds in
              rw (before, some, holds, matched) refl
              )
          | inr fails ↦ (
              let none : list_any (covers_in_part l) (matched_in value p.1) ≡ false = sym same ∙ fails in
              elim (cases_Bool (list_any (covers_in_part l) p.1)) [
                | inl some ↦ rw (before, some, fails, none) (decided_matching whole ps)
                | inr other ↦ rw (before, other, none) (decided_matching whole ps)
              ]
              )
        ]
        | inr late ↦ elim (cases_Bool (list_any (covers_in_part l) p.1)) [
          | inl some ↦ elim (cases_Bool (list_any (covers_in_part l) (matched_in value p.1))) [
            | inl matched ↦ rw (late, some, matched) (decided_matching whole ps)
            | inr none ↦ rw (late, some, none) (decided_matching whole ps)
          ]
          | inr other ↦ elim (cases_Bool (list_any (covers_in_part l) (matched_in value p.1))) [
            | inl matched ↦ rw (late, other, matched) (decided_matching whole ps)
            | inr none ↦ rw (late, other, none) (decided_matching whole ps)
          ]
        ]
      ]

-- whether the first of the matching rules that covers the leaf allows, or the last rule of the pattern
abbrev pub is_allowed_by : Patterns → List (Decision × List FilteredPath) → Leaf → Bool
is_allowed_by ps ms l = (first_or_denied (decisions_of (partial_rules l (decided ps.last l) ms ++ last_rule (decided ps.last l) ∷ []))).allow

-- whether the patterns allow reading the leaf in the value
abbrev pub is_allowed_in : Patterns → Row → Leaf → Bool
is_allowed_in ps value l = (decided_for (λ t. truth_in_value t value) (rules_in ps l)).allow

one_allowed : (ps : Patterns) (value : Row) (l : Leaf) → IsFieldLeaf value.fields l → is_allowed_by ps (map (matching value) (map partial_paths ps.partial.items)) l ≡ is_allowed_in ps value l
unfolding rules_in
one_allowed ps value l own = ap (λ (d : Decision). d.allow) (sym (decided_matching value l own (decided ps.last l) (map partial_paths ps.partial.items)))

some_allowed : (ps : Patterns) (value : Row) (fs : List Field) → ((p : FilteredPath) → covers_field fs p ≡ true → covers_field value.fields p ≡ true)
    → map (λ (f : Field). is_allowed_by ps (map (matching value) (map partial_paths ps.partial.items)) f.leaf) fs ≡ map (λ (f : Field). is_allowed_in ps value f.leaf) fs
some_allowed ps value [] among = refl
some_allowed ps value (f ∷ fs) among =
    ap₂ ◌∷◌ (one_allowed ps value f.leaf (λ p covers. among p (or_left _ _ covers)))
    (some_allowed ps value fs (λ p covers. among p (or_right _ _ covers)))

-- so it is of all fields of the value
pub all_fields_allowed : (ps : Patterns) (value : Row) (ms : List (Decision × List FilteredPath)) → ms ≡ map (matching value) (map partial_paths ps.partial.items)
    → map (λ (f : Field). is_allowed_by ps ms f.leaf) value.fields ≡ map (λ (f : Field). is_allowed_in ps value f.leaf) value.fields
all_fields_allowed ps value ms same =
    ap (λ (ns : List (Decision × List FilteredPath)). map (λ (f : Field). is_allowed_by ps ns f.leaf) value.fields) same
    ∙ some_allowed ps value value.fields (λ p covers. covers)
