-- What rules decide in part, with the decision behind it, is the pattern of the leaf.
use Rattle.std.proofs.Common.{◌≡◌, refl, sym, ap, ◌∙◌, ℕ, ◌+◌, true, false, List, [], ◌∷◌, ◌++◌, map, inl, inr}
use Rattle.std.specs.Prelude.{◌≢◌, Option, None, Some, filter}
use Rattle.std.specs.List.{before_first, cons_option, enumerate_from}
use Rattle.std.proofs.lemmas.Bool.{cases_Bool}
use Rattle.scim_schema.specs.declared.Op.{Op}
use Rattle.scim_schema.specs.declared.Op.TheVariants.{Read}
use Rattle.scim_schema.specs.declared.Leaf.{Leaf}
use Rattle.scim_schema.proofs.Facts.{and_first, and_second}
use Rattle.scim_cell.specs.Content.{Content}
use Rattle.scim_policy.specs.declared.misfits.Misfit.{Misfit}
use Rattle.scim_policy.specs.declared.rules.Decision.{Decision}
use Rattle.scim_policy.specs.Rules.{Rule}
use Rattle.scim_policy.specs.Fits.{covers_in, covers_partly, decide_wholly, fits, fits_wholly, speaks_of}
use Rattle.scim_policy.specs.Patterns.{decisions_of, pattern, pattern_rules, up_to_whole}
use Rattle.scim_explain.specs.Explain.{Explanation, entry_of, entry_with, explained, part_of, parts, parts_from}
use Rattle.scim_explain.proofs.ExplainLemmas.{first_decides, first_waits, no_misfit, own_misfit, told_from, whole_fits}
use Rattle.scim_explain.proofs.ListLemmas.{front_fails, front_passes, kept_first, left_out}

-- what is decided in part, by an explanation whose first entry is of the rule with this number, and the decision
abbrev told_pattern : ℕ → Explanation → List Decision
told_pattern n e = parts_from n e.entries ++ e.decision ∷ []

module _ (client : List ℕ) (op : Op) (c : Content) (l : Leaf) where
  -- the entry of a rule that fits is in part, and that of another isn't
  fit_part : (n : ℕ) (r : Rule) → fits client op c l r ≡ true → part_of n (entry_of client op c l r) ≡ Some (record { rule = n; allow = r.allow })
  fit_part n r fit = ap (λ (o : Option Misfit). part_of n (entry_with r.allow o)) (no_misfit client op c l r fit)

  unfit_part : (n : ℕ) (r : Rule) → fits client op c l r ≡ false → part_of n (entry_of client op c l r) ≡ None
  unfit_part n r apart = ap (λ (o : Option Misfit). part_of n (entry_with r.allow o)) (own_misfit client op c l r apart).1

-- ---- reading

module _ (client : List ℕ) (c : Content) (l : Leaf) where
  -- the pattern of rules numbered from n
  abbrev pub pattern_from : ℕ → List Rule → List Decision
  pattern_from n rs = decisions_of (up_to_whole c l (filter (λ (numbered : ℕ × Rule). fits client Read c l numbered.1) (enumerate_from n rs)))

  whole_covers : (r : Rule) → fits_wholly client Read c l r ≡ true → covers_in c l r ≡ true
  whole_covers r whole = and_second _ _ whole

  part_apart : (r : Rule) → fits client Read c l r ≡ true → fits_wholly client Read c l r ≡ false → covers_in c l r ≡ false
  part_apart r fit part = elim (cases_Bool (covers_in c l r)) [
    | inl covered ↦ absurd (
        let speaks : speaks_of client Read c r ≡ true = and_first _ _ fit in
        let whole : fits_wholly client Read c l r ≡ true = rw (speaks, covered) refl in
        cc
        )
    | inr apart ↦ apart
  ]

  up_to_first : (n : ℕ) (r : Rule) (ns : List (ℕ × Rule)) → covers_in c l r ≡ true → decisions_of (up_to_whole c l ((n, r) ∷ ns)) ≡ record { rule = n; allow = r.allow } ∷ []
  up_to_first n r ns covered = rw covered refl

  up_to_later : (n : ℕ) (r : Rule) (ns : List (ℕ × Rule)) → covers_in c l r ≡ false → decisions_of (up_to_whole c l ((n, r) ∷ ns)) ≡ record { rule = n; allow = r.allow } ∷ decisions_of (up_to_whole c l ns)
  up_to_later n r ns apart = rw apart refl

  -- the pattern by the first of the rules: it ends there, goes on there, or passes over it
  pub pattern_ends : (n : ℕ) (r : Rule) (rs : List Rule) → fits_wholly client Read c l r ≡ true → pattern_from n (r ∷ rs) ≡ record { rule = n; allow = r.allow } ∷ []
  pattern_ends n r rs whole =
      ap (λ (ns : List (ℕ × Rule)). decisions_of (up_to_whole c l ns)) (kept_first (fits client Read c l) n r rs (whole_fits client Read c l r whole))
      ∙ up_to_first n r _ (whole_covers r whole)

  pub pattern_goes_on : (n : ℕ) (r : Rule) (rs : List Rule) → fits client Read c l r ≡ true → fits_wholly client Read c l r ≡ false → pattern_from n (r ∷ rs) ≡ record { rule = n; allow = r.allow } ∷ pattern_from (n + 1) rs
  pattern_goes_on n r rs fit part =
      ap (λ (ns : List (ℕ × Rule)). decisions_of (up_to_whole c l ns)) (kept_first (fits client Read c l) n r rs fit)
      ∙ up_to_later n r _ (part_apart r fit part)

  pub pattern_passes : (n : ℕ) (r : Rule) (rs : List Rule) → fits client Read c l r ≡ false → pattern_from n (r ∷ rs) ≡ pattern_from (n + 1) rs
  pattern_passes n r rs apart = ap (λ (ns : List (ℕ × Rule)). decisions_of (up_to_whole c l ns)) (left_out (fits client Read c l) n r rs apart)

  tells_from : (n : ℕ) (rs : List Rule) → told_pattern n (told_from client Read c l n rs) ≡ pattern_from n rs
  tells_from n [] = refl
  tells_from n (r ∷ rs) = elim (cases_Bool (fits_wholly client Read c l r)) [
    | inl whole ↦ ap (told_pattern n) (first_decides client Read c l n r rs whole) ∙ sym (pattern_ends n r rs whole)
    | inr part ↦ (
        let rest = told_from client Read c l (n + 1) rs in
        let waits : told_pattern n (told_from client Read c l n (r ∷ rs)) ≡ cons_option (part_of n (entry_of client Read c l r)) (parts_from (n + 1) rest.entries) ++ rest.decision ∷ [] =
        ap (told_pattern n) (first_waits client Read c l n r rs part) in
        elim (cases_Bool (fits client Read c l r)) [
          | inl fit ↦ (
              waits
              ∙ ap (λ (o : Option Decision). cons_option o (parts_from (n + 1) rest.entries) ++ rest.decision ∷ []) (fit_part client Read c l n r fit)
              ∙ ap (λ (ds : List Decision). record { rule = n; allow = r.allow } ∷ ds) (tells_from (n + 1) rs)
              ∙ sym (pattern_goes_on n r rs fit part)
              )
          | inr apart ↦ (
              waits
              ∙ ap (λ (o : Option Decision). cons_option o (parts_from (n + 1) rest.entries) ++ rest.decision ∷ []) (unfit_part client Read c l n r apart)
              ∙ tells_from (n + 1) rs
              ∙ sym (pattern_passes n r rs apart)
              )
        ]
        )
  ]

pub tells_pattern : (policy : List Rule) (client : List ℕ) (c : Content) (l : Leaf) → parts (explained policy client Read c l) ++ (explained policy client Read c l).decision ∷ [] ≡ pattern policy client c l
unfolding decide_wholly pattern_rules
tells_pattern policy client c l = tells_from client c l 1 policy

-- ---- other operations

not_partly : (op : Op) (c : Content) (l : Leaf) (r : Rule) → op ≢ Read → covers_partly op c l r ≡ false
not_partly Read c l r other = absurd (other refl)
not_partly _ c l r other = refl

not_fitting : (client : List ℕ) (op : Op) (c : Content) (l : Leaf) (r : Rule) → op ≢ Read → fits_wholly client op c l r ≡ false → fits client op c l r ≡ false
not_fitting client op c l r other part = elim (cases_Bool (speaks_of client op c r)) [
  | inl speaks ↦ elim (cases_Bool (covers_in c l r)) [
    | inl covered ↦ absurd (let whole : fits_wholly client op c l r ≡ true = rw (speaks, covered) refl in cc)
    | inr apart ↦ rw (speaks, apart) (not_partly op c l r other)
  ]
  | inr silent ↦ rw silent refl
]

none_from : (client : List ℕ) (op : Op) (c : Content) (l : Leaf) → op ≢ Read → (n : ℕ) (rs : List Rule) → parts_from n (map (entry_of client op c l) (before_first (fits_wholly client op c l) rs)) ≡ []
none_from client op c l other n [] = refl
none_from client op c l other n (r ∷ rs) = elim (cases_Bool (fits_wholly client op c l r)) [
  | inl whole ↦ ap (λ (qs : List Rule). parts_from n (map (entry_of client op c l) qs)) (front_passes (fits_wholly client op c l) r rs whole)
  | inr part ↦ (
      let behind = map (entry_of client op c l) (before_first (fits_wholly client op c l) rs) in
      ap (λ (qs : List Rule). parts_from n (map (entry_of client op c l) qs)) (front_fails (fits_wholly client op c l) r rs part)
      ∙ ap (λ (o : Option Decision). cons_option o (parts_from (n + 1) behind)) (unfit_part client op c l n r (not_fitting client op c l r other part))
      ∙ none_from client op c l other (n + 1) rs
      )
]

pub none_in_part : (policy : List Rule) (client : List ℕ) (op : Op) (c : Content) (l : Leaf) → op ≢ Read → parts (explained policy client op c l) ≡ []
none_in_part policy client op c l other = none_from client op c l other 1 policy
