-- What is told of rules, one after another.
use Rattle.std.proofs.Common.{◌≡◌, refl, sym, ap, ◌∙◌, ℕ, ◌+◌, ◌<◌, ◌≤◌, Bool, true, false, List, [], ◌∷◌, ◌++◌, length, get_or, map, drop, append_assoc, append-nil, arith}
use Rattle.std.specs.Prelude.{Option, Some, None, not, is_some, filter, if◌then◌else◌}
use Rattle.std.specs.List.{before_first, enumerate_from}
use Rattle.std.proofs.lemmas.List.{at_drop_more}
use Rattle.std.proofs.Math.ListN.{drop_of_length-le}
use Rattle.scim_schema.specs.declared.Op.{Op}
use Rattle.scim_schema.specs.declared.Leaf.{Leaf}
use Rattle.scim_schema.proofs.Facts.{and_first, and_second}
use Rattle.scim_cell.specs.Content.{Content}
use Rattle.scim_policy.specs.declared.misfits.Misfit.{Misfit}
use Rattle.scim_policy.specs.Rules.{Rule}
use Rattle.scim_policy.specs.Fits.{covers_in, speaks_of, decide_wholly, fits, fits_wholly, first_of, misfit_of}
use Rattle.scim_explain.proofs.ListLemmas.{front_fails, left_out}
use Rattle.scim_explain.specs.declared.explanations.Earlier.{Earlier}
use Rattle.scim_explain.specs.Explain.{Explanation, entry_of, explained}

-- what rules numbered from n decide, and why
abbrev pub told_from : List ℕ → Op → Content → Leaf → ℕ → List Rule → Explanation
told_from client op c l n rs = record {
  entries = map (entry_of client op c l) (before_first (fits_wholly client op c l) rs);
  decision = first_of (filter (λ (numbered : ℕ × Rule). fits_wholly client op c l numbered.1) (enumerate_from n rs));
}

-- an explanation behind further entries
abbrev pub behind : List Earlier → Explanation → Explanation
behind es e = record { entries = es ++ e.entries; decision = e.decision }

behind_behind : (done : List Earlier) (entry : Earlier) (e : Explanation) → behind (done ++ entry ∷ []) e ≡ behind done (behind (entry ∷ []) e)
behind_behind done entry e = λ i. record { entries = append_assoc done (entry ∷ []) e.entries i; decision = e.decision }

behind_none : (done : List Earlier) (e : Explanation) → e.entries ≡ [] → behind done e ≡ record { entries = done; decision = e.decision }
behind_none done e none =
    let entries : done ++ e.entries ≡ done = ap (λ (es : List Earlier). done ++ es) none ∙ append-nil done in
    λ i. record { entries = entries i; decision = e.decision }

pub told_policy : (policy : List Rule) (client : List ℕ) (op : Op) (c : Content) (l : Leaf) → told_from client op c l 1 policy ≡ explained policy client op c l
unfolding decide_wholly
told_policy policy client op c l = refl

misfit_in : (o : Option Misfit) (b : Bool) → is_some o ≡ not b → b ≡ false → (m : Misfit) × (o ≡ Some m)
misfit_in None b e apart = cc
misfit_in (Some m) b e apart = (m, refl)

none_in : (o : Option Misfit) (b : Bool) → is_some o ≡ not b → b ≡ true → o ≡ None
none_in None b e fit = refl
none_in (Some m) b e fit = cc

-- the entry of a rule; None if it decides
abbrev told : Bool → Earlier → Option Earlier
told whole entry = if whole then None else Some entry

told_some : (whole : Bool) (own entry : Earlier) → told whole own ≡ Some entry → (whole ≡ false) × (own ≡ entry)
told_some true own entry e = cc
told_some false own entry e = (refl, cc)

told_none : (whole : Bool) (own : Earlier) → told whole own ≡ None → whole ≡ true
told_none true own e = refl
told_none false own e = cc

module _ (client : List ℕ) (op : Op) (c : Content) (l : Leaf) where
  -- a rule has a misfit unless it fits
  misfit_fits : (r : Rule) → is_some (misfit_of client op c l r) ≡ not (fits client op c l r)
  unfolding speaks_of
  misfit_fits r = grind arith

  pub own_misfit : (r : Rule) → fits client op c l r ≡ false → (m : Misfit) × (misfit_of client op c l r ≡ Some m)
  own_misfit r apart = misfit_in (misfit_of client op c l r) (fits client op c l r) (misfit_fits r) apart

  pub no_misfit : (r : Rule) → fits client op c l r ≡ true → misfit_of client op c l r ≡ None
  no_misfit r fit = none_in (misfit_of client op c l r) (fits client op c l r) (misfit_fits r) fit

  -- a rule that fits at all values fits
  pub whole_fits : (r : Rule) → fits_wholly client op c l r ≡ true → fits client op c l r ≡ true
  whole_fits r whole =
      let speaks : speaks_of client op c r ≡ true = and_first _ _ whole in
      let covered : covers_in c l r ≡ true = and_second _ _ whole in
      rw (speaks, covered) refl

  -- ---- the entries of rules, by the first rule

  -- the entries if the first rule decides
  pub first_decides : (n : ℕ) (r : Rule) (rs : List Rule) → fits_wholly client op c l r ≡ true → told_from client op c l n (r ∷ rs) ≡ record { entries = []; decision = record { rule = n; allow = r.allow } }
  first_decides n r rs whole = rw whole refl

  -- and where it doesn't
  pub first_waits : (n : ℕ) (r : Rule) (rs : List Rule) → fits_wholly client op c l r ≡ false → told_from client op c l n (r ∷ rs) ≡ behind (entry_of client op c l r ∷ []) (told_from client op c l (n + 1) rs)
  first_waits n r rs part =
      let entries = ap (map (entry_of client op c l)) (front_fails (fits_wholly client op c l) r rs part) in
      let decision = ap first_of (left_out (fits_wholly client op c l) n r rs part) in
      λ i. record { entries = entries i; decision = decision i }

  -- a walk over the rules has come to the i-th, from 0, with the entries so far
  abbrev pub Comes : List Rule → ℕ → List Earlier → Type 0
  Comes rs i done = behind done (told_from client op c l (i + 1) (drop i rs)) ≡ told_from client op c l 1 rs

  here : (rs : List Rule) (i : ℕ) (r : Rule) → i < length rs → r ≡ get_or rs i r → told_from client op c l (i + 1) (drop i rs) ≡ told_from client op c l (i + 1) (r ∷ drop (i + 1) rs)
  here rs i r less there =
      at_drop_more (told_from client op c l (i + 1)) rs i r less ∙ ap (λ (q : Rule). told_from client op c l (i + 1) (q ∷ drop (i + 1) rs)) (sym there)

  -- it goes on at a rule of which something is told
  pub goes_on : (rs : List Rule) (i : ℕ) (done : List Earlier) (r : Rule) (entry : Earlier) → i < length rs → r ≡ get_or rs i r
      → told (fits_wholly client op c l r) (entry_of client op c l r) ≡ Some entry → Comes rs i done → Comes rs (i + 1) (done ++ entry ∷ [])
  goes_on rs i done r entry less there own come =
      let waits = told_some (fits_wholly client op c l r) (entry_of client op c l r) entry own in
      let rest = told_from client op c l (i + 1 + 1) (drop (i + 1) rs) in
      let step : told_from client op c l (i + 1) (drop i rs) ≡ behind (entry ∷ []) rest =
      here rs i r less there ∙ first_waits (i + 1) r (drop (i + 1) rs) waits.0 ∙ ap (λ (e : Earlier). behind (e ∷ []) rest) waits.1 in
      behind_behind done entry rest ∙ ap (behind done) (sym step) ∙ come

  -- it ends at a rule of which nothing is told
  pub ends_at : (rs : List Rule) (i : ℕ) (done : List Earlier) (r : Rule) → i < length rs → r ≡ get_or rs i r
      → told (fits_wholly client op c l r) (entry_of client op c l r) ≡ None → Comes rs i done → told_from client op c l 1 rs ≡ record { entries = done; decision = record { rule = i + 1; allow = r.allow } }
  ends_at rs i done r less there none come =
      let whole = told_none (fits_wholly client op c l r) (entry_of client op c l r) none in
      sym come
      ∙ ap (behind done) (here rs i r less there ∙ first_decides (i + 1) r (drop (i + 1) rs) whole)
      ∙ behind_none done (record { entries = []; decision = record { rule = i + 1; allow = r.allow } }) refl

  -- and behind the last rule
  pub ends : (rs : List Rule) (i : ℕ) (done : List Earlier) → length rs ≤ i → Comes rs i done → told_from client op c l 1 rs ≡ record { entries = done; decision = record { rule = 0; allow = false } }
  ends rs i done all come =
      sym come
      ∙ ap (λ (qs : List Rule). behind done (told_from client op c l (i + 1) qs)) (drop_of_length-le rs all)
      ∙ behind_none done (record { entries = []; decision = record { rule = 0; allow = false } }) refl
