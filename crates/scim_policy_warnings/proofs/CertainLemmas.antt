-- What rules may not allow is denied.
use Rattle.std.proofs.Common.{◌≡◌, refl, sym, ap, ◌∙◌, ℕ, ◌+◌, Bool, true, false, List, [], ◌∷◌, length, inl, inr}
use Rattle.std.specs.Prelude.{All, ◌&&◌, ◌||◌, ◌==◌, not, filter}
use Rattle.std.specs.List.{enumerate_from, list_all, list_any}
use Rattle.std.proofs.lemmas.Bool.{cases_Bool}
use Rattle.std.proofs.lemmas.List.Elements.{All-head, All-tail}
use denote.Enum.Bare.{sameb}
use Rattle.scim_schema.specs.contracts.Kind.{the_type as the_kind}
use Rattle.scim_schema.specs.contracts.Op.{the_type as the_op}
use Rattle.scim_schema.specs.declared.Op.{Op}
use Rattle.scim_schema.specs.declared.Op.TheVariants.{Read}
use Rattle.scim_schema.specs.declared.Leaf.{Leaf}
use Rattle.scim_schema.proofs.Facts.{and_first, and_second}
use Rattle.scim_cell.specs.Content.{Content}
use Rattle.scim_policy.specs.declared.rules.Decision.{Decision}
use Rattle.scim_policy.specs.Rules.{Rule}
use Rattle.scim_policy.specs.Decide.{decide}
use Rattle.scim_policy.specs.Fits.{covers_in, covers_partly, decide_wholly, first_of, fits, fits_wholly, is_reading, names, speaks_of}
use Rattle.scim_policy.specs.Patterns.{decisions_of, pattern_rules, up_to_whole}
use Rattle.scim_policy.proofs.Facts.{decide_other, wholes_allow}
use Rattle.scim_policy_warnings.specs.declared.clients.Client.{Client}
use Rattle.scim_policy_warnings.specs.declared.possibilities.Extent.TheVariants.{EachValue, SomeValue}
use Rattle.scim_policy_warnings.specs.Clients.{is_for, is_meant}
use Rattle.scim_policy_warnings.specs.MayAllow.{allows, covers_leaf, denies, is_about, may_allow}
use Rattle.scim_policy_warnings.proofs.ClientLemmas.{IsSameFor, all_meant}
use Rattle.scim_policy_warnings.proofs.PossibilityLemmas.{first_allows, first_passes}

both : (p q : Bool) → p ≡ true → q ≡ true → p && q ≡ true
both p q s t = rw s t

module _ (who : Client) (own : List ℕ) (op : Op) (c : Content) (l : Leaf) where
  -- ---- one rule

  -- a rule without a target that is about the client speaks of each resource of the kind, and one that speaks of one is
  -- about the client
  about_speaks : (r : Rule) → IsSameFor who own r → is_about who op c.kind r ≡ true → (length r.targets == 0) ≡ true → speaks_of own op c r ≡ true
  unfolding speaks_of
  about_speaks r same about bare =
      let rest = and_second _ _ about in
      let named : list_any (names own) r.clients ≡ true = sym same ∙ and_first _ _ about in
      let done : list_any (sameb the_op op) r.ops ≡ true = and_first _ _ rest in
      let there : list_any (sameb the_kind c.kind) r.kinds ≡ true = and_second _ _ rest in
      rw (named, done, there, bare) refl

  speaks_about : (r : Rule) → IsSameFor who own r → speaks_of own op c r ≡ true → is_about who op c.kind r ≡ true
  unfolding speaks_of
  speaks_about r same speaks =
      let rest = and_second _ _ speaks in
      let named : is_for who r ≡ true = same ∙ and_first _ _ speaks in
      let done : list_any (sameb the_op op) r.ops ≡ true = and_first _ _ rest in
      let there : list_any (sameb the_kind c.kind) r.kinds ≡ true = and_first _ _ (and_second _ _ rest) in
      rw (named, done, there) refl

  covered_some : (r : Rule) → covers_leaf SomeValue op c.kind l r ≡ covers_in c l r || covers_partly op c l r
  covered_some r = some op
    where
      some : (o : Op) → covers_leaf SomeValue o c.kind l r ≡ covers_in c l r || covers_partly o c l r
      some Read = refl
      some _ = refl

  -- what denies on all resources fits, and denies
  denies_fits : (r : Rule) → IsSameFor who own r → denies SomeValue who op c.kind l r ≡ true → fits own op c l r ≡ true
  denies_fits r same t =
      let bare : (length r.targets == 0) ≡ true = and_first _ _ (and_second _ _ t) in
      let rest = and_second _ _ (and_second _ _ t) in
      let speaks : speaks_of own op c r ≡ true = about_speaks r same (and_first _ _ rest) bare in
      let covered : covers_in c l r || covers_partly op c l r ≡ true = sym (covered_some r) ∙ and_second _ _ rest in
      both _ _ speaks covered

  denies_denies : (r : Rule) → denies SomeValue who op c.kind l r ≡ true → r.allow ≡ false
  denies_denies r t = elim (cases_Bool r.allow) [ inl allow ↦ absurd (let none : not r.allow ≡ true = and_first _ _ t in cc) | inr deny ↦ deny ]

  -- a rule that allows doesn't deny; one that fits and covers the leaf in each value allows in each
  allows_not_denies : (r : Rule) → r.allow ≡ true → denies SomeValue who op c.kind l r ≡ false
  allows_not_denies r allow = rw allow refl

  whole_allows : (r : Rule) → IsSameFor who own r → r.allow ≡ true → fits_wholly own op c l r ≡ true → allows EachValue who op c.kind l r ≡ true
  whole_allows r same allow whole =
      let about : is_about who op c.kind r ≡ true = speaks_about r same (and_first _ _ whole) in
      let covered : covers_leaf EachValue op c.kind l r ≡ true = and_second _ _ whole in
      both _ _ allow (both _ _ about covered)

  -- where rules may not allow, the first that fits and covers the leaf in each value denies
  whole_denies : (r : Rule) (rs : List Rule) → IsSameFor who own r → may_allow EachValue (r ∷ rs) who op c.kind l ≡ false → fits_wholly own op c l r ≡ true → r.allow ≡ false
  whole_denies r rs same never whole = elim (cases_Bool r.allow) [
    | inl allow ↦ absurd (
        let found : may_allow EachValue (r ∷ rs) who op c.kind l ≡ true = first_allows EachValue who op c.kind l r rs (allows_not_denies r allow) (whole_allows r same allow whole) in
        cc
        )
    | inr deny ↦ deny
  ]

  -- where rules may not allow, those behind one that doesn't deny on all resources may not either
  behind : (r : Rule) (rs : List Rule) → may_allow EachValue (r ∷ rs) who op c.kind l ≡ false → denies SomeValue who op c.kind l r ≡ false → may_allow EachValue rs who op c.kind l ≡ false
  behind r rs never f = elim (cases_Bool (allows EachValue who op c.kind l r)) [
    | inl t ↦ absurd (let found : may_allow EachValue (r ∷ rs) who op c.kind l ≡ true = first_allows EachValue who op c.kind l r rs f t in cc)
    | inr g ↦ sym (first_passes EachValue who op c.kind l r rs f g) ∙ never
  ]

  -- a rule that doesn't fit doesn't deny on all resources
  apart_passes : (r : Rule) → IsSameFor who own r → fits own op c l r ≡ false → denies SomeValue who op c.kind l r ≡ false
  apart_passes r same apart = elim (cases_Bool (denies SomeValue who op c.kind l r)) [
    | inl t ↦ absurd (let fit : fits own op c l r ≡ true = denies_fits r same t in cc)
    | inr f ↦ f
  ]

  -- ---- operations other than reading

  not_partly : is_reading op ≡ false → covers_partly op c l ≡ (λ (r : Rule). false)
  not_partly other = none op other
    where
      none : (o : Op) → is_reading o ≡ false → covers_partly o c l ≡ (λ (r : Rule). false)
      none Read e = cc
      none _ e = refl

  -- without values that are decided apart, a rule that fits covers the leaf in each value
  fits_whole : (r : Rule) → covers_partly op c l r ≡ false → fits_wholly own op c l r ≡ false → fits own op c l r ≡ false
  fits_whole r none part = elim (cases_Bool (speaks_of own op c r)) [
    | inl speaks ↦ elim (cases_Bool (covers_in c l r)) [
      | inl covered ↦ absurd (let whole : fits_wholly own op c l r ≡ true = rw (speaks, covered) refl in cc)
      | inr apart ↦ rw (speaks, apart, none) refl
    ]
    | inr silent ↦ rw silent refl
  ]

  abbrev whole_from : ℕ → List Rule → Decision
  whole_from n rs = first_of (filter (λ (numbered : ℕ × Rule). fits_wholly own op c l numbered.1) (enumerate_from n rs))

  first_whole : (n : ℕ) (r : Rule) (rs : List Rule) → fits_wholly own op c l r ≡ true → (whole_from n (r ∷ rs)).allow ≡ r.allow
  first_whole n r rs whole = rw whole refl

  later_whole : (n : ℕ) (r : Rule) (rs : List Rule) → fits_wholly own op c l r ≡ false → (whole_from n (r ∷ rs)).allow ≡ (whole_from (n + 1) rs).allow
  later_whole n r rs part = rw part refl

  denied_wholly : is_reading op ≡ false → (n : ℕ) (rs : List Rule) → All (IsSameFor who own) rs → may_allow EachValue rs who op c.kind l ≡ false → (whole_from n rs).allow ≡ false
  denied_wholly other n [] same never = refl
  denied_wholly other n (r ∷ rs) same never =
      let one : IsSameFor who own r = All-head (IsSameFor who own) r rs same in
      elim (cases_Bool (fits_wholly own op c l r)) [
        | inl whole ↦ first_whole n r rs whole ∙ whole_denies r rs one never whole
        | inr part ↦ (
            let none : covers_partly op c l r ≡ false = ap (λ (f : Rule → Bool). f r) (not_partly other) in
            let pass : denies SomeValue who op c.kind l r ≡ false = apart_passes r one (fits_whole r none part) in
            later_whole n r rs part ∙ denied_wholly other (n + 1) rs (All-tail (IsSameFor who own) r rs same) (behind r rs never pass)
            )
      ]

-- ---- reading

module _ (who : Client) (own : List ℕ) (c : Content) (l : Leaf) where
  abbrev all_allow : ℕ → List Rule → Bool
  all_allow n rs = list_all (λ (d : Decision). d.allow) (decisions_of (up_to_whole c l (filter (λ (numbered : ℕ × Rule). fits own Read c l numbered.1) (enumerate_from n rs))))

  passed_over : (n : ℕ) (r : Rule) (rs : List Rule) → fits own Read c l r ≡ false → all_allow n (r ∷ rs) ≡ all_allow (n + 1) rs
  passed_over n r rs apart = rw apart refl

  ends_with : (n : ℕ) (r : Rule) (rs : List Rule) → fits own Read c l r ≡ true → covers_in c l r ≡ true → r.allow ≡ false → all_allow n (r ∷ rs) ≡ false
  ends_with n r rs fit covered deny = rw fit (rw covered (rw deny refl))

  goes_on : (n : ℕ) (r : Rule) (rs : List Rule) → fits own Read c l r ≡ true → covers_in c l r ≡ false → all_allow n (r ∷ rs) ≡ r.allow && all_allow (n + 1) rs
  goes_on n r rs fit part = rw fit (rw part refl)

  fit_whole : (r : Rule) → fits own Read c l r ≡ true → covers_in c l r ≡ true → fits_wholly own Read c l r ≡ true
  fit_whole r fit covered = both _ _ (and_first _ _ fit) covered

  never_all : (n : ℕ) (rs : List Rule) → All (IsSameFor who own) rs → may_allow EachValue rs who Read c.kind l ≡ false → all_allow n rs ≡ false
  never_all n [] same never = refl
  never_all n (r ∷ rs) same never =
      let one : IsSameFor who own r = All-head (IsSameFor who own) r rs same in
      let rest : denies SomeValue who Read c.kind l r ≡ false → all_allow (n + 1) rs ≡ false = λ pass. never_all (n + 1) rs (All-tail (IsSameFor who own) r rs same) (behind who own Read c l r rs never pass) in
      elim (cases_Bool (fits own Read c l r)) [
        | inl fit ↦ elim (cases_Bool (covers_in c l r)) [
          | inl covered ↦ ends_with n r rs fit covered (whole_denies who own Read c l r rs one never (fit_whole r fit covered))
          | inr part ↦ elim (cases_Bool (denies SomeValue who Read c.kind l r)) [
            | inl t ↦ goes_on n r rs fit part ∙ rw (denies_denies who own Read c l r t) refl
            | inr pass ↦ (
                let none : all_allow (n + 1) rs ≡ false = rest pass in
                goes_on n r rs fit part ∙ elim (cases_Bool r.allow) [ inl allow ↦ rw allow none | inr deny ↦ rw deny refl ]
                )
          ]
        ]
        | inr apart ↦ passed_over n r rs apart ∙ rest (apart_passes who own Read c l r one apart)
      ]

-- ---- each operation

denied_other : (policy : List Rule) (who : Client) (own : List ℕ) (op : Op) (c : Content) (l : Leaf) → is_reading op ≡ false → is_meant policy who own ≡ true
    → may_allow EachValue policy who op c.kind l ≡ false → (decide policy own op c l).allow ≡ false
unfolding decide_wholly
denied_other policy who own op c l other meant never =
    ap (λ (d : Decision). d.allow) (decide_other policy own op c l other)
    ∙ denied_wholly who own op c l other 1 policy (all_meant policy who own meant) never

denied_read : (policy : List Rule) (who : Client) (own : List ℕ) (c : Content) (l : Leaf) → is_meant policy who own ≡ true
    → may_allow EachValue policy who Read c.kind l ≡ false → (decide policy own Read c l).allow ≡ false
unfolding pattern_rules
denied_read policy who own c l meant never = (wholes_allow policy own c l).every ∙ never_all who own c l 1 policy (all_meant policy who own meant) never

-- what a policy may not allow in each value, it denies
pub denied : (policy : List Rule) (who : Client) (own : List ℕ) (op : Op) (c : Content) (l : Leaf) → is_meant policy who own ≡ true
    → may_allow EachValue policy who op c.kind l ≡ false → (decide policy own op c l).allow ≡ false
denied policy who own Read c l meant never = denied_read policy who own c l meant never
denied policy who own op c l meant never = denied_other policy who own op c l refl meant never
