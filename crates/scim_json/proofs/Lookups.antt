-- Look-ups in an object that was made by a table whose names ascend.
use Rattle.std.proofs.Common.{◌≡◌, ℕ, List, [], ◌∷◌, Bool, true, Option, Some, None, option_and_then, inl, inr, refl, ap, ◌∙◌}
use Rattle.std.specs.Prelude.{not}
use Rattle.std.specs.List.{AllByRecursion, list_all, list_any}
use Rattle.std.specs.declared.cmp.Ordering.{Ordering}
use Rattle.std.specs.declared.cmp.Ordering.TheVariants.{Less, Equal, Greater}
use Rattle.std.specs.Ordering.{nat_cmp, is_lt, is_eq, match_ordering, ordering_reverse}
use Rattle.std.specs.Cmp.Lexicographic.{slice_cmp}
use Rattle.std.proofs.lemmas.Bool.{and_parts, or_cases}
use Rattle.std.proofs.lemmas.Cmp.{nat_list_cmp_total, tied_itself}
use Rattle.serde_json.specs.Data.{Data, Members, no_members, member}
use Rattle.serde_json.specs.Find.{get, get_member}
use Rattle.scim_schema.specs.JsonKeys.{is_ascending, Ascends}
use Rattle.scim_json.specs.PartData.{with_member, members_where, object_of}

-- a text that differs from a member's key
abbrev pub differs : List ℕ → List ℕ → Bool
differs k l = not (is_eq (slice_cmp nat_cmp k l))

-- a text that is none of the names
abbrev pub is_clear : {K : Type 0} → (K → List ℕ) → List ℕ → List K → Bool
is_clear name k ks = list_all (λ l. differs k (name l)) ks

-- a look-up goes past a member whose key differs
past : (o : Ordering) (r d : Option Data) → not (is_eq o) ≡ true → match_ordering o r d r ≡ r
past Less r d h = refl
past Equal r d h = absurd (cc)
past Greater r d h = refl

-- a member of another key is passed over
get_member-other : (k l : List ℕ) (o : Option Data) (ms : Members) → differs k l ≡ true → get_member k (with_member l o ms) ≡ get_member k ms
get_member-other k l None ms h = refl
get_member-other k l (Some d) ms h = past (slice_cmp nat_cmp k l) (get_member k ms) (Some d) h

-- a text compares equal to itself
same_text : (xs : List ℕ) → slice_cmp nat_cmp xs xs ≡ Equal
same_text xs = tied_itself nat_list_cmp_total xs

-- a member of the key is found
get_member-here : (k : List ℕ) (o : Option Data) (ms : Members) → get_member k ms ≡ None → get_member k (with_member k o ms) ≡ o
get_member-here k None ms h = h
get_member-here k (Some d) ms h = rw same_text

-- what is less isn't equal
lt_differs : (o : Ordering) → is_lt o ≡ true → not (is_eq o) ≡ true
lt_differs Less h = refl
lt_differs Equal h = cc
lt_differs Greater h = refl

-- nor is it the other way round
lt_turned : (o : Ordering) → is_lt o ≡ true → not (is_eq (ordering_reverse o)) ≡ true
lt_turned Less h = refl
lt_turned Equal h = cc
lt_turned Greater h = cc

-- a text differs from one before it
below_differs : (k l : List ℕ) → is_lt (slice_cmp nat_cmp k l) ≡ true → differs l k ≡ true
below_differs k l h = ap (λ o. not (is_eq o)) (nat_list_cmp_total.antisymm l k) ∙ lt_turned (slice_cmp nat_cmp k l) h

-- a text before all names is none of them
below_clear : {K : Type 0} (name : K → List ℕ) (k : List ℕ) (ks : List K) → list_all (λ l. is_lt (slice_cmp nat_cmp k (name l))) ks ≡ true → is_clear name k ks ≡ true
below_clear name k [] h = refl
below_clear name k (l ∷ ks) h =
    let p = and_parts (is_lt (slice_cmp nat_cmp k (name l))) (list_all (λ l. is_lt (slice_cmp nat_cmp k (name l))) ks) h in
    rw (lt_differs (slice_cmp nat_cmp k (name l)) p.0) (below_clear name k ks p.1)

-- some element that passes a test is one of those of which something holds
chosen : {K : Type 0} (P : K → Type 0) (test : K → Bool) (ks : List K) → AllByRecursion P ks → list_any test ks ≡ true → (k : K) × (test k ≡ true) × P k
chosen P test [] all any = cc
chosen P test (k ∷ ks) all any = elim (or_cases (test k) (list_any test ks) any) [ inl here ↦ (k, here, all.0) | inr later ↦ chosen P test ks all.1 later ]

module _ {K : Type 0} (name : K → List ℕ) (value : K → Option Data) where
  -- a name that the table doesn't have finds nothing
  pub get_member-absent : (k : List ℕ) (ks : List K) → is_clear name k ks ≡ true → get_member k (members_where name value ks) ≡ None
  get_member-absent k [] h = refl
  get_member-absent k (l ∷ ks) h =
      let p = and_parts (differs k (name l)) (is_clear name k ks) h in
      get_member-other k (name l) (value l) (members_where name value ks) p.0 ∙ get_member-absent k ks p.1

  -- a key finds its value
  abbrev pub FindsItsValue : Members → K → Type 0
  FindsItsValue ms k = get_member (name k) ms ≡ value k

  -- keys find their values also where an earlier member is put before the others
  past_earlier : (l : List ℕ) (o : Option Data) (ms : Members) (ks : List K) → list_all (λ k. is_lt (slice_cmp nat_cmp l (name k))) ks ≡ true → AllByRecursion (FindsItsValue ms) ks → AllByRecursion (FindsItsValue (with_member l o ms)) ks
  past_earlier l o ms [] h all = tt
  past_earlier l o ms (k ∷ ks) h all =
      let p = and_parts (is_lt (slice_cmp nat_cmp l (name k))) (list_all (λ k. is_lt (slice_cmp nat_cmp l (name k))) ks) h in
      (get_member-other (name k) l o ms (below_differs l (name k) p.0) ∙ all.0, past_earlier l o ms ks p.1 all.1)

  -- each key of the table finds its value
  pub get_member-members_where : (ks : List K) → Ascends name ks → AllByRecursion (FindsItsValue (members_where name value ks)) ks
  get_member-members_where [] h = tt
  get_member-members_where (k ∷ ks) h =
      let p = and_parts (list_all (λ l. is_lt (slice_cmp nat_cmp (name k) (name l))) ks) (is_ascending name ks) h in (
        get_member-here (name k) (value k) (members_where name value ks) (get_member-absent (name k) ks (below_clear name (name k) ks p.0)),
        past_earlier (name k) (value k) (members_where name value ks) ks p.0 (get_member-members_where ks p.1),
      )

  -- so does one of those that pass a test
  pub get_member-present : (test : K → Bool) (ks : List K) → Ascends name ks → list_any test ks ≡ true → (k : K) × (test k ≡ true) × FindsItsValue (members_where name value ks) k
  get_member-present test ks h any = chosen (FindsItsValue (members_where name value ks)) test ks (get_member-members_where ks h) any

-- an object that is left out where it would be empty has the same members
pub get-object_of : (k : List ℕ) (ms : Members) → option_and_then (get k) (object_of ms) ≡ get_member k ms
get-object_of k no_members = refl
get-object_of k (member l d ms) = refl
