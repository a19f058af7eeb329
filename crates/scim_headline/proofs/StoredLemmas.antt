-- What is found among stored resources, and a resource that is kept among them.
use Rattle.std.proofs.Common.{◌≡◌, refl, sym, subst, ℕ, Bool, true, List, [], ◌∷◌, inl, inr, arith}
use Rattle.std.specs.Prelude.{All, Contains, find, Some}
use Rattle.std.specs.List.Sorted.{IsStrictlySortedBy}
use Rattle.std.proofs.lemmas.Bool.{cases_Bool, and_parts}
use Rattle.std.proofs.lemmas.List.Elements.{All-head, All-tail, All-contains_itself, Contains-append_right}
use Rattle.std.proofs.lemmas.Slice.Eq.{bytes_eq-Decides}
use denote.Enum.Bare.{same_true}
use Rattle.scim_schema.specs.declared.Kind.{Kind}
use Rattle.scim_schema.specs.contracts.Kind.{the_type as the_kind}
use Rattle.scim_cell.specs.Content.{Content}
use Rattle.scim_cell.specs.Equality.{is_same_id}
use Rattle.scim_cell.specs.Kinds.{is_of}
use Rattle.scim_cell.specs.Order.{id_cmp}
use Rattle.scim_shelf.specs.Stores.{is_at, below, above, keep}
use Rattle.scim_noninterference.proofs.Facts.{keep_again}

-- ---- what is found

-- what is found is one of those that were looked through, and passes the test
pub found : {X : Type 0} (P : X → Type 0) (test : X → Bool) (xs : List X) (x : X) → All P xs → find test xs ≡ Some x → P x × (test x ≡ true)
found P test [] x all e = cc
found {X} P test (y ∷ ys) x all e = elim (cases_Bool (test y)) [
  | inl t ↦
      let some : Some y ≡ Some x = rw t at e in
      let own : y ≡ x = cc in
      subst (λ (z : X). P z × (test z ≡ true)) own (All-head P y ys all, t)
  | inr f ↦ found P test ys x (All-tail P y ys all) (rw f at e)
]

-- a resource that is found by its kind and id is stored, is of the kind and has the id
pub found_own : (kind : Kind) (id : List ℕ) (cs : List Content) (c : Content) → find (is_at kind id) cs ≡ Some c → Contains cs c × (c.kind ≡ kind) × (c.id ≡ id)
found_own kind id cs c e =
    let is = found (Contains cs) (is_at kind id) cs c (All-contains_itself cs) e in
    let parts = and_parts (is_of kind c) (is_same_id id c.id) is.1 in
    (is.0, same_true the_kind tt c.kind kind parts.0, sym ((bytes_eq-Decides id c.id).0 parts.1))

-- ---- a resource that is kept

-- it is among those afterwards
pub kept_there : (c : Content) (cs : List Content) → Contains (keep c cs) c
kept_there c cs = Contains-append_right (below c.id cs) (c ∷ above c.id cs) c (0, omega arith, refl)

-- a stored resource that is kept again changes nothing
pub kept_again : (c : Content) (cs : List Content) → IsStrictlySortedBy id_cmp cs → Contains cs c → keep c cs ≡ cs
kept_again c cs sorted there = keep_again c cs sorted there.0 there.1 there.2
