-- What merging makes of one resource, and of a store in which it is stored.
use Rattle.std.proofs.Common.{◌≡◌, refl, sym, ◌∙◌, ap, subst₂, ℕ, Bool, true, false, List, [], ◌∷◌}
use Rattle.std.specs.Prelude.{find, Option, None, Some}
use Rattle.std.proofs.lemmas.Slice.Eq.{bytes_eq-Decides}
use denote.Enum.Bare.{same_true}
use Rattle.scim_schema.specs.declared.Kind.{Kind}
use Rattle.scim_schema.specs.declared.Op.{Op}
use Rattle.scim_schema.specs.contracts.Kind.{the_type as the_kind}
use Rattle.scim_schema.proofs.Facts.{and_first, and_second}
use Rattle.scim_cell.specs.Content.{Content}
use Rattle.scim_cell.specs.Equality.{is_same_id}
use Rattle.scim_cell.specs.Kinds.{is_of}
use Rattle.scim_value.specs.Equality.{is_same_part}
use Rattle.scim_shelf.specs.declared.changes.Change.TheVariants.{Keep}
use Rattle.scim_shelf.specs.Stores.{Store, AreKeyed, AreOf, HasPlace, is_at, is_taken, is_used, without, after}
use Rattle.scim_shelf.proofs.Facts.{by_bool, changed_place, found_own, unused_own}
use Rattle.scim_shelf_merge.specs.declared.outcomes.Outcome.{Outcome}
use Rattle.scim_shelf_merge.specs.declared.outcomes.Outcome.TheVariants.{Created, Replaced}
use Rattle.scim_shelf_merge.specs.Merging.{unless_taken, outcome_over, outcome, op_of, merge_row, stored_by, merged_one}

-- what a test finds passes it
found_passes : (test : Content → Bool) (cs : List Content) (c : Content) → find test cs ≡ Some c → test c ≡ true
found_passes test [] c h = cc
found_passes test (d ∷ ds) c h = by_bool (test d) here (λ f. found_passes test ds c (rw f at h))
  where
    here : test d ≡ true → test c ≡ true
    here t =
        let found : Some d ≡ Some c = rw t at h in
        let same : d ≡ c = cc in ap test (sym same) ∙ t

-- where a resource of the kind and the id is found, each with the id is of the kind
found_kind : (kind : Kind) (id : List ℕ) (cs : List Content) (c : Content) → AreKeyed cs → find (is_at kind id) cs ≡ Some c → AreOf kind id cs
found_kind kind id cs c keyed found =
    let at : is_at kind id c ≡ true = found_passes (is_at kind id) cs c found in
    let k : c.kind ≡ kind = same_true the_kind tt c.kind kind (and_first (is_of kind c) (is_same_id id c.id) at) in
    let i : id ≡ c.id = (bytes_eq-Decides id c.id).0 (and_second (is_of kind c) (is_same_id id c.id) at) in
    subst₂ (λ (x : Kind) (y : List ℕ). AreOf x y cs) k (sym i) (found_own kind id cs c keyed (sym found))

-- where something is stored, the names are free
names_free : (cs : List Content) (c : Content) (made : Outcome) (op : Op) → op_of (unless_taken cs c made) ≡ Some op → is_taken (without c.id cs) c ≡ false
names_free cs c made op h = by_bool (is_taken (without c.id cs) c)
    (λ t. absurd (let none : None ≡ Some op = rw t at h in cc))
    (λ f. f)

-- a resource that a merge stores has a place
pub outcome_place : (cs : List Content) (c : Content) (op : Op) → AreKeyed cs → op_of (outcome cs c) ≡ Some op → HasPlace cs c
outcome_place cs c op keyed h = go (find (is_at c.kind c.id) cs) refl h
  where
    go : (stored : Option Content) → find (is_at c.kind c.id) cs ≡ stored → op_of (outcome_over cs c stored) ≡ Some op → HasPlace cs c
    go None none made = by_bool (is_used cs c.id)
        (λ t. absurd (let nothing : None ≡ Some op = rw t at made in cc))
        (λ f. (let free : op_of (unless_taken cs c Created) ≡ Some op = rw f at made in
        changed_place cs c (unused_own c.kind c.id cs f) (names_free cs c Created op free)))
    go (Some stored) found made = by_bool (is_same_part stored c)
        (λ t. absurd (let nothing : None ≡ Some op = rw t at made in cc))
        (λ f. (let free : op_of (unless_taken cs c Replaced) ≡ Some op = rw f at made in
        changed_place cs c (found_kind c.kind c.id cs stored keyed found) (names_free cs c Replaced op free)))

-- the store after a resource is stored by an operation is that after its merge
pub stored_is : (now : ℕ) (client : List ℕ) (c : Content) (found : Outcome) (op : Op) (store : Store) → Some op ≡ op_of found
    → after (Keep c) (merge_row now client op c) store ≡ merged_one now client c found store
stored_is now client c found op store h = ap (λ (o : Option Op). stored_by now client c o store) h
