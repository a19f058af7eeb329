-- Objects and arrays that are left out where they would be empty.
use Rattle.std.proofs.Common.{◌≡◌, ◌==◌, ◌||◌, ℕ, length, List, [], ◌∷◌, true, false, Bool, Option, Some, None, refl}
use Rattle.std.specs.Prelude.{is_some}
use Rattle.std.specs.List.{list_any}
use Rattle.serde_json.specs.Data.{Data, Members, no_members, array, object}
use Rattle.scim_json.specs.PartData.{with_member, members_where, object_of, items_of, array_of}

-- no key has a value: there is no member
absent_with : (k : List ℕ) (o : Option Data) (b : Bool) (ms : Members) → (is_some o || b) ≡ false → (b ≡ false → ms ≡ no_members) → with_member k o ms ≡ no_members
absent_with k None b ms h rest = rest h
absent_with k (Some d) b ms h rest = cc

pub members_where-absent : {K : Type 0} (name : K → List ℕ) (value : K → Option Data) (ks : List K) → list_any (λ k. is_some (value k)) ks ≡ false → members_where name value ks ≡ no_members
members_where-absent name value [] h = refl
members_where-absent name value (k ∷ ks) h = absent_with (name k) (value k) (list_any (λ l. is_some (value l)) ks) (members_where name value ks) h (members_where-absent name value ks)

-- some key has a value: there is an object
present_with : (k : List ℕ) (o : Option Data) (b : Bool) (ms : Members) → (is_some o || b) ≡ true → (b ≡ true → object_of ms ≡ Some (object ms)) → object_of (with_member k o ms) ≡ Some (object (with_member k o ms))
present_with k None b ms h rest = rest h
present_with k (Some d) b ms h rest = refl

pub object_of-present : {K : Type 0} (name : K → List ℕ) (value : K → Option Data) (ks : List K) → list_any (λ k. is_some (value k)) ks ≡ true → object_of (members_where name value ks) ≡ Some (object (members_where name value ks))
object_of-present name value [] h = cc
object_of-present name value (k ∷ ks) h = present_with (name k) (value k) (list_any (λ l. is_some (value l)) ks) (members_where name value ks) h (object_of-present name value ks)

-- an array of some values is there
pub array_of-present : {V : Type 0} (value : V → Data) (vs : List V) → (length vs == 0) ≡ false → array_of (items_of value vs) ≡ Some (array (items_of value vs))
array_of-present value [] h = cc
array_of-present value (v ∷ vs) h = refl
