-- Names and ids that no resource has.
use Rattle.std.proofs.Common.{◌≡◌, refl, sym, ◌∙◌, ap₂, ℕ, Bool, true, false, ◌&&◌, ◌||◌, List, [], ◌∷◌, is_some}
use Rattle.std.specs.Prelude.{All, find}
use Rattle.std.specs.List.{list_any}
use Rattle.std.proofs.lemmas.List.Elements.{All-nil, All-cons, All-weaker, All-contains}
use Rattle.std.proofs.lemmas.Slice.Eq.{bytes_eq-Decides}
use Rattle.std.proofs.lemmas.Map.Made.{is_member-Decides}
use denote.Enum.Bare.{sameb}
use Rattle.scim_schema.specs.declared.Kind.{Kind}
use Rattle.scim_schema.specs.declared.Kind.TheVariants.{User, Group}
use Rattle.scim_schema.specs.contracts.Kind.{the_type as the_kind}
use Rattle.scim_cell.specs.Content.{Content}
use Rattle.scim_cell.specs.Equality.{is_same_id}
use Rattle.scim_value.specs.Uniqueness.{unique_names}
use Rattle.scim_shelf.specs.Stores.{AreOf, HasPlace, is_at, has_name, is_taken, is_used}
use Rattle.scim_shelf.proofs.NameLemmas.{by_bool, is_same_name-Decides}

-- a test that none passes fails for each
pub none_passes : {X : Type 0} (p : X → Bool) (xs : List X) → list_any p xs ≡ false → All (λ x. p x ≡ false) xs
none_passes p [] h = All-nil (λ x. p x ≡ false)
none_passes p (x ∷ xs) h =
    by_bool (p x) (λ t. absurd (let some : list_any p (x ∷ xs) ≡ true = rw t refl in cc))
    (λ f. All-cons (λ y. p y ≡ false) x xs f (none_passes p xs (rw f at h)))

-- one is found exactly where one passes
pub found_any : {X : Type 0} (p : X → Bool) (xs : List X) → is_some (find p xs) ≡ list_any p xs
found_any p [] = refl
found_any p (x ∷ xs) = by_bool (p x) (λ t. rw t refl) (λ f. rw f (found_any p xs))

-- where none has an id, each that has it is of any kind
pub unused_own : (kind : Kind) (id : List ℕ) (cs : List Content) → is_used cs id ≡ false → AreOf kind id cs
unused_own kind id cs fresh = All-weaker (λ d. is_same_id id d.id ≡ false) (λ d. d.id ≡ id → d.kind ≡ kind)
    (λ d other same. absurd (let yes : is_same_id id d.id ≡ true = (bytes_eq-Decides id d.id).1 (sym same) in cc)) cs (none_passes (λ d. is_same_id id d.id) cs fresh)

-- a resource whose names aren't taken and whose id isn't used has a place
pub free_place : (cs : List Content) (c : Content) → is_taken cs c ≡ false → is_used cs c.id ≡ false → HasPlace cs c
free_place cs c free fresh = record {
  kinds = unused_own c.kind c.id cs fresh;
  names = λ k e l apart. record {
    ids = λ same. apart (sym same);
    names = λ n own other.
        (let none : list_any (has_name n) cs ≡ false = All-contains (λ m. list_any (has_name m) cs ≡ false) (unique_names c) n (none_passes (λ m. list_any (has_name m) cs) (unique_names c) free) own in
        let unnamed = none_passes (has_name n) cs none k e l in
        let named = (is_member-Decides is_same_name-Decides _ n).1 other in cc);
  };
}

-- an id is one of a user or one of a group
either_kind : (k : Kind) (s : Bool) → s ≡ (sameb the_kind k User && s) || (sameb the_kind k Group && s)
either_kind User true = refl
either_kind User false = refl
either_kind Group true = refl
either_kind Group false = refl

regrouped : (a b x y : Bool) → (a || b) || (x || y) ≡ (a || x) || (b || y)
regrouped true b x y = refl
regrouped false true true y = refl
regrouped false true false y = refl
regrouped false false x y = refl

used_among : (id : List ℕ) (cs : List Content) → is_used cs id ≡ list_any (is_at User id) cs || list_any (is_at Group id) cs
used_among id [] = refl
used_among id (d ∷ ds) =
    ap₂ (λ a b. a || b) (either_kind d.kind (is_same_id id d.id)) (used_among id ds)
    ∙ regrouped (is_at User id d) (is_at Group id d) (list_any (is_at User id) ds) (list_any (is_at Group id) ds)

-- so it is used where it is found by one of the kinds
pub used_by_kind : (id : List ℕ) (cs : List Content) → is_used cs id ≡ is_some (find (is_at User id) cs) || is_some (find (is_at Group id) cs)
used_by_kind id cs = used_among id cs ∙ ap₂ (λ a b. a || b) (sym (found_any (is_at User id) cs)) (sym (found_any (is_at Group id) cs))
