-- What denies a request.
use Rattle.std.proofs.Common.{◌≡◌, refl, ℕ, Bool, true, false, List, [], ◌∷◌, inl}
use Rattle.std.specs.Prelude.{not, All, Some, if◌then◌else◌}
use Rattle.std.specs.List.{flat_map}
use Rattle.std.proofs.lemmas.Bool.{not-true}
use Rattle.std.proofs.lemmas.List.Elements.{All-nil, All-cons, All-append}
use Rattle.scim_schema.specs.declared.Kind.{Kind}
use Rattle.scim_schema.specs.declared.Op.{Op}
use Rattle.scim_schema.specs.declared.Op.TheVariants.{Read, Modify}
use Rattle.scim_schema.specs.declared.Unit.{Unit as AttributeUnit}
use Rattle.scim_schema.specs.declared.Leaf.{Leaf}
use Rattle.scim_schema.specs.Mutability.{is_write_only}
use Rattle.scim_cell.specs.Content.{Content}
use Rattle.scim_policy.specs.declared.rules.Decision.{Decision}
use Rattle.scim_policy.specs.Rules.{Rule}
use Rattle.scim_policy.specs.Access.{access, needed, leaves_of, forbidding}
use Rattle.scim_policy.specs.Decide.{decide}
use Rattle.scim_service.specs.declared.requests.Turn.{Turn}
use Rattle.scim_headline.specs.Headline.{IsNamed, IsDenied}
use Rattle.scim_headline.proofs.StoredLemmas.{found}

module _ (policy : List Rule) (client : List ℕ) (c : Content) where
  -- a decision on a leaf of the resource, for some operation
  abbrev IsDecided : Leaf × Decision → Type 0
  IsDecided e = (op : Op) × (e.1 ≡ decide policy client op c e.0)

  -- all that is needed to write a leaf is so decided
  needed_decided : (kind : Kind) (l : Leaf) → All IsDecided (needed kind (access policy client c) l)
  needed_decided kind l = by_secrecy (is_write_only kind l)
    where
      by_secrecy : (secret : Bool) → All IsDecided ((l, decide policy client Modify c l) ∷ (if secret then [] else (l, decide policy client Read c l) ∷ []))
      by_secrecy true = All-cons IsDecided (l, decide policy client Modify c l) [] (Modify, refl) (All-nil IsDecided)
      by_secrecy false =
          All-cons IsDecided (l, decide policy client Modify c l) ((l, decide policy client Read c l) ∷ []) (Modify, refl)
          (All-cons IsDecided (l, decide policy client Read c l) [] (Read, refl) (All-nil IsDecided))

  all_decided : (kind : Kind) (ls : List Leaf) → All IsDecided (flat_map (needed kind (access policy client c)) ls)
  all_decided kind [] = All-nil IsDecided
  all_decided kind (l ∷ ls) =
      let before = needed kind (access policy client c) in
      All-append IsDecided (before l) (flat_map before ls) (needed_decided kind l) (all_decided kind ls)

  -- what forbids to write a unit of the resource that a request names is a decision of the policy that denies
  pub forbidden : (turn : Turn) (cs : List Content) → IsNamed turn cs c → (kind : Kind) (u : AttributeUnit) (l : Leaf) (d : Decision)
      → forbidding kind (access policy client c) u ≡ Some (l, d) → IsDenied policy client turn cs l d
  unfolding forbidding
  forbidden turn cs named kind u l d e =
      let is = found IsDecided (λ (x : Leaf × Decision). not x.1.allow) (flat_map (needed kind (access policy client c)) (leaves_of kind u)) (l, d) (all_decided kind (leaves_of kind u)) e in
      record { op = is.0.0; resource = c; is_own = inl named; decides = is.0.1; denies = not-true d.allow is.1 }
