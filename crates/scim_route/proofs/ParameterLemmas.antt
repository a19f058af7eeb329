-- Parameters that are taken pair by pair.
use Rattle.std.proofs.Common.{◌≡◌, refl, ℕ, List, ◌∷◌}
use Rattle.std.specs.Prelude.{codes, Option, None, Some}
use Rattle.std.specs.Option.{option_or}
use Rattle.scim_text.specs.Names.{is_same_name}
use Rattle.scim_route.specs.declared.query_parameters.Parameters.{Parameters}
use Rattle.scim_route.specs.Parameters.{first_named}
use Rattle.scim_route.specs.code.Taken.{taken, with_pair, with_pairs}
use Rattle.scim_route.proofs.PositionLemmas.{by_bool}

-- a value that is taken of the first pair goes before those of the others
pub one_taken : (name : List ℕ) (pair : List ℕ × List ℕ) (rest : List (List ℕ × List ℕ)) (held : Option (List ℕ))
    → option_or (taken name pair held) (first_named name rest) ≡ option_or held (first_named name (pair ∷ rest))
one_taken name pair rest (Some text) = refl
one_taken name pair rest None = by_bool (is_same_name pair.0 name) (λ t. rw t refl) (λ f. rw f refl)

-- the first pair is read, and then the others
pub pair_taken : (pair : List ℕ × List ℕ) (rest : List (List ℕ × List ℕ)) (held : Parameters)
    → with_pairs rest (with_pair pair held) ≡ with_pairs (pair ∷ rest) held
pair_taken pair rest held =
    rw (
      one_taken (codes "attributes") pair rest held.attributes,
      one_taken (codes "excludedAttributes") pair rest held.excluded_attributes,
      one_taken (codes "filter") pair rest held.filter,
      one_taken (codes "sortBy") pair rest held.sort_by,
      one_taken (codes "sortOrder") pair rest held.sort_order,
      one_taken (codes "startIndex") pair rest held.start_index,
      one_taken (codes "count") pair rest held.count,
    )
    refl
