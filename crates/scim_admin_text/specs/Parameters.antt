-- The parameters in the query of a target of the administrator's port.
use Rattle.std.specs.Prelude.{ℕ, Bool, List, map, Option, option_map, find, bytes_eq}
use Rattle.std.specs.List.{list_any, list_all}
use Rattle.scim_admin_text.specs.declared.parameters.Parameter.{Parameter}
use Rattle.scim_admin_text.specs.declared.parameters.Parameters.{Parameters}

-- the name and the value of a parameter
abbrev pub pair_of : Parameter → List ℕ × List ℕ
pair_of p = (p.name, p.value)

-- the names and values of the parameters
abbrev pub parameter_pairs : Parameters → List (List ℕ × List ℕ)
parameter_pairs parameters = map pair_of parameters.list.items

-- the value of the first pair with this name; `None` if there is no such pair
abbrev pub value_of : List ℕ → List (List ℕ × List ℕ) → Option (List ℕ)
value_of name pairs = option_map (λ pair. pair.1) (find (λ pair. bytes_eq pair.0 name) pairs)

-- whether the name is one of `names`
abbrev pub is_among : List (List ℕ) → List ℕ → Bool
is_among names name = list_any (λ n. bytes_eq n name) names

-- whether each pair has one of these names
abbrev pub are_among : List (List ℕ) → List (List ℕ × List ℕ) → Bool
are_among names pairs = list_all (λ pair. is_among names pair.0) pairs
