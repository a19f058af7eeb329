-- The clients that the rules of a policy are for.
use Rattle.std.specs.Prelude.{ℕ, nat_eq, Bool, true, false, not, List, [], ◌∷◌, ◌++◌, map, filter_map, Option, None, Some, if◌then◌else◌}
use Rattle.std.specs.List.{fold, flat_map, list_any}
use Rattle.std.specs.Cmp.Lexicographic.{pointwise}
use Rattle.scim_policy.specs.declared.rules.ClientName.{ClientName}
use Rattle.scim_policy.specs.declared.rules.ClientName.TheVariants.{Everyone, Named}
use Rattle.scim_policy.specs.Rules.{Rule}
use Rattle.scim_policy.specs.Fits.{names}
use Rattle.scim_policy_warnings.specs.declared.clients.Client.{Client}
use Rattle.scim_policy_warnings.specs.declared.clients.Client.TheVariants as client

-- whether a name in a rule is `*`
abbrev pub is_everyone : ClientName → Bool
is_everyone Everyone = true
is_everyone (Named name) = false

-- whether a rule is for a client: it has the client's name, or `*`; for a client that no rule names, it has `*`
abbrev pub is_for : Client → Rule → Bool
is_for (client.Named name) r = list_any (names name) r.clients
is_for client.Other r = list_any is_everyone r.clients

-- ---- the clients that a policy names

-- the name of a client; None for `*`
abbrev pub own_name : ClientName → Option (List ℕ)
own_name Everyone = None
own_name (Named name) = Some name

-- the names of clients in a rule
abbrev pub names_in : Rule → List (List ℕ)
names_in r = filter_map own_name r.clients

-- whether a text is in a list
abbrev pub is_listed : List (List ℕ) → List ℕ → Bool
is_listed texts text = list_any (λ own. pointwise nat_eq own text) texts

-- a list with a text at its end, unless the list has the text
abbrev pub with_text : List (List ℕ) → List ℕ → List (List ℕ)
with_text texts text = if is_listed texts text then texts else texts ++ text ∷ []

-- texts in their order, each once
abbrev pub distinct : List (List ℕ) → List (List ℕ)
distinct texts = fold with_text [] texts

-- the clients that a policy names, in order of their first rules, each once
abbrev pub named_clients : List Rule → List (List ℕ)
named_clients policy = distinct (flat_map names_in policy)

-- the clients that a policy names, and any other
abbrev pub clients : List Rule → List Client
clients policy = map client.Named (named_clients policy) ++ client.Other ∷ []

-- whether a client with this name is meant: it has the name or, for `Other`, no rule names it
abbrev pub is_meant : List Rule → Client → List ℕ → Bool
is_meant policy (client.Named name) own = pointwise nat_eq name own
is_meant policy client.Other own = not (is_listed (flat_map names_in policy) own)
