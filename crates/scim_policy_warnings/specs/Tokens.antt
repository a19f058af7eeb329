-- Clients of a policy without a token, and clients with a token and without a rule.
use Rattle.std.specs.Prelude.{ℕ, Bool, not, List, ◌++◌, map, filter, codes}
use Rattle.std.specs.List.{flat_map, list_any}
use Rattle.scim_policy.specs.Fits.{names}
use Rattle.scim_policy.specs.Rules.{Rule}
use Rattle.scim_token.specs.TokenFile.{Entry}
use Rattle.scim_policy_warnings.specs.Clients.{distinct, is_listed, named_clients}

-- the clients that have tokens, in order of their lines, each once
abbrev pub token_clients : List Entry → List (List ℕ)
token_clients entries = distinct (map (λ (e : Entry). e.client) entries)

-- the clients that a policy names and that have no token
abbrev pub clients_without_token : List Rule → List Entry → List (List ℕ)
clients_without_token policy entries = filter (λ name. not (is_listed (token_clients entries) name)) (named_clients policy)

-- whether a rule is for a client
abbrev pub has_rule : List Rule → List ℕ → Bool
has_rule policy name = list_any (λ (r : Rule). list_any (names name) r.clients) policy

-- the clients that have a token and that no rule is for
abbrev pub clients_without_rule : List Rule → List Entry → List (List ℕ)
clients_without_rule policy entries = filter (λ name. not (has_rule policy name)) (token_clients entries)

-- the line of a client, with words about it
abbrev pub client_line : List ℕ → List ℕ → List ℕ
client_line words name = codes "client " ++ name ++ codes ": " ++ words ++ codes "\n"

-- the lines for clients without a token, and then for those without a rule
abbrev pub token_lines : List Rule → List Entry → List ℕ
token_lines policy entries =
    flat_map (client_line (codes "no token")) (clients_without_token policy entries) ++ flat_map (client_line (codes "no rule")) (clients_without_rule policy entries)
