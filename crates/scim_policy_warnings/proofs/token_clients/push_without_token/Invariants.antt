use Rattle.std.proofs.Common.{◌≡◌, ◌++◌, drop, string_bytes}
use Rattle.std.specs.Prelude.{codes, filter, not}
use Rattle.std.specs.List.{flat_map}
use Rattle.scim_policy_warnings.specs.Clients.{is_listed}
use Rattle.scim_policy_warnings.specs.Tokens.{client_line}
use Rattle.scim_policy_warnings.proofs.token_clients.push_without_token.Given as goal

-- the lines so far, and those of the clients from this one on, are those of all
abbrev pub invariant-loop-name : goal.invariant-loop-name
invariant-loop-name l =
    string_bytes l.text ++ flat_map (client_line (codes "no token")) (filter (λ name. not (is_listed l.holders name)) (drop l.name-index l.named))
    ≡ string_bytes l.initial.text ++ flat_map (client_line (codes "no token")) (filter (λ name. not (is_listed l.holders name)) l.named)
