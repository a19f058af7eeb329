use Rattle.std.proofs.Common.{◌≡◌, drop, map}
use Rattle.std.specs.Prelude.{filter_map}
use Rattle.std.specs.List.{fold}
use Rattle.scim_policy_warnings.specs.Clients.{distinct, with_text}
use Rattle.scim_policy_warnings.specs.code.TokenLines.{client_in}
use Rattle.scim_policy_warnings.proofs.token_clients.clients_in.Given as goal

-- the clients so far, with those of the lines from this one on, are all
abbrev pub invariant-loop-line : goal.invariant-loop-line
invariant-loop-line l =
    fold with_text l.found.items (filter_map client_in (map (λ x. x.now) (drop l.line-index l.lines))) ≡ distinct (filter_map client_in (map (λ x. x.now) l.lines))
