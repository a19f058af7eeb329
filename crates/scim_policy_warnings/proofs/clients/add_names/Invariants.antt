use Rattle.std.proofs.Common.{◌≡◌, drop}
use Rattle.std.specs.Prelude.{filter_map}
use Rattle.std.specs.List.{fold}
use Rattle.scim_policy_warnings.specs.Clients.{own_name, with_text}
use Rattle.scim_policy_warnings.proofs.clients.add_names.Given as goal

-- the names so far, with those from this one on, are all
abbrev pub invariant-loop-client : goal.invariant-loop-client
invariant-loop-client l =
    fold with_text l.texts.items (filter_map own_name (drop l.client-index l.client-items)) ≡ fold with_text l.initial.texts.items (filter_map own_name l.client-items)
