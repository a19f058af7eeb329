use Rattle.std.proofs.Common.{◌≡◌, [], drop}
use Rattle.std.specs.List.{flat_map, fold}
use Rattle.scim_policy_warnings.specs.Clients.{names_in, with_text}
use Rattle.scim_policy_warnings.proofs.clients.named_clients.Given as goal

-- the names so far, with those of the rules from this one on, are all
abbrev pub invariant-loop-rule : goal.invariant-loop-rule
invariant-loop-rule l = fold with_text l.texts.items (flat_map names_in (drop l.rule-index l.rules)) ≡ fold with_text [] (flat_map names_in l.rules)
