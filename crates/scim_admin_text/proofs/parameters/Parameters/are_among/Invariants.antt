use Rattle.std.proofs.Common.{◌≡◌, map, drop}
use Rattle.scim_admin_text.specs.Parameters.{pair_of, are_among}
use Rattle.scim_admin_text.proofs.parameters.Parameters.are_among.Given as goal

abbrev pub invariant-loop-parameter : goal.invariant-loop-parameter
invariant-loop-parameter l =
    are_among (map (λ n. n.now) l.names) (map pair_of (drop l.parameter-index l.parameter-items)) ≡ are_among (map (λ n. n.now) l.names) (map pair_of l.parameter-items)
