use Rattle.std.proofs.Common.{◌≡◌, map, drop}
use Rattle.scim_admin_text.specs.Parameters.{is_among}
use Rattle.scim_admin_text.proofs.parameters.is_among.Given as goal

abbrev pub invariant-loop-other : goal.invariant-loop-other
invariant-loop-other l = is_among (map (λ n. n.now) (drop l.other-index l.names)) l.name ≡ is_among (map (λ n. n.now) l.names) l.name
