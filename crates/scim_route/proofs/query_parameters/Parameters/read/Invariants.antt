use Rattle.std.proofs.Common.{◌≡◌, map}
use Rattle.std.specs.Option.{option_copied}
use Rattle.form_urlencoded.specs.Parse.{raw_pairs_left}
use Rattle.scim_route.specs.Parameters.{decoded_pair, parameters_of}
use Rattle.scim_route.specs.code.Taken.{with_pairs}
use Rattle.scim_route.proofs.query_parameters.Parameters.read.Given as goal

-- what is held and the pairs that are left make the whole
abbrev pub invariant-loop-name : goal.invariant-loop-name
invariant-loop-name l = with_pairs (map decoded_pair (raw_pairs_left l.name-iterator)) l.parameters ≡ parameters_of (option_copied l.fn.query)
