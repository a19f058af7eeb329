use Rattle.std.proofs.Common.{◌≡◌, ◌++◌, map}
use Rattle.std.specs.Prelude.{Some}
use Rattle.form_urlencoded.specs.Parse.{raw_pairs_left}
use Rattle.scim_route.specs.Parameters.{decoded_pair, pairs_of}
use Rattle.scim_admin_text.specs.Parameters.{pair_of}
use Rattle.scim_admin_text.proofs.parameters.Parameters.read.Given as goal

-- the parameters read and the pairs that are left make the whole
abbrev pub invariant-loop-name : goal.invariant-loop-name
invariant-loop-name l = map pair_of l.list.items ++ map decoded_pair (raw_pairs_left l.name-iterator) ≡ pairs_of (Some l.query)
