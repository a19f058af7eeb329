-- What operators answer.
use Rattle.std.specs.Prelude.{Bool, true, false, Result, Ok}
use Rattle.scim_serve.specs.declared.operators.Then.{Then}
use Rattle.scim_serve.specs.declared.operators.Then.TheVariants.{GoOn, End}
use Rattle.scim_serve.specs.declared.peers.PeersFault.{PeersFault}
use Rattle.scim_serve.specs.declared.serving.Ending.{Ending}
use Rattle.scim_serve.specs.declared.serving.Ending.TheVariants.{Ended}

-- whether the server ends
abbrev pub says_end : Then → Bool
says_end GoOn = false
says_end End = true

-- whether the operator ended the server
abbrev pub is_ended : Result Ending PeersFault → Bool
is_ended (Ok Ended) = true
is_ended _ = false
