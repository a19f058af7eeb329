-- How often lines for the operator are logged.
use Rattle.std.specs.Prelude.{◌≡◌, ◌≤◌, ◌-◌, ◌*◌, ◌^◌, Some, IfSome}
use Rattle.std.specs.declared.time.Duration.{Duration}
use Rattle.std.specs.Duration.{as_nanos}
use Rattle.scim_sockets.specs.declared.log_pace.Pace.{Pace}

-- a line is logged now, and no other was logged in the last minute
pub record BeginsLine (now : Duration) (old new : Pace) : Type 0 where
  pub rare : IfSome old.last (λ last. 60 * 10 ^ 9 ≤ as_nanos now - as_nanos last)
  pub noted : new.last ≡ Some now
