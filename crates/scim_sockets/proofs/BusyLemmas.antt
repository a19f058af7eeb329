-- Connections that aren't at rest, while others are shut.
use Rattle.std.proofs.Common.{◌≡◌, ◌≢◌, ◌∙◌, ℕ, Some, ap, subst}
use Rattle.std.specs.Prelude.{Option}
use Rattle.std.specs.Option.{IfSome}
use Rattle.std.specs.BTreeMap.{BTreeMap}
use Rattle.scim_sockets.specs.declared.connection.Connection.{Connection}
use Rattle.scim_sockets.specs.Connections.{IsAtRest}
use Rattle.scim_sockets.specs.OpenConnections.{connection_at, KeepsBusy, KeepsOthers}

-- one more connection has changed, which was at rest
pub busy_more : (first old new : BTreeMap ℕ Connection) (n : ℕ)
    → KeepsBusy first old → IfSome (connection_at old n) IsAtRest → KeepsOthers n old new → KeepsBusy first new
busy_more first old new n keeps rest others = λ m c was busy.
    let is : connection_at old m ≡ Some c = keeps m c was busy in
    let apart : n ≢ m = λ same. busy (subst (λ (o : Option Connection). IfSome o IsAtRest) (ap (λ q. connection_at old q) same ∙ is) rest) in
    others m apart ∙ is
