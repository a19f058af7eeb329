use Rattle.std.proofs.Common.{◌≡◌, ℕ, List, [], IsTrue, false}
use Rattle.scim_shelf.specs.Shelves.{settled}
use Rattle.scim_token.specs.TokenFile.{Entry}
use Rattle.scim_token.specs.Tokens.{Knows}
use Rattle.scim_hub.specs.Events.{HubState}
use Rattle.scim_hub.specs.HubSetting.{KeepsHubSetting}
use Rattle.scim_hub.specs.HubStates.{IsHubState}
use Rattle.scim_serve.specs.SettledStates.{IsSettledIn}
use Rattle.scim_serve.specs.code.Served.{IsReached}
use Rattle.scim_serve.proofs.serving.serve.Given as goal

-- what occurred so far was answered, and the connections were served what is due to them
abbrev pub invariant-loop : goal.invariant-loop
invariant-loop g l = record {
  base : l.hub.service.base ≡ l.fn.hub.service.base;
  keeps : g.O.Operator.may_reload ≡ false → KeepsHubSetting l.fn.hub l.hub;
  served : IsTrue g.P.Peers.is_known → (entries : List Entry) (state : HubState) → g.P.Peers.seen l.fn.peers ≡ [] → ((m : ℕ) → g.P.Peers.written l.fn.peers m ≡ [])
      → Knows entries l.fn.hub.tokens → IsHubState g.S.Shelf.stands l.fn.hub state → g.S.Shelf.has_round l.fn.hub.service.shelf settled → g.S.Shelf.is_honest l.hub.service.shelf
      → IsReached (record { base = l.fn.hub.service.base; policy = l.fn.hub.service.policy; entries = entries; state = state }) g.O.Operator.may_reload (g.P.Peers.seen l.peers)
      (g.P.Peers.written l.peers) (g.P.Peers.takes_all l.peers) (g.P.Peers.is_closed l.peers) l.waiting l.hub.service.policy l.hub.tokens (IsSettledIn g.S.Shelf.stands g.S.Shelf.has_round l.hub);
  ended : g.O.Operator.has_ended l.fn.operator ≡ false → g.O.Operator.has_ended l.operator ≡ false;
  honest : g.S.Shelf.is_honest l.hub.service.shelf → g.S.Shelf.is_honest l.fn.hub.service.shelf;
}
