use Rattle.std.proofs.Common.{◌≡◌, ◌≤◌, List, map, take, length, vec_len}
use Rattle.std.specs.Vec.{vec_capacity}
use Rattle.scim_shelf.specs.Shelves.{KeepsRound}
use Rattle.scim_token.specs.TokenFile.{Entry}
use Rattle.scim_token.specs.Tokens.{Knows}
use Rattle.scim_hub.specs.Events.{HubState, Runs}
use Rattle.scim_hub.specs.HubStates.{IsHubState, event_of, done}
use Rattle.scim_hub.proofs.hubs.Hub.run.Given as goal

-- the events so far were answered, and there is room for the other answers
abbrev pub invariant-loop-event : goal.invariant-loop-event
invariant-loop-event g l = record {
  size : vec_len l.results ≡ l.event-index;
  room : length l.events ≤ vec_capacity l.results;
  policy : l.self.service.policy ≡ l.fn.self.service.policy;
  base : l.self.service.base ≡ l.fn.self.service.base;
  tokens : l.self.tokens ≡ l.fn.self.tokens;
  ran : (entries : List Entry) (state : HubState) → Knows entries l.fn.self.tokens → IsHubState g.S.Shelf.stands l.fn.self state → g.S.Shelf.is_honest l.self.service.shelf
      → (next : HubState) × IsHubState g.S.Shelf.stands l.self next
      × Runs l.fn.self.service.policy l.fn.self.service.base entries state (map event_of (take l.event-index l.events)) (map done l.results.items) next;
  round : KeepsRound g.S.Shelf.has_round l.fn.self.service.shelf l.self.service.shelf;
  honest : g.S.Shelf.is_honest l.self.service.shelf → g.S.Shelf.is_honest l.fn.self.service.shelf;
}
