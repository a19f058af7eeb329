use Rattle.std.proofs.Common.{◌≡◌, ◌<◌, ◌+◌, ℕ, List, ◌∷◌, map, take, length, vec_len, true}
use Rattle.std.specs.Vec.{vec_capacity}
use Rattle.scim_shelf.specs.Shelves.{KeepsRound}
use Rattle.scim_shelf.specs.Stores.{Store, IsStore}
use Rattle.scim_token.specs.TokenFile.{Entry}
use Rattle.scim_token.specs.Tokens.{Knows}
use Rattle.scim_hub.specs.Events.{Connection}
use Rattle.scim_hub.specs.HubStates.{AreConnections, owned_event_of}
use Rattle.scim_hub.specs.code.Rounds.{piece_event, member_event, AreGathered, AllComeTo}
use Rattle.scim_hub.proofs.hubs.Hub.gather.Given as goal

-- the pieces so far were taken in, and there is room for the others
abbrev pub invariant-loop-event : goal.invariant-loop-event
invariant-loop-event g l = record {
  size : vec_len l.members ≡ l.event-index + 1;
  room : length l.rest < vec_capacity l.members;
  events : map member_event l.members.items ≡ piece_event l.fn.first ∷ map owned_event_of (take l.event-index l.rest);
  gathered : (connections : ℕ → Connection) → AreConnections l.fn.self.connections connections → AreGathered l.members.items connections l.self.connections;
  policy : l.self.service.policy ≡ l.fn.self.service.policy;
  base : l.self.service.base ≡ l.fn.self.service.base;
  tokens : l.self.tokens ≡ l.fn.self.tokens;
  answered : (entries : List Entry) (store : Store) → Knows entries l.fn.self.tokens → g.S.Shelf.stands l.fn.self.service.shelf store → g.S.Shelf.is_honest l.self.service.shelf
      → IsStore l.fn.self.service.base store
      → (next : Store) × g.S.Shelf.stands l.self.service.shelf next × IsStore l.fn.self.service.base next
      × AllComeTo l.fn.self.service.policy l.fn.self.service.base entries true l.members.items store next;
  round : KeepsRound g.S.Shelf.has_round l.fn.self.service.shelf l.self.service.shelf;
  honest : g.S.Shelf.is_honest l.self.service.shelf → g.S.Shelf.is_honest l.fn.self.service.shelf;
  refused : l.self.refused ≡ l.fn.self.refused;
}
