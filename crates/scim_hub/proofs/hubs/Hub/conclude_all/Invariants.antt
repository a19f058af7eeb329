use Rattle.std.proofs.Common.{◌≡◌, ◌≤◌, List, ◌++◌, map, length, vec_len}
use Rattle.std.specs.Vec.{vec_capacity}
use Rattle.std.specs.Vec.Iter.{into_iter_items, into_iter_len}
use Rattle.scim_shelf.specs.Stores.{Store}
use Rattle.scim_token.specs.TokenFile.{Entry}
use Rattle.scim_token.specs.Tokens.{Knows}
use Rattle.scim_hub.specs.Events.{HubState, Runs}
use Rattle.scim_hub.specs.HubStates.{result_of}
use Rattle.scim_hub.specs.code.Rounds.{member_event, AreGathered, AllComeTo}
use Rattle.scim_hub.proofs.hubs.Hub.conclude_all.Given as goal

-- the pieces so far were answered, and the connections are ahead by the others
abbrev pub invariant-loop-member : goal.invariant-loop-member
invariant-loop-member g l = record {
  left : l.yielded ++ into_iter_items l.member-iterator ≡ l.fn.members.items;
  len : into_iter_len l.member-iterator ≡ length (into_iter_items l.member-iterator);
  size : vec_len l.answers ≡ length l.yielded;
  room : length l.fn.members.items ≤ vec_capacity l.answers;
  service : l.self.service ≡ l.fn.self.service;
  tokens : l.self.tokens ≡ l.fn.self.tokens;
  refused : l.fn.self.refused ≤ l.self.refused;
  ran : (entries : List Entry) (state : HubState) (next : Store) → Knows entries l.fn.self.tokens → g.S.Shelf.is_honest l.fn.self.service.shelf
      → AreGathered l.fn.members.items state.connections l.fn.self.connections
      → AllComeTo l.fn.self.service.policy l.fn.self.service.base entries l.made l.fn.members.items state.store next
      → (mid : HubState) × AreGathered (into_iter_items l.member-iterator) mid.connections l.self.connections
      × AllComeTo l.fn.self.service.policy l.fn.self.service.base entries l.made (into_iter_items l.member-iterator) mid.store next
      × Runs l.fn.self.service.policy l.fn.self.service.base entries state (map member_event l.yielded) (map result_of l.answers.items) mid;
}
