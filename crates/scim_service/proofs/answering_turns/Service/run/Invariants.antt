use Rattle.std.proofs.Common.{◌≡◌, ◌≤◌, take, length}
use Rattle.scim_shelf.specs.Shelves.{KeepsRound}
use Rattle.scim_shelf.specs.Stores.{Store, IsStore}
use Rattle.scim_service.specs.Answers.{Runs}
use Rattle.scim_service.proofs.answering_turns.Service.run.Given as goal

abbrev pub invariant-loop-turn : goal.invariant-loop-turn
invariant-loop-turn g l = record {
  size : length l.replies.items ≡ length l.turns;
  here : l.at ≡ l.turn-index;
  policy : l.self.policy ≡ l.fn.self.policy;
  base : l.self.base ≡ l.fn.self.base;
  ran : (store : Store) → g.S.Shelf.stands l.fn.self.shelf store → g.S.Shelf.is_honest l.self.shelf → IsStore l.fn.self.base store
      → (next : Store) × g.S.Shelf.stands l.self.shelf next × IsStore l.fn.self.base next
      × Runs l.fn.self.policy l.fn.self.base (g.S.Shelf.failures l.fn.self.shelf) store (take l.turn-index l.turns) (take l.turn-index l.replies.items) (g.S.Shelf.failures l.self.shelf) next;
  round : KeepsRound g.S.Shelf.has_round l.fn.self.shelf l.self.shelf;
  honest : g.S.Shelf.is_honest l.self.shelf → g.S.Shelf.is_honest l.fn.self.shelf;
  grown : g.S.Shelf.failures l.fn.self.shelf ≤ g.S.Shelf.failures l.self.shelf;
}
