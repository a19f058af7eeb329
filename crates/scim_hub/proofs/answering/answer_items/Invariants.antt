use Rattle.std.proofs.Common.{◌≡◌, ◌≤◌, List, take}
use Rattle.scim_shelf.specs.Shelves.{KeepsRound}
use Rattle.std.specs.Prelude.{Option}
use Rattle.scim_shelf.specs.Stores.{Store, IsStore}
use Rattle.scim_token.specs.TokenFile.{Entry}
use Rattle.scim_token.specs.Tokens.{Knows}
use Rattle.scim_hub.specs.declared.answering.Serving.TheVariants.{Lost}
use Rattle.scim_hub.specs.code.Replies.{IsOver, IsReached}
use Rattle.scim_hub.proofs.answering.answer_items.Given as goal

-- the items so far were answered, and none closed the connection
abbrev pub invariant-loop-item : goal.invariant-loop-item
invariant-loop-item g l = record {
  policy : l.service.policy ≡ l.fn.service.policy;
  base : l.service.base ≡ l.fn.service.base;
  lost : l.serving ≡ Lost → l.service ≡ l.fn.service;
  round : KeepsRound g.S.Shelf.has_round l.fn.service.shelf l.service.shelf;
  honest : g.S.Shelf.is_honest l.service.shelf → g.S.Shelf.is_honest l.fn.service.shelf;
  count : l.count ≤ l.item-index;
  answered : (entries : List Entry) (held : Option Store) (store : Store) → Knows entries l.tokens → IsOver l.serving g.S.Shelf.stands held l.fn.service.shelf store → g.S.Shelf.is_honest l.service.shelf → IsStore l.fn.service.base store
      → IsReached (IsOver l.serving g.S.Shelf.stands held) l.service.shelf l.fn.service.policy l.fn.service.base entries l.stamp l.connection (take l.item-index l.items) store l.count l.outputs.items;
}
