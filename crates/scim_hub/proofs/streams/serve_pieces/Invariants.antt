use Rattle.std.proofs.Common.{◌≡◌, ◌-◌, ◌^◌, List, ℕ, length, min}
use Rattle.std.specs.Prelude.{All, Ok}
use Rattle.std.specs.Io.KnownBytes.{Consumes}
use Rattle.scim_token.specs.TokenFile.{Entry}
use Rattle.scim_token.specs.Tokens.{Knows}
use Rattle.scim_hub.specs.Events.{HubState}
use Rattle.scim_hub.specs.HubStates.{IsHubState}
use Rattle.scim_hub.specs.Streams.{AnsweredEvent, AreServed, StaysOpen, replies_of}
use Rattle.scim_hub.proofs.streams.serve_pieces.Given as goal

-- the pieces so far were served
abbrev pub invariant-loop : goal.invariant-loop
invariant-loop g l = record {
  policy : l.hub.service.policy ≡ l.fn.hub.service.policy;
  base : l.hub.service.base ≡ l.fn.hub.service.base;
  tokens : l.hub.tokens ≡ l.fn.hub.tokens;
  served : (entries : List Entry) (state : HubState) → Knows entries l.fn.hub.tokens → IsHubState g.S.Shelf.stands l.fn.hub state → g.S.Shelf.is_honest l.hub.service.shelf
      → (next : HubState) × (turns : List AnsweredEvent) × (bytes : List ℕ) × IsHubState g.S.Shelf.stands l.hub next
      × Consumes (g.R.Read.remaining l.fn.reader) (g.R.Read.remaining l.reader) bytes
      × AreServed l.fn.hub.service.policy l.fn.hub.service.base entries l.connection {T = Unit {0}} state next turns bytes (g.T.Stamps.given l.fn.stamps) (g.T.Stamps.given l.stamps)
      (g.W.Write.contents l.fn.writer) (g.W.Write.contents l.writer) (Ok tt)
      × (l.replies ≡ min (2 ^ 64 - 1) (replies_of turns))
      × All StaysOpen turns × (length turns ≡ l.counter);
  honest : g.S.Shelf.is_honest l.hub.service.shelf → g.S.Shelf.is_honest l.fn.hub.service.shelf;
}
