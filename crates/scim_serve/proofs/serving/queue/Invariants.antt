use Rattle.std.proofs.Common.{◌≡◌, ℕ, false, [], IsTrue, map, take}
use Rattle.std.specs.Prelude.{◌≢◌, Some}
use Rattle.std.specs.List.{flat_map, list_any}
use Rattle.scim_hub.specs.HubStates.{output_of}
use Rattle.scim_serve.specs.Serving.{text_to, shuts}
use Rattle.scim_serve.specs.code.Closings.{Marks}
use Rattle.scim_serve.specs.code.Levels.{Grows}
use Rattle.scim_serve.specs.code.Rests.{finished}
use Rattle.scim_serve.specs.code.Waiting.{waiting_for}
use Rattle.scim_serve.specs.code.Wholes.{AllTaken, StaysOpen}
use Rattle.scim_serve.proofs.serving.queue.Given as goal

-- the texts so far wait
abbrev pub invariant-loop-output : goal.invariant-loop-output
invariant-loop-output g l = record {
  seen : IsTrue g.P.Peers.is_known → g.P.Peers.seen l.peers ≡ g.P.Peers.seen l.fn.peers;
  queued : IsTrue g.P.Peers.is_known
      → Grows (λ m. flat_map (text_to m) (map output_of (take l.output-index l.outputs))) (g.P.Peers.written l.fn.peers) l.fn.waiting (g.P.Peers.written l.peers) l.waiting;
  taken : IsTrue g.P.Peers.is_known → (m : ℕ) → flat_map (text_to m) (map output_of (take l.output-index l.outputs)) ≡ []
      → AllTaken (waiting_for l.fn.waiting m) (g.P.Peers.takes_all l.fn.peers m) → AllTaken (waiting_for l.waiting m) (g.P.Peers.takes_all l.peers m);
  stays : IsTrue g.P.Peers.is_known → (m : ℕ) → StaysOpen (waiting_for l.fn.waiting m) (g.P.Peers.is_closed l.fn.peers m) (waiting_for l.waiting m) (g.P.Peers.is_closed l.peers m);
  marks : Marks (λ m. list_any (shuts m) (map output_of (take l.output-index l.outputs))) l.fn.waiting l.waiting;
  unfinished : (m : ℕ) → list_any (shuts m) (map output_of (take l.output-index l.outputs)) ≡ false → waiting_for l.fn.waiting m ≢ Some finished → waiting_for l.waiting m ≢ Some finished;
  next : l.waiting.next ≡ l.fn.waiting.next;
}
