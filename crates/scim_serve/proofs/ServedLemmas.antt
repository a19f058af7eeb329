-- The invariant of the loop of a server holds at first and after each event, and what it says at the end.
use Rattle.std.proofs.Common.{◌≡◌, sym, subst, ℕ, Bool, true, false, List, [], ◌∷◌, ◌++◌}
use Rattle.std.specs.Prelude.{◌||◌, ◌≢◌, None, Some, Result}
use Rattle.scim_hub.specs.declared.events.HubFault.{HubFault}
use Rattle.scim_hub.specs.Events.{HubEvent, absent, shut, HubState, HubOutput}
use Rattle.scim_serve.specs.declared.pending_bytes.Waiting.{Waiting}
use Rattle.scim_serve.specs.Serving.{IsFront, due_for, due, shut_for, is_shut, has_left}
use Rattle.scim_serve.specs.code.Rests.{finished}
use Rattle.scim_serve.specs.code.Waiting.{waiting_for}
use Rattle.scim_serve.specs.code.Levels.{Keeps}
use Rattle.scim_serve.specs.code.Closings.{IsMarked}
use Rattle.scim_serve.specs.code.Wholes.{AllTaken, StaysOpen, IsWhole}
use Rattle.scim_serve.specs.code.Served.{IsServed}
use Rattle.scim_serve.proofs.LevelLemmas.{level_first, level_same, level_kept, level_more, level_fronts}
use Rattle.scim_serve.proofs.ClosingLemmas.{closing_first, closing_kept, closing_more}
use Rattle.scim_serve.proofs.WholeLemmas.{whole_first, whole_same, whole_kept, whole_more, whole_written, whole_closed, whole_ended}

-- before anything happened
pub served_first : (first : HubState) (seen : List HubEvent) (written : ℕ → List ℕ) (takes closed : ℕ → Bool) (waiting : Waiting) → seen ≡ [] → ((m : ℕ) → written m ≡ [])
    → ((m : ℕ) → waiting_for waiting m ≡ None) → IsServed first first seen written takes closed waiting (λ m. due m []) (λ m. is_shut m [])
served_first first seen written takes closed waiting unseen unwritten none = record {
  level = level_first written waiting unwritten none;
  closing = closing_first waiting none;
  whole = subst (λ (s : List HubEvent). IsWhole first first s written takes closed waiting (λ m. due m []) (λ m. is_shut m [])) (sym unseen)
      (whole_first first written takes closed waiting none);
}

-- the same is told of the connections
pub served_same : (first state : HubState) (seen : List HubEvent) (written written_then : ℕ → List ℕ) (takes takes_then closed closed_then : ℕ → Bool) (waiting : Waiting) (due : ℕ → List ℕ)
    (was_shut : ℕ → Bool) → ((m : ℕ) → written_then m ≡ written m) → ((m : ℕ) → takes_then m ≡ true → takes m ≡ true) → ((m : ℕ) → closed_then m ≡ closed m)
    → IsServed first state seen written takes closed waiting due was_shut → IsServed first state seen written_then takes_then closed_then waiting due was_shut
served_same first state seen written written_then takes takes_then closed closed_then waiting due was_shut same same_takes same_closed served = record {
  level = level_same written written_then waiting due same served.level;
  closing = served.closing;
  whole = whole_same first state seen written written_then takes takes_then closed closed_then waiting due was_shut same same_takes same_closed served.whole;
}

-- connections were offered their pending bytes
pub served_kept : (first state : HubState) (seen : List HubEvent) (written written_then : ℕ → List ℕ) (takes takes_then closed closed_then : ℕ → Bool) (old new : Waiting) (due : ℕ → List ℕ)
    (was_shut : ℕ → Bool) → Keeps written old written_then new
    → ((m : ℕ) → AllTaken (waiting_for old m) (takes m) → AllTaken (waiting_for new m) (takes_then m))
    → ((m : ℕ) → StaysOpen (waiting_for old m) (closed m) (waiting_for new m) (closed_then m))
    → ((m : ℕ) (shut : Bool) → IsMarked (waiting_for old m) shut → IsMarked (waiting_for new m) shut)
    → ((m : ℕ) → waiting_for old m ≢ Some finished → waiting_for new m ≢ Some finished) → new.next ≡ old.next
    → IsServed first state seen written takes closed old due was_shut → IsServed first state seen written_then takes_then closed_then new due was_shut
served_kept first state seen written written_then takes takes_then closed closed_then old new due was_shut keeps taken stays marks unfinished next served = record {
  level = level_kept written written_then old new due keeps next served.level;
  closing = closing_kept old new was_shut marks unfinished next served.closing;
  whole = whole_kept first state seen written written_then takes takes_then closed closed_then old new due was_shut keeps taken stays served.level served.whole;
}

-- what is due after one more event
pub served_more : (first state : HubState) (seen : List HubEvent) (written : ℕ → List ℕ) (takes closed : ℕ → Bool) (waiting : Waiting) (results : List (Result (List HubOutput) HubFault))
    (result : Result (List HubOutput) HubFault) → IsServed first state seen written takes closed waiting (λ m. due m results ++ due_for m result) (λ m. is_shut m results || shut_for m result)
    → IsServed first state seen written takes closed waiting (λ m. due m (results ++ result ∷ [])) (λ m. is_shut m (results ++ result ∷ []))
served_more first state seen written takes closed waiting results result served = record {
  level = level_more written waiting results result served.level;
  closing = closing_more waiting results result served.closing;
  whole = whole_more first state seen written takes closed waiting results result served.whole;
}

-- what the invariant says of each connection
pub served_each : (first state : HubState) (seen : List HubEvent) (written : ℕ → List ℕ) (takes closed : ℕ → Bool) (waiting : Waiting) (due : ℕ → List ℕ) (was_shut : ℕ → Bool)
    → IsServed first state seen written takes closed waiting due was_shut
    → ((m : ℕ) → IsFront (written m) (due m))
    × ((m : ℕ) → first.connections m ≡ absent → has_left m seen ≡ false → closed m ≡ false → takes m ≡ true → written m ≡ due m)
    × ((m : ℕ) → first.connections m ≡ absent → was_shut m ≡ true → written m ≡ due m → closed m ≡ true)
    × ((m : ℕ) → first.connections m ≡ absent → state.connections m ≡ shut → was_shut m ≡ false → closed m ≡ true)
served_each first state seen written takes closed waiting due was_shut served = (
  level_fronts written waiting due served.level,
  whole_written first state seen written takes closed waiting due was_shut served.level served.whole,
  whole_closed first state seen written takes closed waiting due was_shut served.level served.closing served.whole,
  whole_ended first state seen written takes closed waiting due was_shut served.whole,
)
