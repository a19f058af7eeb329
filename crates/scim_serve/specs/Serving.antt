-- What must be done for each connection after the results of events.
use Rattle.std.specs.Prelude.{◌≡◌, ℕ, ◌==◌, Bool, false, true, List, [], ◌++◌, Result, Ok, Err, if◌then◌else◌}
use Rattle.std.specs.List.{flat_map, list_any}
use Rattle.scim_hub.specs.declared.events.HubFault.{HubFault}
use Rattle.scim_hub.specs.Events.{HubEventKind, leaving, HubEvent, HubOutput, HubState, absent, shut, writing, shutting}

-- the text that an output writes to the connection with the number m
abbrev pub text_to : ℕ → HubOutput → List ℕ
text_to m (writing n text) = if n == m then text else []
text_to m (shutting n) = []

-- the text that must be written to connection m for the result of an event
abbrev pub due_for : ℕ → Result (List HubOutput) HubFault → List ℕ
due_for m (Ok hub_outputs) = flat_map (text_to m) hub_outputs
due_for m (Err fault) = []

-- the text that must be written to connection m for the results of events, in order
abbrev pub due : ℕ → List (Result (List HubOutput) HubFault) → List ℕ
due m results = flat_map (due_for m) results

-- whether an output shuts the connection with the number m
abbrev pub shuts : ℕ → HubOutput → Bool
shuts m (writing n text) = false
shuts m (shutting n) = n == m

-- whether the result of an event shuts connection m
abbrev pub shut_for : ℕ → Result (List HubOutput) HubFault → Bool
shut_for m (Ok hub_outputs) = list_any (shuts m) hub_outputs
shut_for m (Err fault) = false

-- whether one of the results of events shuts connection m
abbrev pub is_shut : ℕ → List (Result (List HubOutput) HubFault) → Bool
is_shut m results = list_any (shut_for m) results

-- `front` is a prefix of `all`
abbrev pub IsFront : List ℕ → List ℕ → Type 0
IsFront front all = (rest : List ℕ) × (front ++ rest ≡ all)

-- whether an event of this kind on connection n is that connection m leaves
abbrev pub leaves_now : ℕ → ℕ → HubEventKind → Bool
leaves_now m n leaving = n == m
leaves_now m n _ = false

-- whether the event is that connection m leaves
abbrev pub leaves : ℕ → HubEvent → Bool
leaves m seen = leaves_now m seen.connection seen.kind

-- whether one of the events is that connection m leaves
abbrev pub has_left : ℕ → List HubEvent → Bool
has_left m events = list_any (leaves m) events

-- What the connections took after the events `seen` with these results, which took the hub from the state
-- `first` to `next`. Each connection took a prefix of what must be written to it. For a connection that was
-- absent at first: if it hasn't left, isn't closed and took all that was offered, it took all of it; it is
-- closed if the results shut it and it took all of it, and if the hub shut it without a result that says so.
pub record AreServed (first next : HubState) (seen : List HubEvent) (results : List (Result (List HubOutput) HubFault)) (written : ℕ → List ℕ)
    (takes_all is_closed : ℕ → Bool) : Type 0 where
  pub fronts : (m : ℕ) → IsFront (written m) (due m results)
  pub wholes : (m : ℕ) → first.connections m ≡ absent → has_left m seen ≡ false → is_closed m ≡ false → takes_all m ≡ true → written m ≡ due m results
  pub closed_after : (m : ℕ) → first.connections m ≡ absent → is_shut m results ≡ true → written m ≡ due m results → is_closed m ≡ true
  pub closed_at_once : (m : ℕ) → first.connections m ≡ absent → next.connections m ≡ shut → is_shut m results ≡ false → is_closed m ≡ true
