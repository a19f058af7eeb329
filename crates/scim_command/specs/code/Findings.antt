-- The results of functions that parse a part of a line.
use Rattle.std.specs.Prelude.{◌≡◌, ℕ, List, Option, None, Some}
use Rattle.scim_hub.specs.declared.events.Stamp.{Stamp}
use Rattle.scim_hub.specs.Events.{HubEventKind}
use Rattle.scim_command.specs.declared.event_lines.ToldEvent.{ToldEvent}
use Rattle.scim_command.specs.EventFiles.{IsNumberText, IsMomentText, IsTextOfId, Tells}
use Rattle.scim_hub.specs.HubStates.{owned_event_kind_of}

-- the value that was found satisfies P; if none was found, no value satisfies P
abbrev pub Finds : {T X : Type 0} → (T → X) → (X → Type 0) → Option T → Type 0
Finds view P (Some t) = P (view t)
Finds view P None = (x : _) → ¬ (P x)

-- the texts are the time and the first id of the stamp
pub record IsStampText (moment first : List ℕ) (stamp : Stamp) : Type 0 where
  pub moment_is : IsMomentText moment stamp.moment
  pub first_is : IsTextOfId first stamp.first

-- the number of a connection, and what occurred on it
pub record ToldEventView : Type 0 where
  pub connection : ℕ
  pub kind : HubEventKind

-- the program's value, in the type of the specification
abbrev pub told_event_of : ToldEvent → ToldEventView
told_event_of c = record { connection = c.connection; kind = owned_event_kind_of c.kind }

-- the name and the text after it describe this event
abbrev pub IsToldBy : List ℕ → List ℕ → ToldEventView → Type 0
IsToldBy name text h = Tells name text h.connection h.kind

-- the event has this kind, and the text is the number of its connection
pub record IsAlone (kind : HubEventKind) (text : List ℕ) (h : ToldEventView) : Type 0 where
  pub same : h.kind ≡ kind
  pub number : IsNumberText text h.connection
