-- The syntax of events files, which have one event of a connection per line.
use Rattle.std.specs.Prelude.{◌≡◌, ◌≢◌, ℕ, ◌+◌, ◌^◌, ◌<◌, ◌==◌, Bool, List, [], ◌∷◌, ◌++◌, length, codes, Some, Ok, if◌then◌else◌}
use Rattle.std.specs.List.{before_first, after_first, slice_split}
use Rattle.std.specs.Str.Parse.{IsNumeral, digits_value}
use Rattle.hex.specs.Hex.{decode_of}
use Rattle.scim_text.specs.Moments.{moment_of}
use Rattle.scim_cell.specs.Ids.{IsId, id_text}
use Rattle.scim_token.specs.TokenFile.{is_line_feed}
use Rattle.scim_hub.specs.Events.{HubEventKind, joining, sending, leaving, HubEvent}

-- whether a byte is a space
abbrev pub is_space : ℕ → Bool
is_space b = b == 32

-- the text before the first space; the whole text if there is no space
abbrev pub word : List ℕ → List ℕ
word text = before_first is_space text

-- the text after the first space; empty if there is no space
abbrev pub behind : List ℕ → List ℕ
behind text = after_first is_space text

-- the text consists of decimal digits, and their value is n, which is below 2^64
pub record IsNumberText (text : List ℕ) (n : ℕ) : Type 0 where
  pub digits : IsNumeral 10 text
  pub value : digits_value 10 text ≡ n
  pub fits : n < 2 ^ 64

-- the text is the hex digits, in either case, of `bytes`, which has at least one byte
pub record IsHexText (text bytes : List ℕ) : Type 0 where
  pub decoded : decode_of text ≡ Ok bytes
  pub any : bytes ≢ []

-- the name and the text after it describe this event on connection n: `joined N`, `piece N HEX` or `left N`
abbrev pub Tells : List ℕ → List ℕ → ℕ → HubEventKind → Type 0
Tells name rest n joining = (name ≡ codes "joined") × IsNumberText rest n
Tells name rest n (sending bytes) = (name ≡ codes "piece") × IsNumberText (word rest) n × IsHexText (behind rest) bytes
Tells name rest n leaving = (name ≡ codes "left") × IsNumberText rest n

-- the text is this moment, in the form in which the server prints moments
abbrev pub IsMomentText : List ℕ → ℕ → Type 0
IsMomentText text moment = moment_of text ≡ Some moment

-- the text is this id, in the form in which the server prints ids
pub record IsTextOfId (text id : List ℕ) : Type 0 where
  pub is_id : IsId id
  pub text_is : text ≡ id_text id

-- the line describes this event: its time, its first id, and what occurred, with one space between two words
pub record IsEventLine (line : List ℕ) (event : HubEvent) : Type 0 where
  pub moment : IsMomentText (word line) event.stamp.moment
  pub first : IsTextOfId (word (behind line)) event.stamp.first
  pub kind : Tells (word (behind (behind line))) (behind (behind (behind line))) event.connection event.kind

-- the lines describe these events, one event per line, in order
abbrev pub AreEventLines : List (List ℕ) → List HubEvent → Type 0
AreEventLines [] events = events ≡ []
AreEventLines (line ∷ ls) events = (event : HubEvent) × (rest : List HubEvent) × (events ≡ event ∷ rest) × IsEventLine line event × AreEventLines ls rest

-- all lines, without the last line if it is empty
abbrev pub without_empty_last : List (List ℕ) → List (List ℕ)
without_empty_last [] = []
without_empty_last (line ∷ []) = if length line == 0 then [] else line ∷ []
without_empty_last (line ∷ next ∷ more) = line ∷ without_empty_last (next ∷ more)

-- the lines of a file; each ends at a line feed, which may be missing from the last line; a CR before the
-- line feed is part of the line
abbrev pub file_lines : List ℕ → List (List ℕ)
file_lines text = without_empty_last (slice_split is_line_feed text)

-- the text is an events file with these events
abbrev pub IsEventFile : List ℕ → List HubEvent → Type 0
IsEventFile text events = AreEventLines (file_lines text) events

-- line n, counted from 1, is the first line that doesn't describe an event
pub record IsFaultyAt (ls : List (List ℕ)) (n : ℕ) : Type 0 where
  pub before : List (List ℕ)
  pub line : List ℕ
  pub after : List (List ℕ)
  pub split : ls ≡ before ++ line ∷ after
  pub number : n ≡ length before + 1
  pub events : List HubEvent
  pub told : AreEventLines before events
  pub faulty : (event : HubEvent) → ¬ (IsEventLine line event)
