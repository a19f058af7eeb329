-- The bytes that may follow at each position in a chunk line.
use Rattle.std.specs.Prelude.{◌≡◌, ℕ, ◌^◌, ◌<◌, ◌≤◌, ◌↔◌, List, [], ◌∷◌, ◌++◌, length, Option, Some, None}
use Rattle.std.specs.Char.{is_ascii_hexdigit}
use Rattle.std.specs.Str.Parse.{digits_value_after}
use Rattle.httparse.specs.Ascii.{line_feed, crlf_bytes}
use Rattle.httparse.specs.Grammar.{is_ows, is_extension_byte, AllPass, IsExtension, print_extension}
use Rattle.scim_wire.specs.declared.chunk_lines.LinePlace.{LinePlace}
use Rattle.scim_wire.specs.declared.chunk_lines.LinePlace.TheVariants.{Start, Digits, Pad, Extension, Return, End}
use Rattle.scim_wire.specs.declared.chunk_lines.LinePart.{LinePart}
use Rattle.scim_wire.specs.declared.chunk_lines.LineStep.{LineStep}
use Rattle.scim_wire.specs.declared.chunk_lines.LineStep.TheVariants as step

-- the text is the rest of an extension, and CR LF
abbrev pub IsRestOfExtension : List ℕ → Type 0
IsRestOfExtension text = (raw : List ℕ) × AllPass is_extension_byte raw × (text ≡ raw ++ crlf_bytes)

-- the text is spaces and tabs, an optional extension, and CR LF
abbrev pub IsRestOfPad : List ℕ → Type 0
IsRestOfPad text =
    (pad : List ℕ) × (extension : Option (List ℕ))
    × AllPass is_ows pad × IsExtension extension × (text ≡ pad ++ (print_extension extension ++ crlf_bytes))

-- the text is at most `most` hex digits and what may follow them; the digits, appended to those of the number
-- `value`, make the number `size`, which fits 64 bits
pub record IsRestOfDigits (most value size : ℕ) (text : List ℕ) : Type 0 where
  pub digits : List ℕ
  pub after : List ℕ
  pub split : text ≡ digits ++ after
  pub each : AllPass is_ascii_hexdigit digits
  pub few : length digits ≤ most
  pub gives : size ≡ digits_value_after 16 value digits
  pub fits : size < 2 ^ 64
  pub is_after : IsRestOfPad after

-- the same with at least one digit
abbrev pub IsRestOfSize : ℕ → ℕ → ℕ → List ℕ → Type 0
IsRestOfSize most value size text = (rest : IsRestOfDigits most value size text) × (0 < length rest.digits)

-- the text may follow at this position, with at most `most` more digits; it completes a line with the size
-- `size`, of which the digits so far make the number `value`
abbrev pub IsRestAt : LinePlace → ℕ → ℕ → ℕ → List ℕ → Type 0
IsRestAt Start most value size text = IsRestOfSize most value size text
IsRestAt Digits most value size text = IsRestOfDigits most value size text
IsRestAt Pad most value size text = IsRestOfPad text × (size ≡ value)
IsRestAt Extension most value size text = IsRestOfExtension text × (size ≡ value)
IsRestAt Return most value size text = (text ≡ line_feed ∷ []) × (size ≡ value)
IsRestAt End most value size text = (text ≡ []) × (size ≡ value)

-- the smallest length of a text that may follow at this position
abbrev pub least : LinePlace → ℕ
least Start = 3
least Digits = 2
least Pad = 2
least Extension = 2
least Return = 1
least End = 0

-- the text may follow in the state `part` and completes a line with this size, ignoring the limit of bytes
abbrev pub IsFree : LinePart → ℕ → List ℕ → Type 0
IsFree part size text = IsRestAt part.place part.digits part.size size text

-- the text may follow in the state `part` and completes a line with this size, within the limit of bytes
abbrev pub IsRest : LinePart → ℕ → List ℕ → Type 0
IsRest part size text = IsFree part size text × (length text ≤ part.bytes)

-- the result of reading the first byte of a text that must satisfy `Is` with a size; `Some next` if a text may
-- follow in the state `next`, which isn't that of the start, exactly if the byte and this text together satisfy
-- `Is`; `None` if no text that satisfies `Is` begins with the byte
abbrev pub ByteLeads : (ℕ → List ℕ → Type 0) → ℕ → Option LinePart → Type 0
ByteLeads Is byte None = (size : ℕ) (text : List ℕ) → ¬ (Is size (byte ∷ text))
ByteLeads Is byte (Some next) =
    ¬ (next.place ≡ Start) × ((size : ℕ) (text : List ℕ) → Is size (byte ∷ text) ↔ IsFree next size text)

-- at least one more byte may follow in the state `part`
abbrev pub GoesOn : LinePart → Type 0
GoesOn part = (size : ℕ) × (next : ℕ) × (more : List ℕ) × IsRest part size (next ∷ more)

-- the result of reading one byte of a chunk line: invalid, finished with a size, or the next state
abbrev pub Steps : LinePart → ℕ → LineStep → Type 0
Steps part byte step.Bad = (size : ℕ) (text : List ℕ) → ¬ (IsRest part size (byte ∷ text))
Steps part byte (step.Whole size) = IsRest part size (byte ∷ [])
Steps part byte (step.More next) =
    ((size : ℕ) (text : List ℕ) → IsRest part size (byte ∷ text) ↔ IsRest next size text) × GoesOn next
