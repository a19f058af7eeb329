-- The bytes that may follow at each position in trailers.
use Rattle.std.specs.Prelude.{◌≡◌, ℕ, ◌≤◌, ◌↔◌, List, [], ◌∷◌, ◌++◌, length, Option, Some, None}
use Rattle.httparse.specs.Ascii.{line_feed, colon}
use Rattle.httparse.specs.Grammar.{is_token_byte, is_value_byte, AllPass, LineEnd, print_end, Field, ReadsSection}
use Rattle.scim_wire.specs.declared.trailers.TrailerPlace.{TrailerPlace}
use Rattle.scim_wire.specs.declared.trailers.TrailerPlace.TheVariants.{LineStart, EmptyReturn, Name, Value, Return, End}
use Rattle.scim_wire.specs.declared.trailers.TrailerPart.{TrailerPart}
use Rattle.scim_wire.specs.declared.trailers.Trailed.{Trailed}
use Rattle.scim_wire.specs.declared.trailers.Trailed.TheVariants as trailed

-- the text is at most `most` headers and the empty line
abbrev pub IsRestOfLines : ℕ → List ℕ → Type 0
IsRestOfLines most text = (fields : List Field) × (last : LineEnd) × ReadsSection text fields last [] × (length fields ≤ most)

-- the text is the rest of a header's value, the end of this line, and the remaining lines
abbrev pub IsRestOfValue : ℕ → List ℕ → Type 0
IsRestOfValue most text =
    (raw : List ℕ) × (end : LineEnd) × (lines : List ℕ)
    × AllPass is_value_byte raw × IsRestOfLines most lines × (text ≡ raw ++ (print_end end ++ lines))

-- the text is the rest of a header's name, the colon, a value, and the remaining lines
abbrev pub IsRestOfName : ℕ → List ℕ → Type 0
IsRestOfName most text =
    (name : List ℕ) × (after : List ℕ) × AllPass is_token_byte name × IsRestOfValue most after × (text ≡ name ++ colon ∷ after)

-- the text consists of LF and a text that satisfies `Is`
abbrev pub IsAfterFeed : (List ℕ → Type 0) → List ℕ → Type 0
IsAfterFeed Is text = (after : List ℕ) × Is after × (text ≡ line_feed ∷ after)

-- the text may follow at this position, with at most `most` more headers
abbrev pub IsRestAt : TrailerPlace → ℕ → List ℕ → Type 0
IsRestAt LineStart most text = IsRestOfLines most text
IsRestAt EmptyReturn most text = IsAfterFeed (λ after. after ≡ []) text
IsRestAt Name most text = IsRestOfName most text
IsRestAt Value most text = IsRestOfValue most text
IsRestAt Return most text = IsAfterFeed (IsRestOfLines most) text
IsRestAt End most text = text ≡ []

-- the smallest length of a text that may follow at this position
abbrev pub least : TrailerPlace → ℕ
least LineStart = 1
least EmptyReturn = 1
least Name = 3
least Value = 2
least Return = 2
least End = 0

-- the text may follow in the state `part`, ignoring the limit of bytes
abbrev pub IsFree : TrailerPart → List ℕ → Type 0
IsFree part text = IsRestAt part.place part.headers text

-- the text may follow in the state `part`, within the limit of bytes
abbrev pub IsRest : TrailerPart → List ℕ → Type 0
IsRest part text = IsFree part text × (length text ≤ part.bytes)

-- the result of reading the first byte of a text that must satisfy `Is`; `Some next` if a text may follow in
-- the state `next` exactly if the byte and this text together satisfy `Is`; `None` if no text that satisfies
-- `Is` begins with the byte
abbrev pub ByteLeads : (List ℕ → Type 0) → ℕ → Option TrailerPart → Type 0
ByteLeads Is byte None = (text : List ℕ) → ¬ (Is (byte ∷ text))
ByteLeads Is byte (Some next) = (text : List ℕ) → Is (byte ∷ text) ↔ IsFree next text

-- at least one more byte may follow in the state `part`
abbrev pub GoesOn : TrailerPart → Type 0
GoesOn part = (next : ℕ) × (more : List ℕ) × IsRest part (next ∷ more)

-- the result of reading one byte of trailers: invalid, finished, or the next state
abbrev pub Trails : TrailerPart → ℕ → Trailed → Type 0
Trails part byte trailed.Bad = (text : List ℕ) → ¬ (IsRest part (byte ∷ text))
Trails part byte trailed.Whole = IsRest part (byte ∷ [])
Trails part byte (trailed.More next) = ((text : List ℕ) → IsRest part (byte ∷ text) ↔ IsRest next text) × GoesOn next
