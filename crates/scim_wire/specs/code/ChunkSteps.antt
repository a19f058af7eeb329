-- The positions in a chunked body, and the state that is kept at each.
use Rattle.std.specs.Prelude.{◌≡◌, ℕ, ◌+◌, ◌<◌, ◌≤◌, ◌↔◌, List, [], ◌∷◌, ◌++◌, length}
use Rattle.httparse.specs.Ascii.{carriage_return}
use Rattle.scim_wire.specs.declared.chunk_lines.LinePart.{LinePart}
use Rattle.scim_wire.specs.declared.trailers.TrailerPart.{TrailerPart}
use Rattle.scim_wire.specs.declared.chunked.Place.{Place}
use Rattle.scim_wire.specs.declared.chunked.Place.TheVariants.{Line, Data, Return, Trailers}
use Rattle.scim_wire.specs.Chunked.{IsLineOf, AreTrailers, HasChunks, most_content}
use Rattle.scim_wire.specs.code.ChunkLines as lines
use Rattle.scim_wire.specs.code.Trailers.{IsRest, GoesOn}

-- the bytes end within a chunk line, and the texts that may follow are exactly those that `part` allows
pub record IsInLine (bytes body : List ℕ) (part : LinePart) : Type 0 where
  pub line : List ℕ
  pub chunks : HasChunks bytes body line
  pub rest : (size : ℕ) (more : List ℕ) → IsLineOf size (line ++ more) ↔ lines.IsRest part size more
  pub goes_on : lines.GoesOn part

-- the bytes consist of whole chunks, a chunk line, the first part of this chunk's data (of which `left` bytes
-- are missing), and the bytes `after`; `body` is the content so far
pub record IsInData (bytes body : List ℕ) (left : ℕ) (after : List ℕ) : Type 0 where
  pub before : List ℕ
  pub line : List ℕ
  pub now_held : List ℕ
  pub chunks : HasChunks bytes before (line ++ (now_held ++ after))
  pub holds : body ≡ before ++ now_held
  pub is_line : IsLineOf (length now_held + left) line
  pub some : 0 < length now_held + left
  pub within : length before + (length now_held + left) ≤ most_content

-- the bytes end within the trailers, and the texts that may follow are exactly those that `part` allows
pub record IsInTrailers (bytes body : List ℕ) (part : TrailerPart) : Type 0 where
  pub line : List ℕ
  pub text : List ℕ
  pub chunks : HasChunks bytes body (line ++ text)
  pub is_line : IsLineOf 0 line
  pub rest : (more : List ℕ) → AreTrailers (text ++ more) ↔ IsRest part more
  pub goes_on : GoesOn part

-- the bytes end at this position; `body` is the content read so far
abbrev pub StandsAt : Place → List ℕ → List ℕ → Type 0
StandsAt (Line part) body bytes = IsInLine bytes body part
StandsAt (Data left) body bytes = IsInData bytes body left []
StandsAt Return body bytes = IsInData bytes body 0 (carriage_return ∷ [])
StandsAt (Trailers part) body bytes = IsInTrailers bytes body part
