-- The chunked transfer coding (RFC 9112 section 7.1).
use Rattle.std.specs.Prelude.{◌≡◌, ℕ, ◌+◌, ◌<◌, ◌≤◌, ◌⊎◌, List, [], ◌++◌, length, All}
use Rattle.std.specs.List.{flat_map}
use Rattle.httparse.specs.Ascii.{crlf_bytes}
use Rattle.httparse.specs.Grammar.{LineEnd, Field, ReadsSection, ChunkLine, ReadsChunkLine, chunk_size}
use Rattle.scim_schema.specs.declared.limits.TheConstants.{MAX_BODY}
use Rattle.scim_wire.specs.declared.chunk_faults.BadChunks.{BadChunks}
use Rattle.scim_wire.specs.declared.chunk_faults.BadChunks.TheVariants.{TooLarge, Malformed}
use Rattle.scim_wire.specs.Fronts.{IsFrontOf, IsDeadEnd}

-- the maximum number of content bytes of a body
abbrev pub most_content : ℕ
most_content = MAX_BODY

-- the text is a chunk line with this size, of at most 1,024 bytes with its CR LF
pub record IsLineOf (size : ℕ) (text : List ℕ) : Type 0 where
  pub line : ChunkLine
  pub reads : ReadsChunkLine text line []
  pub gives : size ≡ chunk_size line
  pub short : length text ≤ 1024

-- the text is a chunk line
abbrev pub IsLine : List ℕ → Type 0
IsLine text = (size : ℕ) × IsLineOf size text

-- the text is data of this length and CR LF
abbrev pub IsDataOf : ℕ → List ℕ → Type 0
IsDataOf size text = (data_bytes : List ℕ) × (length data_bytes ≡ size) × (text ≡ data_bytes ++ crlf_bytes)

-- the text is trailers: at most 64 headers and an empty line, at most 16,384 bytes together (RFC 9112 section
-- 7.1.2)
pub record AreTrailers (text : List ℕ) : Type 0 where
  pub fields : List Field
  pub last : LineEnd
  pub reads : ReadsSection text fields last []
  pub few : length fields ≤ 64
  pub short : length text ≤ 16384

-- the text may follow a chunk line with this size: trailers if the size is 0, which marks the last chunk, and
-- otherwise data of this size and CR LF
abbrev pub Follows : ℕ → List ℕ → Type 0
Follows size text = ((size ≡ 0) × AreTrailers text) ⊎ ((0 < size) × IsDataOf size text)

-- a chunk line and its data
pub record Chunk : Type 0 where
  pub line : List ℕ
  pub bytes : List ℕ

-- the chunk has data, and the size in its line is the length of the data
pub record IsChunk (chunk : Chunk) : Type 0 where
  pub is_line : IsLineOf (length chunk.bytes) chunk.line
  pub some : 0 < length chunk.bytes

-- the bytes of the chunks as they are sent: the line, the data and CR LF of each chunk
abbrev pub print_chunks : List Chunk → List ℕ
print_chunks chunks = flat_map (λ c. c.line ++ (c.bytes ++ crlf_bytes)) chunks

-- the data of all chunks, one after another
abbrev pub content : List Chunk → List ℕ
content chunks = flat_map (λ c. c.bytes) chunks

-- the bytes are whole chunks followed by `rest`; `body` is the content of the chunks, of at most
-- `most_content` bytes
pub record HasChunks (bytes body rest : List ℕ) : Type 0 where
  pub chunks : List Chunk
  pub each : All IsChunk chunks
  pub split : bytes ≡ print_chunks chunks ++ rest
  pub holds : body ≡ content chunks
  pub within : length body ≤ most_content

-- `rest` is a chunk line followed by a text; the size in the line and this text satisfy `IsText`
pub record IsAfterLine (IsText : ℕ → List ℕ → Type 0) (rest : List ℕ) : Type 0 where
  pub size : ℕ
  pub line : List ℕ
  pub text : List ℕ
  pub split : rest ≡ line ++ text
  pub is_line : IsLineOf size line
  pub is_text : IsText size text

-- `rest` is the last chunk, whose size is 0, and the trailers
abbrev pub IsEnd : List ℕ → Type 0
IsEnd rest = IsAfterLine (λ size text. (size ≡ 0) × AreTrailers text) rest

-- `rest` is an unfinished chunk line; or it is a whole chunk line, whose size keeps the content within its
-- limit, and a proper prefix of a text that may follow this line
abbrev pub IsEndPart : List ℕ → List ℕ → Type 0
IsEndPart body rest =
    IsFrontOf IsLine rest
    ⊎ IsAfterLine (λ size text. (length body + size ≤ most_content) × IsFrontOf (Follows size) text) rest

-- `rest` becomes invalid at its last byte. The error is `TooLarge` if `rest` is a chunk line whose size makes
-- the content exceed its limit. The error is `Malformed` if no chunk line, or no text that may follow a chunk
-- line, can continue with this byte.
abbrev pub IsBadEnd : List ℕ → List ℕ → BadChunks → Type 0
IsBadEnd body rest TooLarge = (size : ℕ) × IsLineOf size rest × (most_content < length body + size)
IsBadEnd body rest Malformed =
    IsDeadEnd IsLine rest
    ⊎ IsAfterLine (λ size text. (length body + size ≤ most_content) × IsDeadEnd (Follows size) text) rest

-- the bytes are exactly a chunked body with this content: chunks, the last chunk, and trailers
abbrev pub IsChunked : List ℕ → List ℕ → Type 0
IsChunked bytes body = (rest : List ℕ) × HasChunks bytes body rest × IsEnd rest

-- the bytes are an unfinished chunked body
abbrev pub IsChunkedPart : List ℕ → Type 0
IsChunkedPart bytes = (body : List ℕ) × (rest : List ℕ) × HasChunks bytes body rest × IsEndPart body rest

-- the last of these bytes makes the chunked body invalid, with this fault
abbrev pub IsBadChunked : List ℕ → BadChunks → Type 0
IsBadChunked bytes fault = (body : List ℕ) × (rest : List ℕ) × HasChunks bytes body rest × IsBadEnd body rest fault
