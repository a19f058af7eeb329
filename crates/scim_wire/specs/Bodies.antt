-- The body of a message, by its framing (RFC 9112 section 6).
use Rattle.std.specs.Prelude.{◌≡◌, ℕ, ◌<◌, Bool, true, List, ◌++◌, length, nat_lt}
use Rattle.scim_audit.specs.declared.refusals.Refusal.{Refusal}
use Rattle.scim_audit.specs.declared.refusals.Refusal.TheVariants as refusals
use Rattle.scim_wire.specs.Chunked.{IsChunked, IsChunkedPart, IsBadChunked}
use Rattle.scim_wire.specs.declared.chunk_faults.BadChunks.{BadChunks}
use Rattle.scim_wire.specs.declared.chunk_faults.BadChunks.TheVariants.{TooLarge, Malformed}
use Rattle.scim_wire.specs.declared.body_framing.Framing.{Framing}
use Rattle.scim_wire.specs.declared.body_framing.Framing.TheVariants.{Sized, Chunked}

-- whether a body follows the head: the body is chunked, or it has at least one byte
abbrev pub has_body : Framing → Bool
has_body (Sized n) = nat_lt 0 n
has_body Chunked = true

-- the bytes after a head are exactly one body with the content `body`
abbrev pub IsBody : Framing → List ℕ → List ℕ → Type 0
IsBody (Sized n) bytes body = (bytes ≡ body) × (length body ≡ n)
IsBody Chunked bytes body = IsChunked bytes body

-- the bytes after a head are an unfinished body
abbrev pub IsBodyPart : Framing → List ℕ → Type 0
IsBodyPart (Sized n) bytes = length bytes < n
IsBodyPart Chunked bytes = IsChunkedPart bytes

-- the refusal for a fault of a chunked body
abbrev pub refusal_of : BadChunks → Refusal
refusal_of TooLarge = refusals.TooLarge
refusal_of Malformed = refusals.BadFraming

-- the bytes after a head begin with an invalid body, which gets this refusal
abbrev pub IsBadBody : Framing → List ℕ → Refusal → Type 0
IsBadBody (Sized n) bytes refusal = ⊥
IsBadBody Chunked bytes refusal =
    (front : List ℕ) × (back : List ℕ) × (fault : BadChunks)
    × (bytes ≡ front ++ back) × IsBadChunked front fault × (refusal ≡ refusal_of fault)
