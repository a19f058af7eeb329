-- The contents of a head: method, target, token, framing, and whether the connection closes.
use Rattle.std.specs.Prelude.{◌≡◌, ℕ, Bool, ◌&&◌, ◌||◌, ◌==◌, ◌⊎◌, List, map, Result, Ok, Err}
use Rattle.httparse.specs.Grammar.{RequestHead}
use Rattle.httparse.specs.Spans.{name_and_value}
use Rattle.scim_audit.specs.declared.refusals.Refusal.{Refusal}
use Rattle.scim_audit.specs.declared.refusals.Refusal.TheVariants.{BadHead}
use Rattle.scim_wire.specs.declared.body_framing.Framing.{Framing}
use Rattle.scim_wire.specs.declared.message_heads.MessageHead.{MessageHead}
use Rattle.scim_wire.specs.Framings.{framing}
use Rattle.scim_wire.specs.Heads.{IsRequestText, SaysNothing}
use Rattle.scim_wire.specs.Options as options
use Rattle.scim_wire.specs.Tokens.{token_of}

-- the names and values of a request's headers
abbrev pub fields_of : RequestHead → List (List ℕ × List ℕ)
fields_of h = map name_and_value h.fields

-- whether the connection closes after the reply: the version is HTTP/1.0, or `Connection` lists `close` (RFC
-- 9112 section 9.3)
abbrev pub closes : RequestHead → Bool
closes h = h.minor == 0 || options.says_close (fields_of h)

-- whether the client may wait for 100 (Continue): the version is HTTP/1.1, and a header `Expect` is
-- `100-continue` (RFC 9110 section 10.1.1)
abbrev pub expects_continue : RequestHead → Bool
expects_continue h = h.minor == 1 && options.expects_continue (fields_of h)

-- the contents of a head with this framing, or the refusal of its framing
abbrev pub framed : RequestHead → Result Framing Refusal → Result MessageHead Refusal
framed h (Ok by) = Ok (record {
  method = h.method;
  target = h.target;
  token = token_of (fields_of h);
  framing = by;
  close = closes h;
  expects_continue = expects_continue h;
})
framed h (Err refusal) = Err refusal

-- the contents of a head, or the refusal of its framing
abbrev pub message_head_of : RequestHead → Result MessageHead Refusal
message_head_of h = framed h (framing (fields_of h))

-- `read` is the result of parsing the text of a head: the contents of the head, or the refusal; the refusal
-- is `BadHead` if the text isn't a request line with at most 64 headers
abbrev pub ReadsMessage : List ℕ → Result MessageHead Refusal → Type 0
ReadsMessage text read =
    ((h : RequestHead) × IsRequestText text h × (read ≡ message_head_of h))
    ⊎ (SaysNothing text × (read ≡ Err BadHead))
