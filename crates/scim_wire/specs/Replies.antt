-- The text of a reply (RFC 9112 section 4).
use Rattle.std.specs.Prelude.{ℕ, Bool, false, not, List, [], ◌∷◌, ◌++◌, length, Option, Some, None, unwrap_or, codes, if◌then◌else◌, ◌==◌, is_some, bytes_eq}
use Rattle.std.specs.Option.{option_copied}
use Rattle.std.specs.Fmt.{decimal}
use Rattle.http.specs.StatusCode.{reason_phrase}
use Rattle.scim_wire.specs.declared.messages.Message.{Message}
use Rattle.scim_wire.specs.declared.replies.HttpReply.{HttpReply}
use Rattle.scim_wire.specs.declared.replies.ReplyForm.{ReplyForm}

-- CR LF
abbrev pub crlf : List ℕ
crlf = 13 ∷ 10 ∷ []

-- a header line with this name and value
abbrev pub line : List ℕ → List ℕ → List ℕ
line name value = name ++ codes ": " ++ value ++ crlf

-- a header line if there is a value, otherwise nothing
abbrev pub option_line : List ℕ → Option (List ℕ) → List ℕ
option_line name None = []
option_line name (Some value) = line name value

-- a header line if `due` is true, otherwise nothing
abbrev pub optional_line : Bool → List ℕ → List ℕ → List ℕ
optional_line due name value = if due then line name value else []

-- the reason phrase of a status code (RFC 9110 section 15), empty if the code has none
abbrev pub phrase_of : ℕ → List ℕ
phrase_of code = unwrap_or (reason_phrase code) []

-- the status line: version, code and reason phrase
abbrev pub status_line : ℕ → List ℕ
status_line code = codes "HTTP/1.1 " ++ decimal code ++ codes " " ++ phrase_of code ++ crlf

-- the contents of a reply, as byte lists
pub record Said : Type 0 where
  pub status : ℕ
  pub body : Option (List ℕ)
  pub location : Option (List ℕ)
  pub allow : Option (List ℕ)
  pub asks_for_token : Bool

-- the body of a reply, empty if it has none
abbrev pub body_text : Said → List ℕ
body_text said = unwrap_or said.body []

-- the form of a reply that doesn't omit its body; `closes` tells whether the reply has the header
-- `Connection: close`
abbrev pub whole_form : Bool → ReplyForm
whole_form closes = record { closes = closes; omits_body = false }

-- the form of the reply to a message; the reply omits its body if the method is exactly `HEAD` (RFC 9110
-- section 9.3.2)
abbrev pub form_of : Message → ReplyForm
form_of message = record { closes = message.close; omits_body = bytes_eq message.method (codes "HEAD") }

-- the head of a reply: status line, the headers that apply and an empty line (RFC 9112 section 4);
-- `Content-Length` is the length of the body even if the reply omits the body
unfoldable pub head_text : Said → Bool → List ℕ
head_text said closes =
    status_line said.status
    ++ optional_line (is_some said.body) (codes "Content-Type") (codes "application/scim+json")
    ++ optional_line (not (said.status == 204)) (codes "Content-Length") (decimal (length (body_text said)))
    ++ option_line (codes "Location") said.location
    ++ option_line (codes "Allow") said.allow
    ++ optional_line said.asks_for_token (codes "WWW-Authenticate") (codes "Bearer")
    ++ optional_line closes (codes "Connection") (codes "close")
    ++ crlf

-- the text of a reply, printed in this form: its head, and its body unless the form omits it
abbrev pub text_of : Said → ReplyForm → List ℕ
text_of said form = head_text said form.closes ++ (if form.omits_body then [] else body_text said)

-- the contents of a reply
abbrev pub said_by : HttpReply → Said
said_by reply =
    record { status = reply.status; body = option_copied reply.body; location = option_copied reply.location; allow = option_copied reply.allow; asks_for_token = reply.asks_for_token }

-- the text of a reply, printed in this form
abbrev pub reply_text : HttpReply → ReplyForm → List ℕ
reply_text reply form = text_of (said_by reply) form
