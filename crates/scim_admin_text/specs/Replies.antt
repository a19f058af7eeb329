-- The texts of replies to the administrator (RFC 9112 sections 4 and 7.1).
use Rattle.std.specs.Prelude.{ℕ, List, [], ◌++◌, length, codes, if◌then◌else◌, ◌==◌, false}
use Rattle.std.specs.Option.{option_copied}
use Rattle.std.specs.Fmt.{decimal, digits}
use Rattle.scim_wire.specs.Replies.{crlf, line, option_line, optional_line}
use Rattle.scim_admin_text.specs.declared.replies.Status.{Status}
use Rattle.scim_admin_text.specs.declared.replies.Status.TheVariants as status
use Rattle.scim_admin_text.specs.declared.replies.Body.{Body}
use Rattle.scim_admin_text.specs.declared.replies.Body.TheVariants.{Length, Chunks, UntilClose}
use Rattle.scim_admin_text.specs.declared.replies.Head.{Head}

-- the code and the reason phrase of a status (RFC 9110 section 15)
abbrev pub status_text : Status → List ℕ
status_text status.Ok = codes "200 OK"
status_text status.BadRequest = codes "400 Bad Request"
status_text status.Unauthorized = codes "401 Unauthorized"
status_text status.NotFound = codes "404 Not Found"
status_text status.MethodNotAllowed = codes "405 Method Not Allowed"
status_text status.Conflict = codes "409 Conflict"
status_text status.ContentTooLarge = codes "413 Payload Too Large"
status_text status.InternalServerError = codes "500 Internal Server Error"
status_text status.NotImplemented = codes "501 Not Implemented"
status_text status.ServiceUnavailable = codes "503 Service Unavailable"

-- the header line that frames a body, if there is one (RFC 9112 section 6)
abbrev pub framing_line : Body → List ℕ
framing_line (Length n) = line (codes "Content-Length") (decimal n)
framing_line Chunks = line (codes "Transfer-Encoding") (codes "chunked")
framing_line UntilClose = []

-- the head of a reply: status line, headers and empty line (RFC 9112 section 4)
unfoldable pub head_text : Head → List ℕ
head_text head =
    codes "HTTP/1.1 " ++ status_text head.status ++ crlf
    ++ line (codes "Content-Type") head.content.now
    ++ framing_line head.body
    ++ option_line (codes "Allow") (option_copied head.allow)
    ++ optional_line head.asks_for_token (codes "WWW-Authenticate") (codes "Bearer")
    ++ optional_line head.closes (codes "Connection") (codes "close")
    ++ crlf

-- a piece of a body as one chunk; an empty piece has none (RFC 9112 section 7.1)
abbrev pub chunk : List ℕ → List ℕ
chunk piece = if length piece == 0 then [] else digits 16 false (length piece) ++ crlf ++ piece ++ crlf

-- the text that ends a body in chunks: the last chunk and no trailers (RFC 9112 section 7.1)
abbrev pub last_chunk : List ℕ
last_chunk = codes "0\r\n\r\n"

-- a whole reply with this body
abbrev pub whole_reply : Head → List ℕ → List ℕ
whole_reply head body = head_text (record head { body = Length (length body) }) ++ body
