-- Refusals: their numbers, and the replies to them (RFC 7644 section 3.12).
use Rattle.std.specs.Prelude.{ℕ, Bool, true, false, List, [], ◌∷◌, ◌++◌, codes, Option, None, Some}
use Rattle.http.specs.StatusCode.{code_digits}
use Rattle.scim_audit.specs.declared.refusals.Refusal.{Refusal}
use Rattle.scim_audit.specs.declared.refusals.Refusal.TheVariants.{BadHead, TooLarge, BadFraming, UnknownCoding, NoRoute, NotSupported, BadMethod, NoToken, Syntax, Filter, Path, MessageValue, NotFound, Denied, Mutability, NoTarget, ResultValue, Taken, Widens, IdInUse, Store}
use Rattle.scim_audit.specs.declared.allowed_methods.Methods.TheVariants.{Collection}
use Rattle.scim_audit.specs.Methods.{allow_text}

-- the number of a refusal in the audit; the server checks for refusals in this order
abbrev pub number_of : Refusal → ℕ
number_of BadHead = 1
number_of TooLarge = 2
number_of BadFraming = 3
number_of UnknownCoding = 4
number_of NoRoute = 5
number_of NotSupported = 6
number_of (BadMethod methods) = 7
number_of NoToken = 8
number_of Syntax = 9
number_of Filter = 10
number_of Path = 11
number_of MessageValue = 12
number_of NotFound = 13
number_of Denied = 14
number_of Mutability = 15
number_of NoTarget = 16
number_of ResultValue = 17
number_of Taken = 18
number_of Widens = 19
number_of IdInUse = 20
number_of Store = 21

-- one refusal for each number, in order; `BadMethod` is listed with the methods of a collection
unfoldable pub refusals : List Refusal
refusals = BadHead ∷ TooLarge ∷ BadFraming ∷ UnknownCoding ∷ NoRoute ∷ NotSupported ∷ BadMethod Collection ∷ NoToken ∷ Syntax ∷ Filter ∷ Path ∷ MessageValue ∷ NotFound ∷ Denied ∷ Mutability ∷ NoTarget ∷ ResultValue ∷ Taken ∷ Widens ∷ IdInUse ∷ Store ∷ []

-- the status code of the reply (RFC 9110 section 15, RFC 7644 table 8)
abbrev pub status_of : Refusal → ℕ
status_of BadHead = 400
status_of TooLarge = 413
status_of BadFraming = 400
status_of UnknownCoding = 501
status_of NoRoute = 404
status_of NotSupported = 501
status_of (BadMethod methods) = 405
status_of NoToken = 401
status_of Syntax = 400
status_of Filter = 400
status_of Path = 400
status_of MessageValue = 400
status_of NotFound = 404
status_of Denied = 403
status_of Mutability = 400
status_of NoTarget = 400
status_of ResultValue = 400
status_of Taken = 409
status_of Widens = 403
status_of IdInUse = 503
status_of Store = 500

-- the detail error keyword (`scimType`), or None if RFC 7644 table 9 defines none for this error
abbrev pub scim_type_of : Refusal → Option (List ℕ)
scim_type_of Syntax = Some (codes "invalidSyntax")
scim_type_of Filter = Some (codes "invalidFilter")
scim_type_of Path = Some (codes "invalidPath")
scim_type_of MessageValue = Some (codes "invalidValue")
scim_type_of Mutability = Some (codes "mutability")
scim_type_of NoTarget = Some (codes "noTarget")
scim_type_of ResultValue = Some (codes "invalidValue")
scim_type_of Taken = Some (codes "uniqueness")
scim_type_of _ = None

-- the description of the error in English
abbrev pub detail_of : Refusal → List ℕ
detail_of BadHead = codes "Malformed request head."
detail_of TooLarge = codes "Request body too large."
detail_of BadFraming = codes "Malformed message framing."
detail_of UnknownCoding = codes "Unknown transfer coding."
detail_of NoRoute = codes "No such endpoint."
detail_of NotSupported = codes "Not supported."
detail_of (BadMethod methods) = codes "Method not allowed."
detail_of NoToken = codes "A valid bearer token is required."
detail_of Syntax = codes "Malformed request body."
detail_of Filter = codes "The filter is not valid."
detail_of Path = codes "The path is not valid."
detail_of MessageValue = codes "A value in the request is not valid."
detail_of NotFound = codes "Resource not found."
detail_of Denied = codes "Denied by policy."
detail_of Mutability = codes "The attribute cannot be changed."
detail_of NoTarget = codes "The path matched nothing."
detail_of ResultValue = codes "The result is not valid."
detail_of Taken = codes "A unique value is taken."
detail_of Widens = codes "The change would widen access."
detail_of IdInUse = codes "The identifier is in use."
detail_of Store = codes "The server could not complete the request."

-- the member `scimType` of an error message, or the empty text if there is no keyword
abbrev pub scim_type_member : Option (List ℕ) → List ℕ
scim_type_member None = codes ""
scim_type_member (Some scim_type) = codes ",\"scimType\":\"" ++ scim_type ++ codes "\""

-- the JSON of an error message, with its keys in byte order (RFC 7644 section 3.12)
abbrev pub error_message : ℕ → Option (List ℕ) → List ℕ → List ℕ
error_message status scim_type detail =
    codes "{\"detail\":\"" ++ detail
    ++ codes "\",\"schemas\":[\"urn:ietf:params:scim:api:messages:2.0:Error\"]"
    ++ scim_type_member scim_type
    ++ codes ",\"status\":\"" ++ code_digits status ++ codes "\"}"

-- the body of the reply to a refused request
abbrev pub body_of : Refusal → List ℕ
body_of refusal = error_message (status_of refusal) (scim_type_of refusal) (detail_of refusal)

-- whether the server closes the connection after the reply, because it doesn't read the rest of the request
-- (RFC 9112 section 9.6)
abbrev pub closes : Refusal → Bool
closes BadHead = true
closes TooLarge = true
closes BadFraming = true
closes UnknownCoding = true
closes _ = false

-- whether the reply asks for a token (RFC 9110 section 15.5.2, RFC 6750 section 3)
abbrev pub asks_for_token : Refusal → Bool
asks_for_token NoToken = true
asks_for_token _ = false

-- the text of the header `Allow` in the reply, or None if the reply has no such header (RFC 9110 section
-- 15.5.6)
abbrev pub allow_of : Refusal → Option (List ℕ)
allow_of (BadMethod methods) = Some (allow_text methods)
allow_of _ = None
