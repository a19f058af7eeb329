-- What a message of the administrator asks.
use Rattle.std.specs.Prelude.{◌≡◌, ◌≢◌, ℕ, ◌^◌, ◌<◌, Bool, List, codes, Option, None, Some, MatchOption, IfSome, ◌==◌, bytes_eq, if◌then◌else◌}
use Rattle.std.specs.List.{before_first, after_first}
use Rattle.std.specs.Str.Parse.{IsNumeral, digits_value}
use Rattle.scim_text.specs.Moments.{moment_of}
use Rattle.scim_cell.specs.Ids.{IsId, id_text}
use Rattle.scim_schema.specs.Lookup.{operation_named, kind_named}
use Rattle.scim_wire.specs.declared.messages.Message.{Message}
use Rattle.scim_route.specs.Parameters.{pairs_of}
use Rattle.scim_admin_text.specs.declared.endpoints.Endpoint.{Endpoint}
use Rattle.scim_admin_text.specs.declared.endpoints.Endpoint.TheVariants as endpoint
use Rattle.scim_admin_text.specs.declared.refusals.AdminRefusal.{AdminRefusal}
use Rattle.scim_admin_text.specs.declared.refusals.AdminRefusal.TheVariants.{NoEndpoint, BadMethod}
use Rattle.scim_admin_text.specs.declared.requests.AdminRequest.{AdminRequest}
use Rattle.scim_admin_text.specs.declared.requests.AdminRequest.TheVariants.{Health, Metrics, Audit, Explain, Export, Reload, Stop}
use Rattle.scim_admin_text.specs.declared.audit_queries.AuditQuery.{AuditQuery}
use Rattle.scim_admin_text.specs.declared.requests.ExplainQuery.{ExplainQuery}
use Rattle.scim_audit_listing.specs.declared.listings.LineFormat.{LineFormat}
use Rattle.scim_audit_listing.specs.declared.listings.LineFormat.TheVariants.{Words, Json}
use Rattle.scim_audit_listing.specs.declared.listings.Portion.{Portion}
use Rattle.scim_audit_listing.specs.declared.listings.Portion.TheVariants.{First, Last}
use Rattle.scim_audit_listing.specs.RefusalNames.{NamesRefusal}
use Rattle.scim_admin_text.specs.Endpoints.{endpoint_at, method_of}
use Rattle.scim_admin_text.specs.Parameters as parameters

-- the names and values in a query
abbrev pub Pairs : Type 0
Pairs = List (List ℕ × List ℕ)

-- the value of the first pair with this name; `None` if there is no such pair
abbrev pub value_of : List ℕ → Pairs → Option (List ℕ)
value_of = parameters.value_of

-- whether a byte is `?`
abbrev pub is_question_mark : ℕ → Bool
is_question_mark b = b == 63

-- the part of a target before the first `?`
abbrev pub path_of : List ℕ → List ℕ
path_of target = before_first is_question_mark target

-- the part of a target after the first `?`; empty if there is none
abbrev pub query_of : List ℕ → List ℕ
query_of target = after_first is_question_mark target

-- the text consists of decimal digits, and their value is n, which is below 2^64
pub record IsNumberText (text : List ℕ) (n : ℕ) : Type 0 where
  pub digits : IsNumeral 10 text
  pub value : digits_value 10 text ≡ n
  pub fits : n < 2 ^ 64

-- the number in the text, if any
abbrev pub FindsNumber : List ℕ → Option ℕ → Type 0
FindsNumber text found = IfSome found (IsNumberText text)

-- the parameter with this name satisfies `Holds`
abbrev pub HasSome : Pairs → List ℕ → (List ℕ → Type 0) → Type 0
HasSome pairs name Holds = (text : List ℕ) × (value_of name pairs ≡ Some text) × Holds text

-- there is no parameter with this name and no number, or the parameter is the number
abbrev pub MayHaveNumber : Pairs → List ℕ → Option ℕ → Type 0
MayHaveNumber pairs name found =
    MatchOption (value_of name pairs) (found ≡ None) (λ text. (n : ℕ) × (found ≡ Some n) × IsNumberText text n)

-- there is no parameter `since` and no moment, or the parameter is the moment as the server prints it
abbrev pub MayHaveMoment : Pairs → Option ℕ → Type 0
MayHaveMoment pairs found =
    MatchOption (value_of (codes "since") pairs) (found ≡ None) (λ text. (n : ℕ) × (found ≡ Some n) × (moment_of text ≡ Some n))

-- there is no parameter `refusal` and no number, or the parameter names the refusal with the number
abbrev pub MayHaveRefusal : Pairs → Option ℕ → Type 0
MayHaveRefusal pairs found =
    MatchOption (value_of (codes "refusal") pairs) (found ≡ None) (λ text. (n : ℕ) × (found ≡ Some n) × NamesRefusal text n)

-- how many rows are listed: the first `count` rows, the last `last` rows, or all if there is neither parameter
abbrev pub HasPortion : Pairs → Portion → Type 0
HasPortion pairs (First n) =
    (value_of (codes "last") pairs ≡ None)
    × MatchOption (value_of (codes "count") pairs) (n ≡ 18446744073709551615) (λ text. IsNumberText text n)
HasPortion pairs (Last n) =
    (value_of (codes "count") pairs ≡ None) × HasSome pairs (codes "last") (λ text. IsNumberText text n)

-- the form of rows with this name; by words if there is no name
abbrev pub format_in : Option (List ℕ) → Option LineFormat
format_in None = Some Words
format_in (Some name) = if bytes_eq name (codes "words") then Some Words else if bytes_eq name (codes "json") then Some Json else None

-- the query for rows of the audit says what the parameters say
pub record AsksAudit (pairs : Pairs) (q : AuditQuery) : Type 0 where
  pub from : MatchOption (value_of (codes "from") pairs) (q.from ≡ 1) (λ text. IsNumberText text q.from)
  pub portion : HasPortion pairs q.portion
  pub client : q.client ≡ value_of (codes "client") pairs
  pub since : MayHaveMoment pairs q.since
  pub refusal : MayHaveRefusal pairs q.refusal
  pub format : format_in (value_of (codes "format") pairs) ≡ Some q.format

-- the query for an explanation says what the parameters say
pub record AsksExplain (pairs : Pairs) (q : ExplainQuery) : Type 0 where
  pub client : value_of (codes "client") pairs ≡ Some q.client
  pub op : HasSome pairs (codes "op") (λ text. operation_named text ≡ Some q.op)
  pub kind : HasSome pairs (codes "kind") (λ text. kind_named text ≡ Some q.kind)
  pub id : HasSome pairs (codes "id") (λ text. IsId q.id × (text ≡ id_text q.id))
  pub path : q.path ≡ value_of (codes "path") pairs

-- the endpoint has no parameters
abbrev pub IsPlain : Endpoint → Type 0
IsPlain endpoint.Audit = ⊥
IsPlain endpoint.Explain = ⊥
IsPlain _ = Unit {0}

-- the endpoint of a request
abbrev pub endpoint_asked : AdminRequest → Endpoint
endpoint_asked Health = endpoint.Health
endpoint_asked Metrics = endpoint.Metrics
endpoint_asked (Audit q) = endpoint.Audit
endpoint_asked (Explain q) = endpoint.Explain
endpoint_asked Export = endpoint.Export
endpoint_asked Reload = endpoint.Reload
endpoint_asked Stop = endpoint.Stop

-- the message names the endpoint, and has the method that the endpoint allows
pub record IsFor (message : Message) (e : Endpoint) : Type 0 where
  pub path : endpoint_at (path_of message.target) ≡ Some e
  pub method : message.method ≡ method_of e

-- the message names no endpoint, or has a method that the endpoint doesn't allow
abbrev pub IsForNone : Message → AdminRefusal → Type 0
IsForNone message NoEndpoint = endpoint_at (path_of message.target) ≡ None
IsForNone message (BadMethod e) = (endpoint_at (path_of message.target) ≡ Some e) × (message.method ≢ method_of e)
IsForNone message _ = ⊥

-- the request says what the parameters say
abbrev pub Says : Pairs → AdminRequest → Type 0
Says pairs (Audit q) = AsksAudit pairs q
Says pairs (Explain q) = AsksExplain pairs q
Says pairs _ = Unit {0}

-- the message asks for this: it names the request's endpoint with its method, and its query has the parameters
-- of the request
pub record Asks (message : Message) (request : AdminRequest) : Type 0 where
  pub endpoint : IsFor message (endpoint_asked request)
  pub parameters : Says (pairs_of (Some (query_of message.target))) request
