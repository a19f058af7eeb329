-- The refusal, status, body and location of a reply.
use Rattle.std.specs.Prelude.{ℕ, List, Option, None, Some}
use Rattle.scim_audit.specs.declared.refusals.Refusal.{Refusal}
use Rattle.scim_audit.specs.declared.refusals.Refusal.TheVariants.{Store}
use Rattle.scim_audit.specs.Refusals as refusals
use Rattle.scim_service.specs.declared.replies.Reply.{Reply}
use Rattle.scim_service.specs.declared.replies.Reply.TheVariants.{Shown, Created, Done, Refused, Failed}

-- The refusal that a reply reports, if any. A failure is reported as `Store`, whatever its cause.
abbrev pub refusal_of : Reply → Option Refusal
refusal_of (Refused refusal) = Some refusal
refusal_of (Failed cause) = Some Store
refusal_of _ = None

-- The status code of a reply (RFC 9110 section 15).
abbrev pub status_of : Reply → ℕ
status_of (Shown text) = 200
status_of (Created location text) = 201
status_of Done = 204
status_of (Refused refusal) = refusals.status_of refusal
status_of (Failed cause) = refusals.status_of Store

-- The body of a reply, if any.
abbrev pub body_of : Reply → Option (List ℕ)
body_of (Shown text) = Some text
body_of (Created location text) = text
body_of Done = None
body_of (Refused refusal) = Some (refusals.body_of refusal)
body_of (Failed cause) = Some (refusals.body_of Store)

-- The location of the resource that was created, if any (RFC 7644 section 3.1).
abbrev pub location_of : Reply → Option (List ℕ)
location_of (Created location text) = Some location
location_of _ = None
