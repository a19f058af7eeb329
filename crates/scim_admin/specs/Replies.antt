-- The replies to the administrator.
use Rattle.std.specs.Prelude.{◌≡◌, ℕ, Bool, not, List, codes, Some, None, string_bytes, if◌then◌else◌}
use Rattle.scim_admin_text.specs.declared.refusals.AdminRefusal.{AdminRefusal}
use Rattle.scim_admin_text.specs.declared.refusals.AdminRefusal.TheVariants as refusal
use Rattle.scim_admin_text.specs.declared.replies.Body.TheVariants.{Chunks, UntilClose}
use Rattle.scim_admin_text.specs.declared.replies.Head.{Head}
use Rattle.scim_admin_text.specs.declared.replies.Status.{Status}
use Rattle.scim_admin_text.specs.declared.replies.Status.TheVariants.{Ok, Unauthorized, NotFound, MethodNotAllowed, BadRequest}
use Rattle.scim_admin_text.specs.Replies.{head_text, whole_reply}
use Rattle.scim_admin.specs.declared.jobs.Job.{Job}
use Rattle.scim_admin.specs.declared.replies.Reply.{Reply}

-- the text is a whole reply with this status and this body
abbrev pub IsWhole : Status → List ℕ → List ℕ → Type 0
IsWhole status body text = (head : Head) × (head.status ≡ status) × (text ≡ whole_reply head body)

-- the text is the reply to a request without a token of an administrator
abbrev pub IsUnauthorized : List ℕ → Type 0
IsUnauthorized text = IsWhole Unauthorized (codes "no token of an administrator\n") text

-- the status of the reply to a request that isn't carried out
abbrev pub status_of : AdminRefusal → Status
status_of refusal.NoToken = Unauthorized
status_of refusal.NoEndpoint = NotFound
status_of (refusal.BadMethod endpoint) = MethodNotAllowed
status_of refusal.UnknownParameter = BadRequest
status_of (refusal.BadValue parameter) = BadRequest

-- The reply is whole, with this status and this body.
pub record Says (status : Status) (body : List ℕ) (reply : Reply) : Type 0 where
  pub text : IsWhole status body (string_bytes reply.text)
  pub no_job : reply.job ≡ None

-- The text is the head of a reply whose body comes in pieces: it has the status 200 and this media type. The pieces are
-- chunks, or the body ends with the connection, if the connection closes.
pub record IsHead (content : List ℕ) (closes : Bool) (text : List ℕ) : Type 0 where
  pub head : Head
  pub status : head.status ≡ Ok
  pub content_type : head.content.now ≡ content
  pub body : head.body ≡ (if closes then UntilClose else Chunks)
  pub closing : head.closes ≡ closes
  pub is : text ≡ head_text head

-- The reply is a head with this media type, and the job sends the body.
pub record Streams (content : List ℕ) (closes : Bool) (reply : Reply) (job : Job) : Type 0 where
  pub head : IsHead content closes (string_bytes reply.text)
  pub has_job : reply.job ≡ Some job
  pub framing : job.is_chunked ≡ not closes
