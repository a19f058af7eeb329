-- What the replies to requests of the administrator tell.
use Rattle.std.specs.Prelude.{◌≡◌, ◌⊎◌, ◌<◌, ◌^◌, ℕ, Bool, true, false, List, length, find, Option, None, Some, IsSome, MatchOption, codes, string_bytes}
use Rattle.scim_text.specs.declared.memory.Failed.TheVariants.{Because}
use Rattle.scim_cell.specs.Content.{Content}
use Rattle.scim_audit_listing.specs.declared.listings.LineFormat.{LineFormat}
use Rattle.scim_audit_listing.specs.declared.listings.LineFormat.TheVariants.{Words, Json}
use Rattle.scim_audit_listing.specs.Listings.{listed}
use Rattle.scim_policy.specs.Rules.{Rule}
use Rattle.scim_shelf.specs.declared.faults.ShelfFault.TheVariants.{Device}
use Rattle.scim_shelf_cache.specs.Caches.{HasKeyed}
use Rattle.scim_shelf.specs.Shelves.{count_after}
use Rattle.scim_shelf.specs.Stores.{Store, is_at}
use Rattle.scim_hub.specs.declared.hubs.Hub.{Hub}
use Rattle.scim_hub.specs.HubSetting.{hub_policy, hub_shelf}
use Rattle.scim_explain_paths.specs.Paths.{path_named}
use Rattle.scim_filter_grammar.specs.declared.tree.Meant.{Meant}
use Rattle.scim_command_database.specs.declared.explaining.Question.{Question}
use Rattle.scim_command_database.specs.Explaining.{told}
use Rattle.scim_command_database.specs.Exports.{export_text}
use Rattle.scim_wire.specs.declared.messages.Message.{Message}
use Rattle.scim_admin_text.specs.declared.audit_queries.AuditQuery.{AuditQuery}
use Rattle.scim_admin_text.specs.declared.refusals.AdminRefusal.{AdminRefusal}
use Rattle.scim_admin_text.specs.declared.replies.Status.TheVariants.{Ok, BadRequest, NotFound, InternalServerError, ServiceUnavailable}
use Rattle.scim_admin_text.specs.declared.requests.AdminRequest.{AdminRequest}
use Rattle.scim_admin_text.specs.declared.requests.AdminRequest.TheVariants.{Audit, Explain, Export}
use Rattle.scim_admin_text.specs.declared.requests.ExplainQuery.{ExplainQuery}
use Rattle.scim_admin_text.specs.Requests.{Asks}
use Rattle.scim_admin_streams.specs.AuditJobs.{listing_of}
use Rattle.scim_admin.specs.declared.jobs.Job.{Job}
use Rattle.scim_admin.specs.declared.replies.Reply.{Reply}
use Rattle.scim_admin.specs.Jobs.{IsOver, rest_of}
use Rattle.scim_admin.specs.Replies.{Says, Streams, status_of}

-- ---- rows of the audit

-- the media type of rows in a form
abbrev pub content_of : LineFormat → List ℕ
content_of Words = codes "text/plain; charset=utf-8"
content_of Json = codes "application/x-ndjson"

-- the reply sends the listing that the query asks for, of the rows that the store has
abbrev pub TellsRows : (Store → Type 0) → AuditQuery → Bool → Reply → Type 0
TellsRows Stands q closes reply =
    (job : Job) × Streams (content_of q.format) closes reply job
    × ((store : Store) → Stands store → length store.audit < 2 ^ 64 → rest_of job store ≡ listed (listing_of q) store.audit)

-- ---- a read of the shelf

-- the device failed once more
abbrev pub HasFailed : ℕ → ℕ → Type 0
HasFailed before now = now ≡ count_after before (Because Device)

-- the reply says that the database can't be read, since the device failed
abbrev pub IsUnreadable : ℕ → ℕ → Reply → Type 0
IsUnreadable before now reply = HasFailed before now × Says InternalServerError (codes "the database can't be read\n") reply

-- ---- all resources

-- the job sends the users file of the store's resources
abbrev pub SendsAll : Job → Store → Type 0
SendsAll job store = IsOver job.work store × (rest_of job store ≡ export_text store.resources)

-- the reply sends the users file of the resources that the store has; or another export isn't finished, or the device
-- failed
abbrev pub TellsAll : {S : Type 0} → (S → Store → Type 0) → (S → Type 0) → (S → ℕ) → S → S → Bool → Bool → Reply → Type 0
TellsAll Stands IsHonest failures old new is_exporting closes reply =
    ((is_exporting ≡ true) × Says ServiceUnavailable (codes "another export isn't finished\n") reply)
    ⊎ (((is_exporting ≡ false) × IsUnreadable (failures old) (failures new) reply)
    ⊎ ((is_exporting ≡ false) × (job : Job) × Streams (codes "application/json") closes reply job
    × ((store : Store) → Stands old store → IsHonest new → SendsAll job store)))

-- ---- explanations

-- the path is the one of the kind that the query names; there is none if it names none
abbrev pub IsPathOf : ExplainQuery → Option Meant → Type 0
IsPathOf q path = MatchOption q.path (path ≡ None) (λ text. IsSome path × (path ≡ path_named q.kind text))

-- The question of a query.
pub record IsQuestion (q : ExplainQuery) (question : Question) : Type 0 where
  pub client : question.client.now ≡ q.client
  pub op : question.op ≡ q.op
  pub kind : question.kind ≡ q.kind
  pub id : question.id ≡ q.id
  pub path : IsPathOf q question.path

-- the reply explains the policy's decision on the resource of the kind with the id, or says that there is none
abbrev pub Explains : List Rule → Question → Reply → List Content → Type 0
Explains policy question reply cs =
    MatchOption (find (is_at question.kind question.id) cs) (Says NotFound (codes "no such resource\n") reply)
    (λ c. Says Ok (told policy question c) reply)

-- the reply explains the decision of the policy in force on a resource of the store; or the path of the query is refused,
-- or the device failed
abbrev pub TellsWhy : {S : Type 0} → (S → Store → Type 0) → (S → Type 0) → (S → ℕ) → Hub S → Hub S → ExplainQuery → Reply → Type 0
TellsWhy Stands IsHonest failures old new q reply =
    (IsSome q.path × (body : List ℕ) × Says BadRequest body reply)
    ⊎ (IsUnreadable (failures (hub_shelf old)) (failures (hub_shelf new)) reply
    ⊎ ((question : Question) × IsQuestion q question
    × ((store : Store) → Stands (hub_shelf old) store → IsHonest (hub_shelf new) → Explains (hub_policy old) question reply store.resources)))

-- ---- all requests

-- the reply to a request for rows of the audit, for an explanation or for all resources
abbrev pub Tells : {S : Type 0} → (S → Store → Type 0) → (S → Type 0) → (S → ℕ) → Hub S → Hub S → Bool → Bool → AdminRequest → Reply → Type 0
Tells Stands IsHonest failures old new is_exporting closes (Audit q) reply = TellsRows (Stands (hub_shelf old)) q closes reply
Tells Stands IsHonest failures old new is_exporting closes (Explain q) reply = TellsWhy Stands IsHonest failures old new q reply
Tells Stands IsHonest failures old new is_exporting closes Export reply =
    TellsAll (HasKeyed Stands) IsHonest failures (hub_shelf old) (hub_shelf new) is_exporting closes reply
Tells Stands IsHonest failures old new is_exporting closes _ reply = Unit {0}

-- the reply tells what a request tells that the message asks; or the message is refused
abbrev pub IsReplyTo : {S : Type 0} → (S → Store → Type 0) → (S → Type 0) → (S → ℕ) → Hub S → Hub S → Bool → Message → Reply → Type 0
IsReplyTo Stands IsHonest failures old new is_exporting message reply =
    ((request : AdminRequest) × Asks message request × Tells Stands IsHonest failures old new is_exporting message.close request reply)
    ⊎ ((refusal : AdminRefusal) × (body : List ℕ) × Says (status_of refusal) body reply)
