-- What the replies tell, by the parts that they are made of.
use Rattle.std.proofs.Common.{◌≡◌, ◌≢◌, ℕ, ◌<◌, ◌^◌, Bool, false, List, length, find, Option, None, Some, Result, Ok, Err, refl, sym, subst, inl, inr}
use Rattle.std.specs.Prelude.{IfErr, IfOk, MatchOption, codes}
use Rattle.scim_text.specs.declared.memory.Failed.{Failed}
use Rattle.scim_text.specs.declared.memory.Failed.TheVariants.{Because}
use Rattle.scim_text.specs.declared.memory.NoMemory.{NoMemory}
use Rattle.scim_cell.specs.Content.{Content}
use Rattle.scim_audit_listing.specs.Listings.{listed}
use Rattle.scim_shelf.specs.declared.faults.ShelfFault.{ShelfFault}
use Rattle.scim_shelf.specs.declared.faults.ShelfFault.TheVariants.{Device, Full}
use Rattle.scim_shelf_cache.specs.Caches.{HasKeyed}
use Rattle.scim_shelf.specs.Shelves.{Counts, count_after}
use Rattle.scim_shelf.specs.Stores.{Store, is_at}
use Rattle.scim_hub.specs.declared.hubs.Hub.{Hub}
use Rattle.scim_hub.specs.HubSetting.{hub_policy, hub_shelf}
use Rattle.scim_command_database.specs.declared.explaining.Question.{Question}
use Rattle.scim_command_database.specs.Explaining.{told}
use Rattle.scim_admin_text.specs.declared.audit_queries.AuditQuery.{AuditQuery}
use Rattle.scim_admin_text.specs.declared.replies.Status.TheVariants as status
use Rattle.scim_admin_text.specs.declared.requests.AdminRequest.{AdminRequest}
use Rattle.scim_admin_text.specs.declared.requests.AdminRequest.TheVariants.{Audit, Export}
use Rattle.scim_admin_text.specs.declared.requests.ExplainQuery.{ExplainQuery}
use Rattle.scim_admin_streams.specs.AuditJobs.{listing_of}
use Rattle.scim_admin.specs.declared.jobs.Job.{Job}
use Rattle.scim_admin.specs.declared.replies.Reply.{Reply}
use Rattle.scim_admin.specs.Answers.{HasFailed, IsQuestion, SendsAll, Tells, TellsAll, TellsRows, TellsWhy, content_of}
use Rattle.scim_admin.specs.Jobs.{rest_of}
use Rattle.scim_admin.specs.Replies.{Says, Streams}

abbrev Outcome : Type 0
Outcome = Result Reply NoMemory

-- ---- rows of the audit

pub list_tells : (Stands : Store → Type 0) (q : AuditQuery) (closes : Bool) (job : Job) (content : List ℕ) (result : Outcome) → content ≡ content_of q.format
    → ((store : Store) → Stands store → length store.audit < 2 ^ 64 → rest_of job store ≡ listed (listing_of q) store.audit)
    → IfOk result (λ reply. Streams content closes reply job) → IfOk result (TellsRows Stands q closes)
list_tells Stands q closes job content (Ok reply) same text streams = (job, subst (λ (t : List ℕ). Streams t closes reply job) same streams, text)
list_tells Stands q closes job content (Err e) same text streams = streams

-- ---- all resources

module _ {S : Type 0} (Stands : S → Store → Type 0) (IsHonest : S → Type 0) (failures : S → ℕ) (old new : S) (is_exporting closes : Bool) where
  pub export_tells : (job : Job) (result : Outcome) → is_exporting ≡ false → ((store : Store) → Stands old store → IsHonest new → SendsAll job store)
      → IfOk result (λ reply. Streams (codes "application/json") closes reply job) → IfOk result (TellsAll Stands IsHonest failures old new is_exporting closes)
  export_tells job (Ok reply) free text streams = inr (inr (free, job, streams, text))
  export_tells job (Err e) free text streams = streams

  pub export_fails : (result : Outcome) → is_exporting ≡ false → HasFailed (failures old) (failures new) → IfOk result (Says status.InternalServerError (codes "the database can't be read\n"))
      → IfOk result (TellsAll Stands IsHonest failures old new is_exporting closes)
  export_fails (Ok reply) free failed says = inr (inl (free, (failed, says)))
  export_fails (Err e) free failed says = says

-- a call that fails with a fault of the shelf fails with that of the device
pub device_failed : {T : Type 0} (result : Result T (Failed ShelfFault)) (fault : ShelfFault) (before now : ℕ) → result ≡ Err (Because fault) → Counts before now result → result ≢ Err (Because Full) → HasFailed before now
device_failed {T} result Device before now is counts other = subst (λ (r : Result T (Failed ShelfFault)). IfErr r (λ f. now ≡ count_after before f)) is counts.err
device_failed result Full before now is counts other = absurd (other is)

-- ---- explanations

module _ {S : Type 0} (Stands : S → Store → Type 0) (IsHonest : S → Type 0) (failures : S → ℕ) (old new : Hub S) (q : ExplainQuery) (question : Question) (asks : IsQuestion q question) where
  pub found_tells : (c : Content) (body : List ℕ) (result : Outcome)
      → ((store : Store) → Stands (hub_shelf old) store → IsHonest (hub_shelf new) → find (is_at question.kind question.id) store.resources ≡ Some c)
      → body ≡ told (hub_policy old) question c → IfOk result (Says status.Ok body) → IfOk result (TellsWhy Stands IsHonest failures old new q)
  found_tells c body (Ok reply) found same says =
      let P = λ (o : Option Content). MatchOption o (Says status.NotFound (codes "no such resource\n") reply) (λ d. Says status.Ok (told (hub_policy old) question d) reply) in
      inr (inr (question, asks, λ store stands honest. subst P (sym (found store stands honest)) (subst (λ (t : List ℕ). Says status.Ok t reply) same says)))
  found_tells c body (Err e) found same says = says

  pub none_tells : (result : Outcome)
      → ((store : Store) → Stands (hub_shelf old) store → IsHonest (hub_shelf new) → find (is_at question.kind question.id) store.resources ≡ None)
      → IfOk result (Says status.NotFound (codes "no such resource\n")) → IfOk result (TellsWhy Stands IsHonest failures old new q)
  none_tells (Ok reply) none says =
      let P = λ (o : Option Content). MatchOption o (Says status.NotFound (codes "no such resource\n") reply) (λ d. Says status.Ok (told (hub_policy old) question d) reply) in
      inr (inr (question, asks, λ store stands honest. subst P (sym (none store stands honest)) says))
  none_tells (Err e) none says = says

-- ---- all requests

module _ {S : Type 0} (Stands : S → Store → Type 0) (IsHonest : S → Type 0) (failures : S → ℕ) (old new : Hub S) (is_exporting closes : Bool) (request : AdminRequest) (result : Outcome) (shelf : S) (same : shelf ≡ hub_shelf old) where
  pub tells_rows : (q : AuditQuery) → request ≡ Audit q → IfOk result (TellsRows (Stands shelf) q closes) → IfOk result (Tells Stands IsHonest failures old new is_exporting closes request)
  tells_rows q is tells =
      subst (λ (r : AdminRequest). IfOk result (Tells Stands IsHonest failures old new is_exporting closes r)) (sym is)
      (subst (λ (s : S). IfOk result (TellsRows (Stands s) q closes)) same tells)

  pub tells_all : request ≡ Export → IfOk result (TellsAll (HasKeyed Stands) IsHonest failures shelf (hub_shelf new) is_exporting closes) → IfOk result (Tells Stands IsHonest failures old new is_exporting closes request)
  tells_all is tells =
      subst (λ (r : AdminRequest). IfOk result (Tells Stands IsHonest failures old new is_exporting closes r)) (sym is)
      (subst (λ (s : S). IfOk result (TellsAll (HasKeyed Stands) IsHonest failures s (hub_shelf new) is_exporting closes)) same tells)
