-- The text that a body in pieces has still to send.
use Rattle.std.specs.Prelude.{◌≡◌, ℕ, Bool, false, List, ◌++◌, ⊤, if◌then◌else◌}
use Rattle.scim_shelf.specs.Stores.{Store}
use Rattle.scim_admin_text.specs.Replies.{chunk, last_chunk}
use Rattle.scim_admin_streams.specs.AuditJobs as audits
use Rattle.scim_admin_streams.specs.ExportJobs as exports
use Rattle.scim_admin.specs.declared.jobs.Job.{Job}
use Rattle.scim_admin.specs.declared.jobs.Work.{Work}
use Rattle.scim_admin.specs.declared.jobs.Work.TheVariants.{Audit, Export}

-- the text that a work has still to give, over a store
abbrev pub rest_at : Work → Store → List ℕ
rest_at (Audit job) store = audits.rest_of job store.audit
rest_at (Export job changes) store = exports.rest_of job store.resources

-- an export is one of the store's resources; rows of the audit are those of any store
abbrev pub IsOver : Work → Store → Type 0
IsOver (Audit job) store = ⊤
IsOver (Export job changes) store = exports.Exports store.resources job

-- whether a work is done
abbrev pub is_at_end : Work → Bool
is_at_end (Audit job) = audits.is_done job
is_at_end (Export job changes) = exports.is_done job

-- the new work has less to do
abbrev pub IsShorter : Work → Work → Type 0
IsShorter (Audit old) (Audit new) = audits.IsShorter old new
IsShorter (Export old changes) (Export new still) = exports.IsShorter old new
IsShorter _ _ = ⊥

-- the text that a body has still to send, over a store
abbrev pub rest_of : Job → Store → List ℕ
rest_of job store = rest_at job.work store

-- whether a body is sent to its end
abbrev pub is_done : Job → Bool
is_done job = is_at_end job.work

-- a piece as it is written: in chunks the piece as a chunk, and behind the last one the end of the body
abbrev pub framed : Bool → Bool → List ℕ → List ℕ
framed is_chunked is_last piece =
    if is_chunked then (if is_last then chunk piece ++ last_chunk else chunk piece) else piece

-- One piece of a body, over a store: the text is the piece as it is written, and what was to come is the piece and what
-- is to come now.
pub record SendsPiece (before after : Job) (store : Store) (text : List ℕ) : Type 0 where
  pub piece : List ℕ
  pub next : rest_of before store ≡ piece ++ rest_of after store
  pub is : text ≡ framed before.is_chunked (is_done after) piece

-- A body goes on: it keeps its framing and its store, and has less to send if it wasn't done.
pub record GoesOn (before after : Job) : Type 0 where
  pub framing : after.is_chunked ≡ before.is_chunked
  pub over : (store : Store) → IsOver before.work store → IsOver after.work store
  pub shorter : is_done before ≡ false → IsShorter before.work after.work
