-- What a connection of the administrator has still to write, and what it needs next.
use Rattle.std.specs.Prelude.{◌≡◌, ◌≢◌, ℕ, Bool, true, false, List, [], drop, Option, None, Some, string_bytes, if◌then◌else◌}
use Rattle.scim_shelf_cache.specs.Caches.{HasKeyed}
use Rattle.scim_shelf.specs.Stores.{Store}
use Rattle.scim_admin.specs.declared.connections.AdminConnection.{AdminConnection}
use Rattle.scim_admin.specs.declared.connections.Need.{Need}
use Rattle.scim_admin.specs.declared.connections.Need.TheVariants.{Nothing, Offer, Close, Piece, Answer}
use Rattle.scim_admin.specs.declared.jobs.Job.{Job}
use Rattle.scim_admin.specs.Jobs.{GoesOn, IsOver, SendsPiece, is_done}

-- the bytes of the reply that are pending: those that the connection hasn't taken
abbrev pub pending_of : AdminConnection → List ℕ
pending_of c = drop c.taken (string_bytes c.pending)

-- what sends the rest of the reply, if anything does
abbrev pub job_of : AdminConnection → Option Job
job_of c = c.job

-- whether the connection is to be closed after the reply
abbrev pub closes_after : AdminConnection → Bool
closes_after c = c.is_closing

-- The connection writes this text, and then what the job sends.
pub record Writes (text : List ℕ) (job : Option Job) (closes : Bool) (c : AdminConnection) : Type 0 where
  pub pending : pending_of c ≡ text
  pub rest : job_of c ≡ job
  pub closing : closes_after c ≡ closes

-- the whole reply is written
abbrev pub IsWritten : AdminConnection → Type 0
IsWritten c = (pending_of c ≡ []) × (job_of c ≡ None)

-- What the connection needs next: first that all pending bytes are taken, then each piece of the body; only then that it
-- is closed, or the answer to what comes next.
abbrev pub IsNext : AdminConnection → Need → Type 0
IsNext c Offer = pending_of c ≢ []
IsNext c (Piece job) = (pending_of c ≡ []) × (job_of c ≡ Some job)
IsNext c Close = IsWritten c × (closes_after c ≡ true)
IsNext c (Answer item) = IsWritten c × (closes_after c ≡ false)
IsNext c Nothing = IsWritten c × (closes_after c ≡ false)

-- The connection goes on with the body of a job. Over each store that the shelf represents, it writes the next piece, and
-- then what is still to come.
pub record Continues {H : Type 0} (Stands : H → Store → Type 0) (IsHonest : H → Type 0) (old new : H) (job : Job) (c : AdminConnection) : Type 0 where
  pub after : Job
  pub goes_on : GoesOn job after
  pub rest : job_of c ≡ (if is_done after then None else Some after)
  pub piece : (store : Store) → HasKeyed Stands old store → IsHonest new → IsOver job.work store → SendsPiece job after store (pending_of c)
