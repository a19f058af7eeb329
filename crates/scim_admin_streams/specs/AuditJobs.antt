-- The text that a listing of the audit in pieces has still to write.
use Rattle.std.specs.Prelude.{◌≡◌, ◌<◌, ◌≤◌, ℕ, ◌+◌, ◌-◌, ◌==◌, ◌||◌, nat_le, Bool, false, List, ◌++◌, length, take, option_map, Result, IfOk, OnOk, OnErr, String, string_bytes}
use Rattle.std.specs.Borrow.{Bor}
use Rattle.std.specs.declared.alloc.Global.{Global}
use Rattle.scim_text.specs.declared.memory.Failed.{Failed}
use Rattle.scim_audit.specs.declared.audit_rows.AuditRow.{AuditRow}
use Rattle.scim_audit_listing.specs.declared.filters.AuditFilter.{AuditFilter}
use Rattle.scim_audit_listing.specs.declared.listings.Listing.{Listing}
use Rattle.scim_audit_listing.specs.Listings.{Numbered, fitting, lines, take_last}
use Rattle.scim_shelf.specs.declared.faults.ShelfFault.{ShelfFault}
use Rattle.scim_shelf.specs.Stores.{Store}
use Rattle.scim_shelf.specs.Shelves.{Answers, Round}
use Rattle.scim_admin_text.specs.declared.audit_queries.AuditQuery.{AuditQuery}
use Rattle.scim_admin_streams.specs.Shelves.{KeepsShelf}
use Rattle.scim_admin_streams.specs.declared.audit_jobs.AuditJob.{AuditJob}
use Rattle.scim_admin_streams.specs.declared.audit_jobs.Phase.{Phase}
use Rattle.scim_admin_streams.specs.declared.audit_jobs.Phase.TheVariants.{Search, List as ListRows}

-- a reference to a text; where it points says nothing
abbrev pub reference_to : List ℕ → Bor (List ℕ)
reference_to text = record { ref_ptr = (0, 0); now = text }

-- the conditions of a query
abbrev pub filter_of : AuditQuery → AuditFilter
filter_of q = record { client = option_map reference_to q.client; since = q.since; refusal = q.refusal }

-- the listing that a query asks for
abbrev pub listing_of : AuditQuery → Listing
listing_of q = record { from = q.from; filter = filter_of q; portion = q.portion; format = q.format }

-- of the rows of an audit with numbers above `before` and up to `end`, those that fit
abbrev pub between : AuditFilter → ℕ → ℕ → List AuditRow → List Numbered
between which before end audit = fitting which (before + 1) (take end audit)

-- the rows that a job has still to list: the first ones from its place on; or, while it looks for the first of the
-- last rows, the last ones before its place and all from there on
abbrev pub rows_left : AuditFilter → Phase → ℕ → ℕ → ℕ → List AuditRow → List Numbered
rows_left which (ListRows most) skipped at count audit = take most (between which at count audit)
rows_left which (Search wanted) skipped at count audit =
    take_last wanted (between which skipped at audit) ++ between which at count audit

-- the text that a job has still to write, over an audit
abbrev pub rest_of : AuditJob → List AuditRow → List ℕ
rest_of job audit =
    lines job.query.format (rows_left (filter_of job.query) job.phase job.skipped job.at job.count audit)

-- the audit has all rows that the job may list
abbrev pub HasRows : List AuditRow → AuditJob → Type 0
HasRows audit job = job.count ≤ length audit

-- whether a phase is over at this place, of so many rows
abbrev pub is_over : Phase → ℕ → ℕ → Bool
is_over (ListRows most) at count = most == 0 || nat_le count at
is_over (Search wanted) at count = false

-- whether a job has listed all its rows
abbrev pub is_done : AuditJob → Bool
is_done job = is_over job.phase job.at job.count

-- how many rows a job has still to look at, at most, and one more before it lists rows
abbrev pub looks_left : Phase → ℕ → ℕ → ℕ → ℕ
looks_left (ListRows most) skipped at count = count - at
looks_left (Search wanted) skipped at count = at - skipped + count + 1

-- the new job has less to do
abbrev pub IsShorter : AuditJob → AuditJob → Type 0
IsShorter old new =
    looks_left new.phase new.skipped new.at new.count < looks_left old.phase old.skipped old.at old.count

-- each audit with the rows of the old job has those of the new one
abbrev pub KeepsRows : AuditJob → AuditJob → Type 0
KeepsRows old new = (audit : List AuditRow) → HasRows audit old → HasRows audit new

-- One part of a listing: for each store that the shelf represents, the text that was to come is the piece that is
-- returned, and then the text that is to come now. A job that wasn't done has less to do now. After an error the job is
-- as it was.
pub record GoesOn {H : Type 0} (Stands : H → Store → Type 0) (IsHonest : H → Type 0) (HasRound : H → Round → Type 0) (old new : H)
    (before after : AuditJob) (result : Result (String Global) (Failed ShelfFault)) : Type 0 where
  pub shelf : KeepsShelf Stands IsHonest HasRound old new
  pub piece : IfOk result (Answers Stands IsHonest old new (λ store text. rest_of before store.audit ≡ string_bytes text ++ rest_of after store.audit))
  pub shorter : OnOk result (is_done before ≡ false → IsShorter before after)
  pub rows : KeepsRows before after
  pub failed : OnErr result (after ≡ before)

-- rows that are added to the audit after a job began change nothing of its text
abbrev pub LaterRowsChangeNothing : AuditJob → Type 0
LaterRowsChangeNothing job =
    (audit more : List AuditRow) → HasRows audit job → rest_of job (audit ++ more) ≡ rest_of job audit
