-- What merging resources into a store makes of the store.
use Rattle.std.specs.Prelude.{ℕ, ◌+◌, List, [], ◌∷◌, find, Option, None, Some, if◌then◌else◌}
use Rattle.scim_schema.specs.declared.Op.{Op}
use Rattle.scim_schema.specs.declared.Op.TheVariants.{Create, Modify}
use Rattle.scim_cell.specs.Content.{Content}
use Rattle.scim_value.specs.Equality.{is_same_part}
use Rattle.scim_audit.specs.declared.audit_rows.AuditRow.{AuditRow}
use Rattle.scim_audit.specs.declared.audit_rows.Decided.TheVariants.{Allow}
use Rattle.scim_shelf.specs.declared.changes.Change.TheVariants.{Keep}
use Rattle.scim_shelf.specs.Stores.{Store, is_at, is_taken, is_used, without, after}
use Rattle.scim_shelf_merge.specs.declared.faults.Clash.{Clash}
use Rattle.scim_shelf_merge.specs.declared.faults.Clash.TheVariants.{OtherKind, TakenName}
use Rattle.scim_shelf_merge.specs.declared.outcomes.Outcome.{Outcome}
use Rattle.scim_shelf_merge.specs.declared.outcomes.Outcome.TheVariants.{Created, Replaced, Unchanged, Clashes}
use Rattle.scim_shelf_merge.specs.declared.merging.MergeCount.{MergeCount}

-- ---- one resource

-- the outcome, or the clash if a resource with another id has a unique name of `c` (RFC 7643 section 2.2)
abbrev pub unless_taken : List Content → Content → Outcome → Outcome
unless_taken cs c outcome = if is_taken (without c.id cs) c then Clashes TakenName else outcome

-- what merging makes of `c`, given the stored resource of its kind and id, if there is one
abbrev pub outcome_over : List Content → Content → Option Content → Outcome
outcome_over cs c None = if is_used cs c.id then Clashes OtherKind else unless_taken cs c Created
outcome_over cs c (Some stored) = if is_same_part stored c then Unchanged else unless_taken cs c Replaced

-- what merging makes of `c` beside the stored resources `cs`
abbrev pub outcome : List Content → Content → Outcome
outcome cs c = outcome_over cs c (find (is_at c.kind c.id) cs)

-- the operation of the audit row; None if nothing is changed
abbrev pub op_of : Outcome → Option Op
op_of Created = Some Create
op_of Replaced = Some Modify
op_of _ = None

-- the audit row of a resource that a merge stores at a moment, in the name of a client: allowed, by no rule
abbrev pub merge_row : ℕ → List ℕ → Op → Content → AuditRow
merge_row now client op c = record {
  moment = now;
  client = client;
  op = op;
  kind = c.kind;
  id = Some c.id;
  decided = Allow;
  rule = None;
  leaf = None;
  refusal = None;
}

-- the store after `c` is stored with the audit row of the operation; the same store if there is none
abbrev pub stored_by : ℕ → List ℕ → Content → Option Op → Store → Store
stored_by now client c None store = store
stored_by now client c (Some op) store = after (Keep c) (merge_row now client op c) store

-- the store after `c` is merged with this outcome
abbrev pub merged_one : ℕ → List ℕ → Content → Outcome → Store → Store
merged_one now client c outcome store = stored_by now client c (op_of outcome) store

-- ---- a list of resources

-- no resource is merged yet
abbrev pub none : MergeCount
none = record { created = 0; replaced = 0; unchanged = 0 }

-- the count with one more resource, with this outcome
abbrev pub counted : Outcome → MergeCount → MergeCount
counted Created count = record count { created = count.created + 1 }
counted Replaced count = record count { replaced = count.replaced + 1 }
counted Unchanged count = record count { unchanged = count.unchanged + 1 }
counted (Clashes clash) count = count

-- a merge of a list of resources: it is done, with the store and the count afterwards, or it stopped at the
-- item with this number
pub data Merge : Type 0 where
  done : Store → MergeCount → Merge
  stopped : ℕ → Clash → Merge

-- the merge stopped at this item if it clashes, else what the later items make of it
abbrev pub unless_clash : ℕ → Outcome → Merge → Merge
unless_clash item (Clashes clash) later = stopped item clash
unless_clash item _ later = later

-- the resources merged into the store in order, the first of which has this number
abbrev pub merged : ℕ → List ℕ → ℕ → List Content → Store → MergeCount → Merge
merged now client item [] store count = done store count
merged now client item (c ∷ cs) store count =
    let found = outcome store.resources c in
    unless_clash item found (merged now client (item + 1) cs (merged_one now client c found store) (counted found count))
