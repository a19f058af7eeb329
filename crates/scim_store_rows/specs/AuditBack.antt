-- Audit rows that are read back from the table `audit`.
use Rattle.std.specs.Prelude.{◌≡◌, ◌≢◌, ◌⊎◌, ◌≤◌, ◌<◌, ◌^◌, Option, None, Some, IfSome, IsUtf8, ⊤}
use Rattle.scim_text.specs.Moments.{last_moment}
use Rattle.scim_schema.specs.declared.Kind.TheVariants.{User, Group}
use Rattle.scim_schema.specs.declared.Leaf.{Leaf}
use Rattle.scim_schema.specs.Table.{HasLeaf}
use Rattle.scim_cell.specs.Ids.{IsId}
use Rattle.scim_audit.specs.declared.audit_rows.AuditRow.{AuditRow}

-- The result of reading back `y`: a valid value whose image is `y`, or `None` if there is no such value.
abbrev pub ReadsBack : {X Y : Type 0} → (X → Type 0) → (X → Y) → Y → Option X → Type 0
ReadsBack {X = X} IsOne image y None = (x : X) → IsOne x → image x ≢ y
ReadsBack IsOne image y (Some x) = IsOne x × (image x ≡ y)

-- Every value is valid.
abbrev pub Any : {X : Type 0} → X → Type 0
Any x = ⊤

-- Users or groups have the leaf.
abbrev pub IsAnyLeaf : Leaf → Type 0
IsAnyLeaf leaf = HasLeaf User leaf ⊎ HasLeaf Group leaf

-- A valid audit row: its moment is in range, its client's name is UTF-8, its id is valid, its rule number
-- has 32 bits, and users or groups have its leaf.
pub record IsSound (row : AuditRow) : Type 0 where
  pub moment : row.moment ≤ last_moment
  pub client : IsUtf8 row.client
  pub id : IfSome row.id IsId
  pub rule : IfSome row.rule (λ n. n < 2 ^ 32)
  pub leaf : IfSome row.leaf IsAnyLeaf
