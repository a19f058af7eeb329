use Rattle.std.proofs.Common.{ℕ, List, []}
use Rattle.scim_cell.specs.Content.{Content}
use Rattle.scim_json.specs.DocumentReading.{HasRead, unread}
use Rattle.scim_store_tables.specs.Lists.{Are, no_rows}
use Rattle.scim_store_tables.proofs.Facts.{HasDone}
use Rattle.scim_store.specs.Importing.{HoldRowsOf}
use Rattle.scim_store.proofs.importing.insert_all.Given as goal

-- the tables hold the rows of the resources that have been read
abbrev pub invariant-documents : goal.invariant-documents
invariant-documents g l = (base users : List ℕ) → HasRead base users [] l.fn.documents → (cs : List Content) × HasRead base users cs l.documents × HasDone g.S.Store l.fn.tx l.tx (λ old new. Are old no_rows → HoldRowsOf base cs new)

abbrev pub decreases-documents : goal.decreases-documents
decreases-documents g l = unread l.documents
