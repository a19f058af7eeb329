use Rattle.std.proofs.Common.{take}
use Rattle.scim_store_tables.specs.Lists.{Lists, Are, without}
use Rattle.scim_store_tables.proofs.Facts.{HasDone}
use Rattle.scim_store.specs.Edits.{is_name}
use Rattle.scim_store.proofs.transactions.delete_names.Given as goal

abbrev pub invariant-loop-name : goal.invariant-loop-name
invariant-loop-name g l = HasDone g.S.Store l.fn.tx l.tx (λ old new. (lists : Lists) → Are old lists → Are new (record lists { taken = without (is_name (take l.name-index l.names)) lists.taken }))
