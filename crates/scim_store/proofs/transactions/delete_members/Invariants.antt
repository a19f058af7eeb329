use Rattle.std.proofs.Common.{take}
use Rattle.scim_store_tables.specs.Lists.{Lists, Are, without}
use Rattle.scim_store_tables.proofs.Facts.{HasDone}
use Rattle.scim_store.specs.Edits.{is_member}
use Rattle.scim_store.proofs.transactions.delete_members.Given as goal

abbrev pub invariant-loop-value : goal.invariant-loop-value
invariant-loop-value g l = HasDone g.S.Store l.fn.tx l.tx (λ old new. (lists : Lists) → Are old lists → Are new (record lists { member = without (is_member l.group_id (take l.value-index l.values)) lists.member }))
