use Rattle.std.proofs.Common.{◌++◌}
use Rattle.sqlite.specs.Effect.{Database}
use Rattle.scim_store_tables.specs.Lists.{Lists, Are}
use Rattle.scim_store_tables.proofs.Facts.{does_then}
use Rattle.scim_store.specs.declared.edits.Edits.{Edits}
use Rattle.scim_store.specs.Edits.{rows_of_secret, rows_of_document}
use Rattle.scim_store.proofs.transactions.put_rows.Goals as goal

-- the first two steps
abbrev Before : Edits → Database → Database → Type 0
Before e old new = (lists : Lists) → Are old lists → Are new (record lists { resources = rows_of_document e ++ lists.resources; secret = rows_of_secret e.id e.secret ++ lists.secret })

pub returns : goal.returns
returns g c =
    let e = c.args.edits.now in
    record {
      does = does_then g.S.Store c.args.tx.now c.put_secret.new.tx c.put_names_and_members.new.tx _ c.put_names_and_members.result (Before e) _ _
          (does_then g.S.Store c.args.tx.now c.put_resource.new.tx c.put_secret.new.tx _ _ _ _ (Before e) c.in_ok-put_resource.ensures.does c.in_ok-put_secret.ensures.does (λ _ _ _ one two lists are. rw c.as_str.ensures at (two _ (one lists are))))
          c.put_names_and_members.ensures.does (λ _ _ _ one two lists are. two _ (one lists are));
    }
