use Rattle.std.proofs.Common.{◌++◌}
use Rattle.sqlite.specs.Effect.{Database}
use Rattle.scim_store_tables.specs.Lists.{Lists, Are, without, has_text}
use Rattle.scim_store_tables.proofs.Facts.{does_then, fails_then}
use Rattle.scim_store.specs.declared.edits.Edits.{Edits}
use Rattle.scim_store.specs.Edits.{is_name, is_member, is_secret, rows_of_secret, rows_of_document}
use Rattle.scim_store.proofs.transactions.edit_rows.Goals as goal

pub returns-in_err-edit_resource : goal.returns-in_err-edit_resource
returns-in_err-edit_resource g c = record {
  does = fails_then g.S.Store c.args.tx.now c.take_names_and_members.new.tx c.edit_resource.new.tx _ _ c.from_residual-in_err-edit_resource.result _ _ _ c.in_ok-take_names_and_members.ensures.does c.in_err-edit_resource.ensures.does c.from_residual-in_err-edit_resource.ensures.0;
}

-- the first three steps
abbrev Before : Edits → Database → Database → Type 0
Before e old new = (lists : Lists) → Are old lists → Are new (record lists {
  resources = rows_of_document e ++ without (has_text 0 e.id) lists.resources;
  taken = without (is_name e.names_gone.items) lists.taken;
  member = without (is_member e.id e.members_gone.items) lists.member;
  secret = rows_of_secret e.id e.secret ++ without (is_secret e.id e.secret) lists.secret;
})

-- the first two steps
abbrev First : Edits → Database → Database → Type 0
First e old new = (lists : Lists) → Are old lists → Are new (record lists {
  resources = rows_of_document e ++ without (has_text 0 e.id) lists.resources;
  taken = without (is_name e.names_gone.items) lists.taken;
  member = without (is_member e.id e.members_gone.items) lists.member;
})

pub returns-in_err-write_secret : goal.returns-in_err-write_secret
returns-in_err-write_secret g c =
    let e = c.args.edits.now in
    record {
      does = fails_then g.S.Store c.args.tx.now c.edit_resource.new.tx c.write_secret.new.tx _ _ c.from_residual-in_err-write_secret.result (First e) _ _
          (does_then g.S.Store c.args.tx.now c.take_names_and_members.new.tx c.edit_resource.new.tx _ _ _ _ (First e) c.in_ok-take_names_and_members.ensures.does c.in_ok-edit_resource.ensures.does (λ _ _ _ one two lists are. two _ (one lists are)))
          c.in_err-write_secret.ensures.does c.from_residual-in_err-write_secret.ensures.0;
    }

pub returns : goal.returns
returns g c =
    let e = c.args.edits.now in
    let a = c.take_names_and_members.new.tx in
    let b = c.edit_resource.new.tx in
    let d = c.write_secret.new.tx in
    record {
      does = does_then g.S.Store c.args.tx.now d c.put_names_and_members.new.tx _ c.put_names_and_members.result (Before e) _ _
          (does_then g.S.Store c.args.tx.now b d _ _ (First e) _ (Before e)
          (does_then g.S.Store c.args.tx.now a b _ _ _ _ (First e) c.in_ok-take_names_and_members.ensures.does c.in_ok-edit_resource.ensures.does (λ _ _ _ one two lists are. two _ (one lists are)))
          c.in_ok-write_secret.ensures.does (λ _ _ _ one two lists are. rw c.as_str.ensures at (two _ (one lists are))))
          c.put_names_and_members.ensures.does (λ _ _ _ one two lists are. two _ (one lists are));
    }
