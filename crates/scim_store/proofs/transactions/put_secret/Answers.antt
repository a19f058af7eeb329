use Rattle.std.proofs.Common.{◌≡◌, ap, Some, inl, inr, string_bytes}
use Rattle.scim_store_tables.proofs.Facts.{does_less}
use Rattle.scim_store.specs.Edits.{new_code}
use Rattle.scim_store.proofs.transactions.put_secret.Goals as goal

pub returns-in_ok-insert_secret-in-Comes : goal.returns-in_ok-insert_secret-in-Comes
returns-in_ok-insert_secret-in-Comes g c =
    let comes : new_code c.args.edit.now ≡ Some (string_bytes c.in-Comes.code) = elim c.in-Comes.is [
      | inl e ↦ ap new_code e
      | inr e ↦ ap new_code e
    ] in
    record {
      does = does_less g.S.Store c.args.tx.now c.insert_secret.new.tx _ tt _ _ c.in_ok-insert_secret-in-Comes.ensures.does (λ _ _ did lists are. rw comes (rw c.as_str.ensures.value at (did lists are)));
    }
