use Rattle.std.proofs.Common.{◌≡◌, ◌≤◌, ◌-◌, ◌++◌, string_bytes}
use Rattle.scim_shelf_cache.specs.Caches.{HasKeyed}
use Rattle.scim_shelf.specs.Stores.{Store}
use Rattle.scim_command_database.specs.Exports.{users_and_groups}
use Rattle.scim_admin_streams.specs.ExportJobs.{Exports, text_after}
use Rattle.scim_admin_streams.specs.Shelves.{KeepsShelf}
use Rattle.scim_admin_streams.proofs.export_jobs.ExportJob.add_documents.Given as goal

-- the text so far, and that after the documents so far, are the whole text
abbrev pub invariant-loop-self : goal.invariant-loop-self
invariant-loop-self g l = record {
  keeps : KeepsShelf g.S.Shelf.stands g.S.Shelf.is_honest g.S.Shelf.has_round l.fn.shelf l.shelf;
  written : (store : Store) → HasKeyed g.S.Shelf.stands l.fn.shelf store → g.S.Shelf.is_honest l.shelf → Exports store.resources l.fn.self
      → string_bytes l.fn.text ++ text_after l.fn.self.at (users_and_groups store.resources) ≡ string_bytes l.text ++ text_after l.self.at (users_and_groups store.resources);
  names : l.self.names ≡ l.fn.self.names;
  ending : l.self.is_done ≡ l.fn.self.is_done;
  above : l.fn.self.at ≤ l.self.at;
  same : l.self.at ≡ l.fn.self.at → string_bytes l.text ≡ string_bytes l.fn.text;
}

-- the resources of this part that aren't written
abbrev pub decreases-loop-self : goal.decreases-loop-self
decreases-loop-self g l = l.end - l.self.at
