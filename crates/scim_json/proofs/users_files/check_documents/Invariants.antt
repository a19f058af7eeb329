use Rattle.std.proofs.Common.{List}
use Rattle.scim_cell.specs.Content.{Content}
use Rattle.scim_json.specs.DocumentReading.{HasRead, unread}
use Rattle.scim_json.proofs.users_files.check_documents.Given as goal

-- the documents of some resources are read
abbrev pub invariant-items : goal.invariant-items
invariant-items l = (cs : List Content) × HasRead l.base l.text cs l.documents

abbrev pub decreases-items : goal.decreases-items
decreases-items l = unread l.documents
