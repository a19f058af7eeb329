use Rattle.scim_json.specs.DocumentReading.{HasRead, unread}
use Rattle.scim_json.proofs.users_files.read_documents.Given as goal

-- the documents of the resources are read
abbrev pub invariant-items : goal.invariant-items
invariant-items l = HasRead l.base l.text l.resources.items l.documents

abbrev pub decreases-items : goal.decreases-items
decreases-items l = unread l.documents
