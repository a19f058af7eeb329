use Rattle.std.proofs.Common.{◌≡◌, Bool, ◌++◌, drop, string_bytes}
use Rattle.serde_json.specs.Data.{array, no_items}
use Rattle.serde_json.specs.Written.{compact_text, items_text, comma_if}
use Rattle.scim_json.specs.Documents.{documents_and}
use Rattle.scim_foreign_users.proofs.users_files.list_text.Given as goal

-- the text so far, and the documents that are left, are the whole text
abbrev pub invariant-loop-resource : goal.invariant-loop-resource
invariant-loop-resource l =
    (later : Bool) × (l.separator ≡ comma_if later)
    × (string_bytes l.text ++ items_text later (documents_and (drop l.resource-index l.resources) no_items) ≡ compact_text (array (documents_and l.resources no_items)))
