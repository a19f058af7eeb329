-- The text that `export` writes for a store, and the law that `import` reads it back.
use Rattle.std.specs.Prelude.{ℕ, List, [], ◌++◌, codes}
use Rattle.std.specs.List.{join_by}
use Rattle.scim_schema.specs.declared.Kind.TheVariants.{User, Group}
use Rattle.scim_cell.specs.Content.{Content}
use Rattle.scim_cell.specs.Kinds.{of_kind}
use Rattle.scim_json.specs.Stored.{stored_text}
use Rattle.scim_json.specs.Documents.{IsDocumentsText}
use Rattle.scim_shelf.specs.Stores.{Store, IsStore, IsNewStore}

-- the users and then the groups, both in the order in which the list has them
abbrev pub users_and_groups : List Content → List Content
users_and_groups cs = of_kind User cs ++ of_kind Group cs

-- the documents of the resources as a JSON list, with a line feed after each comma and at the end (RFC 8259
-- section 5)
abbrev pub documents_text : List Content → List ℕ
documents_text cs = codes "[" ++ join_by stored_text (codes ",\n") cs ++ codes "]\n"

-- the users file of the resources
abbrev pub export_text : List Content → List ℕ
export_text cs = documents_text (users_and_groups cs)

-- the export of a store whose resources are below a base URL is a users file of these resources, and the new
-- store that `import` creates from this file has the same resources
abbrev pub ExportsAreImported : Type 0
ExportsAreImported =
    (base : List ℕ) (store : Store) → IsStore base store
    → IsDocumentsText base (export_text store.resources) (users_and_groups store.resources)
    × IsNewStore (users_and_groups store.resources) (record { resources = store.resources; audit = [] })
