-- The visitor of `export`, which collects the documents of resources.
use Rattle.std.specs.Prelude.{◌≡◌, ◌++◌, codes, string_bytes}
use Rattle.scim_cell.specs.Content.{Content}
use Rattle.scim_json.specs.Stored.{stored_text}
use Rattle.scim_command_database.specs.declared.exporting.Documents.{Documents}

-- the visitor appends the separator and the resource's document; the separator is a comma and a line feed
-- afterwards
pub record Takes (old : Documents) (c : Content) (new : Documents) : Type 0 where
  pub text : string_bytes new.text ≡ string_bytes old.text ++ old.separator.now ++ stored_text c
  pub separator : new.separator.now ≡ codes ",\n"
