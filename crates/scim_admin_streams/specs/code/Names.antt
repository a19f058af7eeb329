-- The visitor of an export, which collects the kinds and ids of resources.
use Rattle.std.specs.Prelude.{◌≡◌, ◌++◌, ◌∷◌, []}
use Rattle.scim_cell.specs.Content.{Content}
use Rattle.scim_admin_streams.specs.declared.export_jobs.Names.{Names}

-- the visitor appends the kind and the id of the resource
abbrev pub TakesName : Names → Content → Names → Type 0
TakesName old c new = new.names.items ≡ old.names.items ++ record { kind = c.kind; id = c.id } ∷ []
