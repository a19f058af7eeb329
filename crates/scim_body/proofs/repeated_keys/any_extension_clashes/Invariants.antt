use Rattle.std.proofs.Common.{◌≡◌, drop}
use Rattle.std.specs.List.{list_any}
use Rattle.scim_body.specs.View.{members_view}
use Rattle.scim_body.specs.BodyNames.{extension_clashes}
use Rattle.scim_body.proofs.repeated_keys.any_extension_clashes.Given as goal

-- those that are left decide
abbrev pub invariant-loop-schema : goal.invariant-loop-schema
invariant-loop-schema l =
    list_any (extension_clashes l.kind (members_view l.members)) (drop l.schema-index l.schemas)
    ≡ list_any (extension_clashes l.kind (members_view l.members)) l.schemas
