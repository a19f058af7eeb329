-- The parts of one kind.
use Rattle.std.specs.Prelude.{Bool, List, filter}
use denote.Enum.Bare.{sameb}
use Rattle.scim_schema.specs.declared.Kind.{Kind}
use Rattle.scim_schema.specs.contracts.Kind.{the_type as the_kind}
use Rattle.scim_cell.specs.Content.{Content}

-- whether a part is of the kind
abbrev pub is_of : Kind → Content → Bool
is_of kind c = sameb the_kind c.kind kind

-- the parts in the list that are of the kind, in order
abbrev pub of_kind : Kind → List Content → List Content
of_kind kind cs = filter (is_of kind) cs
