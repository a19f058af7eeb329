-- The part that the private fields of a `Part` represent.
use Rattle.scim_value.specs.declared.parts.Part.TheInside.{Inside as PartInside}
use Rattle.scim_cell.specs.Content.{Content}
use Rattle.scim_cell.specs.Rows.{content, AreSound}

-- the part that contracts see for the private fields of a `Part`
abbrev pub content_of : PartInside → Content
content_of p = content p.kind p.id p.rows.items

-- the rows in the private fields of a `Part` are valid
abbrev pub IsSoundPart : PartInside → Type 0
IsSoundPart p = AreSound p.kind p.rows.items
