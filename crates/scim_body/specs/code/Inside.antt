-- The specified form of a draft.
use Rattle.scim_body.specs.declared.drafts.Draft.TheInside.{Inside as DraftInside}
use Rattle.scim_body.specs.Drafts.{Draft}

-- the specified draft that represents a stored draft
abbrev pub draft_of : DraftInside → Draft
draft_of d = record { kind = d.kind; use_for = d.use_for; given = d.given.items; rows = d.rows.items }
