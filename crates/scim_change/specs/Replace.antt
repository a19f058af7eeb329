-- The resource that results from replacing units by a draft (RFC 7644 section 3.5.1).
use Rattle.std.specs.Prelude.{ℕ, Bool, not, ◌||◌, List, [], ◌∷◌, filter, Option, None, Some, if◌then◌else◌}
use Rattle.std.specs.List.{list_any}
use Rattle.scim_schema.specs.declared.Unit.{Unit as AttributeUnit}
use Rattle.scim_schema.specs.declared.Attribute.TheVariants.{Meta}
use Rattle.scim_schema.specs.declared.SubAttribute.TheVariants.{LastModified}
use Rattle.scim_schema.specs.Mutability.{is_secret}
use Rattle.scim_schema.specs.Units.{leaf_at, unit_of}
use Rattle.scim_cell.specs.declared.atoms.Atom.TheVariants.{Moment}
use Rattle.scim_cell.specs.Content.{Content}
use Rattle.scim_cell.specs.Rows.{Row, rows, content, values, put_values}
use Rattle.scim_change.specs.Agreement.{are_same_values}
use Rattle.scim_body.specs.Drafts.{Draft, gives, lacks_required}
use Rattle.scim_change.specs.Create.{meta_row}

-- the rows with the draft's values of each of these units; a unit without values in the draft is cleared
abbrev pub with_units : Draft → List AttributeUnit → List Row → List Row
with_units d [] rs = rs
with_units d (u ∷ us) rs = with_units d us (put_values u (values u d.rows) rs)

-- whether the draft replaces the values of a unit: a writeOnly unit keeps its values unless the body has a value
-- for it, since a client that can't read them can't give them again
abbrev pub takes : Draft → AttributeUnit → Bool
takes d u = gives d u || not (is_secret d.kind u)

-- those of these units whose values the draft replaces
abbrev pub taken : Draft → List AttributeUnit → List AttributeUnit
taken d us = filter (takes d) us

-- whether the draft changes a unit: the draft and the rows have different values of it, or, if the unit is
-- writeOnly, the body has a value for it
abbrev pub changes_unit : Draft → List Row → AttributeUnit → Bool
changes_unit d rs u = if is_secret d.kind u then gives d u else not (are_same_values (values u rs) (values u d.rows))

-- whether the draft changes one of these units
abbrev pub changes : Draft → List AttributeUnit → List Row → Bool
changes d us rs = list_any (changes_unit d rs) us

-- the rows with `meta.lastModified` set to the moment (RFC 7643 section 3.1)
abbrev pub modified_at : ℕ → List Row → List Row
modified_at moment rs = put_values (unit_of (leaf_at Meta LastModified)) (meta_row LastModified (Moment moment) ∷ []) rs

-- the content with these rows and `meta.lastModified` set to the moment; None if a required attribute is
-- missing
abbrev pub if_complete : ℕ → Content → List Row → Option Content
if_complete moment c rs = if lacks_required c.kind rs then None else Some (content c.kind c.id (modified_at moment rs))

-- the resource with the draft's values of those of these units that the draft replaces, and `meta.lastModified`
-- set to `moment`; the unchanged resource if the draft changes nothing; None if a required attribute would be
-- missing
unfoldable pub replaced : Draft → List AttributeUnit → ℕ → Content → Option Content
replaced d us moment c = if changes d us (rows c) then if_complete moment c (with_units d (taken d us) (rows c)) else Some c
