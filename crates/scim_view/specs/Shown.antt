-- The projection of a visible part to what a reply shows (RFC 7643 section 7, RFC 7644 section 3.9).
use Rattle.std.specs.Prelude.{Bool, true, false, not, ◌&&◌}
use Rattle.std.specs.List.{list_any}
use denote.Enum.Bare.{sameb}
use Rattle.scim_schema.specs.declared.Kind.{Kind}
use Rattle.scim_schema.specs.declared.Leaf.{Leaf}
use Rattle.scim_schema.specs.declared.Attribute.{Attribute}
use Rattle.scim_schema.specs.contracts.Attribute.{the_type as the_attribute}
use Rattle.scim_schema.specs.Table.{leaves}
use Rattle.scim_schema.specs.declared.characteristics.Returned.{Returned}
use Rattle.scim_schema.specs.declared.characteristics.Returned.TheVariants as returned
use Rattle.scim_schema.specs.Characteristics.{characteristics_of}
use Rattle.scim_cell.specs.Content.{Content}
use Rattle.scim_cell.specs.Rows.{rows, restricted, content}
use Rattle.scim_view.specs.declared.projection.Wanted.{Wanted}
use Rattle.scim_view.specs.declared.projection.Wanted.TheVariants as wanted
use Rattle.scim_view.specs.Names.{includes}

-- whether a leaf with `returned` "default" is shown: always with `Default`, if the leaf is named
-- with `Only`, and if the leaf isn't named with `Without`
abbrev pub shows_default : Wanted → Leaf → Bool
shows_default wanted.Default l = true
shows_default (wanted.Only names) l = includes names l
shows_default (wanted.Without names) l = not (includes names l)

-- whether a leaf with `returned` "request" is shown: only with `Only`, if the leaf is named
abbrev pub shows_requested : Wanted → Leaf → Bool
shows_requested wanted.Default l = false
shows_requested (wanted.Only names) l = includes names l
shows_requested (wanted.Without names) l = false

-- whether a leaf with this `returned` characteristic is shown (RFC 7643 section 7)
abbrev pub shows_returned : Wanted → Returned → Leaf → Bool
shows_returned w returned.Always l = true
shows_returned w returned.Never l = false
shows_returned w returned.Default l = shows_default w l
shows_returned w returned.Request l = shows_requested w l

-- whether a leaf of a kind is shown to a client that wants these attributes
abbrev pub shows : Wanted → Kind → Leaf → Bool
shows w kind l = shows_returned w (characteristics_of kind l).returned l

-- whether some leaf of the attribute is shown, in resources of a kind
abbrev pub shows_attribute : Wanted → Kind → Attribute → Bool
shows_attribute w kind a = list_any (λ l. sameb the_attribute l.attribute a && shows w kind l) (leaves kind)

-- the content with only the cells that are shown; the positions of later values move down
unfoldable pub shown : Wanted → Content → Content
shown w v = content v.kind v.id (restricted (λ r l. shows w v.kind l) (rows v))
