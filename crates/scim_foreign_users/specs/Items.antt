-- What an item of an export says of itself.
use Rattle.std.specs.Prelude.{◌≡◌, ℕ, ℤ, pos, negsuc, nat_le, Bool, List, Option, None, Some, MatchOption, ◌⊎◌, option_and_then, unwrap_or, codes, if◌then◌else◌}
use Rattle.std.specs.List.{list_any}
use Rattle.serde_json.specs.Data.{Data, Items, Members}
use Rattle.serde_json.specs.Find.{as_array, as_object, as_str}
use Rattle.scim_text.specs.declared.moment_readings.Reading.{Reading}
use Rattle.scim_text.specs.Moments.{last_moment}
use Rattle.scim_text.specs.MomentIn as text
use Rattle.scim_text.specs.Names.{is_same_name}
use Rattle.scim_schema.specs.declared.Kind.{Kind}
use Rattle.scim_schema.specs.declared.Kind.TheVariants.{User, Group}
use Rattle.scim_schema.specs.Lookup.{kind_named}
use Rattle.scim_schema.specs.Schemas.{urn, core_schema}
use Rattle.scim_cell.specs.Ids.{IsIdText, id_text}
use Rattle.scim_body.specs.BodyNames.{value_named, items_list, is_there_and}

-- the text under a name, a key in any case (RFC 7643 section 2.1); None if there is no text
abbrev pub text_named : List ℕ → Members → Option (List ℕ)
text_named name ms = option_and_then as_str (value_named name ms)

-- the text of a sub-attribute of `meta`; None if there is none
abbrev pub meta_text : List ℕ → Members → Option (List ℕ)
meta_text name ms = option_and_then (text_named name) (option_and_then as_object (value_named (codes "meta") ms))

-- whether a value is the URN, in any case
abbrev pub is_urn : List ℕ → Data → Bool
is_urn name d = is_there_and (is_same_name name) (as_str d)

-- whether one of the values is the URN
abbrev pub has_urn : List ℕ → Items → Bool
has_urn name ds = list_any (is_urn name) (items_list ds)

-- whether `schemas` lists the core schema of the kind (RFC 7643 section 3)
abbrev pub has_schema : Kind → Members → Bool
has_schema kind ms = is_there_and (has_urn (urn (core_schema kind))) (option_and_then as_array (value_named (codes "schemas") ms))

-- the kind whose core schema `schemas` lists; None if it lists neither
abbrev pub kind_of_schemas : Members → Option Kind
kind_of_schemas ms = if has_schema Group ms then Some Group else (if has_schema User ms then Some User else None)

-- the kind, or the one that `schemas` names if there is none
abbrev pub or_by_schemas : Members → Option Kind → Option Kind
or_by_schemas ms None = kind_of_schemas ms
or_by_schemas ms (Some kind) = Some kind

-- the kind of an item: the one that `meta.resourceType` names, or else the one that `schemas` names; None if
-- there is none
abbrev pub kind_of : Members → Option Kind
kind_of ms = or_by_schemas ms (option_and_then kind_named (meta_text (codes "resourceType") ms))

-- the id of a resource of an item that has this text as `id`, or none: the text, if it has the form of an id, or
-- the fresh id
abbrev pub TakesId : Option (List ℕ) → List ℕ → List ℕ → Type 0
TakesId own fresh id = MatchOption own (id ≡ fresh) (λ text. (text ≡ id_text id) ⊎ ((¬ IsIdText text) × (id ≡ fresh)))

-- the moment this many seconds after 1970-01-01T00:00:00Z; None if it is before that, or after the year 9999
abbrev pub moment_at : ℤ → Option ℕ
moment_at (pos n) = if nat_le n last_moment then Some n else None
moment_at (negsuc n) = None

-- the moment that a text denotes, in whole seconds; None if it denotes none from 1970 on
abbrev pub moment_in : List ℕ → Option ℕ
moment_in t = option_and_then (λ (r : Reading). moment_at r.second) (text.moment_in t)

-- the moment of a sub-attribute of `meta`, or this one if there is none
abbrev pub moment_named : List ℕ → ℕ → Members → ℕ
moment_named name now ms = unwrap_or (option_and_then moment_in (meta_text name ms)) now
