-- The steps of an operation with a path (RFC 7644 section 3.5.2).
use Rattle.std.specs.Prelude.{ℕ, Bool, true, false, List, [], ◌∷◌, map, Option, None, Some, option_map, Ok, Err, if◌then◌else◌}
use Rattle.std.specs.List.{flat_map}
use Rattle.serde_json.specs.Data.{Data, Members}
use Rattle.serde_json.specs.Find.{as_object}
use Rattle.scim_schema.specs.declared.Kind.{Kind}
use Rattle.scim_schema.specs.declared.Attribute.{Attribute}
use Rattle.scim_schema.specs.declared.SubAttribute.{SubAttribute}
use Rattle.scim_schema.specs.declared.SubAttribute.TheVariants as sub_attribute
use Rattle.scim_schema.specs.declared.Unit.{Unit as AttributeUnit}
use Rattle.scim_schema.specs.declared.schema_urns.Schema.{Schema}
use Rattle.scim_schema.specs.declared.json_keys.JsonShape.{JsonShape}
use Rattle.scim_schema.specs.declared.json_keys.JsonShape.TheVariants.{Simple, Complex, MultiValued}
use Rattle.scim_schema.specs.Characteristics.{is_multi_valued}
use Rattle.scim_schema.specs.JsonKeys.{shape_of}
use Rattle.scim_schema.specs.Lookup.{attribute_named_in}
use Rattle.scim_schema.specs.Mutability.{is_read_only, is_fixed}
use Rattle.scim_schema.specs.Table.{attributes}
use Rattle.scim_schema.specs.Units.{simple, leaf_at, whole, unit_of, units_of}
use Rattle.scim_schema.specs.Schemas.{schema_of, is_same_schema}
use Rattle.scim_cell.specs.declared.atoms.Atom.{Atom}
use Rattle.scim_cell.specs.declared.atoms.Atom.TheVariants.{Text}
use Rattle.scim_cell.specs.declared.rows.Field.{Field}
use Rattle.scim_cell.specs.Rows.{Row, atom_in}
use Rattle.scim_filter_grammar.specs.Tree.{Tree}
use Rattle.scim_body.specs.BodyNames.{value_clashes, values_clash}
use Rattle.scim_body.specs.BodyValues.{present, field_with, fields_of, listed_values}
use Rattle.scim_body.specs.Bodies.{Given, field_given, shaped_given}
use Rattle.scim_path.specs.Paths.{PathTarget, OfExtension, OfAttribute, OfSubAttribute, OfValues}
use Rattle.scim_patch_steps.specs.Changes.{StepChange, Keep, KeepMatches, KeepSubAttribute, Append, Replace as ReplaceAll, Clear, RemoveListed, AddToMatches, ReplaceMatches, RemoveMatches, AddAtMatches, SetAtMatches, ClearAtMatches, SetEverywhere, ClearEverywhere}
use Rattle.scim_patch_steps.specs.Patch.{Step, Of}
use Rattle.scim_patch_message.specs.declared.operations.Operation.{Operation}
use Rattle.scim_patch_message.specs.declared.operations.Operation.TheVariants.{Add, Replace, Remove}
use Rattle.scim_patch_message.specs.declared.faults.PatchFault.TheVariants.{Value}
use Rattle.scim_patch_message.specs.Readings.{Read, joined, each_member, value_read}

-- Throughout this file a value is None if it is missing, null or `[]` (RFC 7643 section 2.5).
-- A replace without a value is a remove. An add without a value changes nothing: if the target is one unit,
-- the add has a step that leaves the unit unchanged; if the target is a single-valued complex attribute or an
-- extension, the add has no steps.

-- the list of one step
abbrev pub one : AttributeUnit → StepChange → List Step
one u change = Of u change ∷ []

-- ---- a whole attribute

-- the steps that leave an attribute of this shape unchanged: one step for its unit, or none if the shape is
-- complex
abbrev pub kept_steps : Attribute → JsonShape → List Step
kept_steps a Simple = one (whole a) Keep
kept_steps a Complex = []
kept_steps a MultiValued = one (whole a) Keep

-- the steps that clear a unit; none if the unit is readOnly
abbrev pub unit_cleared : Kind → AttributeUnit → Read
unit_cleared kind u = if is_fixed kind u then Ok [] else Ok (one u Clear)

-- the steps that clear the unit of a sub-attribute; none if the unit is readOnly
abbrev pub sub_attribute_cleared_at : Kind → Attribute → SubAttribute → Read
sub_attribute_cleared_at kind a b = unit_cleared kind (unit_of (leaf_at a b))

-- the steps that clear each unit of an attribute that isn't readOnly, in the order of the schema
abbrev pub cleared : Kind → Attribute → Read
cleared kind a = joined (map (unit_cleared kind) (units_of a))

-- the steps of an operation without a value whose target is an attribute
abbrev pub emptied : Kind → Operation → Attribute → Read
emptied kind Add a = Ok (kept_steps a (shape_of a))
emptied kind Replace a = cleared kind a
emptied kind Remove a = cleared kind a

-- the step that sets a unit to the values given for it
abbrev pub set_to : Given → Step
set_to g = Of g.unit (ReplaceAll g.values)

-- the steps that set the units of an attribute to a value; None if the value is wrong
abbrev pub set_units : Kind → Attribute → Data → Option (List Step)
set_units kind a d = option_map (map set_to) (shaped_given kind a (shape_of a) d)

-- the text of an atom, as a list of at most one text; empty if the atom is None or isn't a text
abbrev pub text_in : Option Atom → List (List ℕ)
text_in (Some (Text t)) = t ∷ []
text_in _ = []

-- the text of the sub-attribute `value` of a value, as a list of at most one text
abbrev pub value_text : Attribute → Row → List (List ℕ)
value_text a r = text_in (atom_in (leaf_at a sub_attribute.Value) r.fields)

-- the change that an operation with these values makes to a multi-valued attribute: an add appends the
-- values, a replace sets them, and a remove removes the values that have the same `value`
abbrev pub listed_change : Operation → Attribute → List Row → StepChange
listed_change Remove a vs = RemoveListed (flat_map (value_text a) vs)
listed_change Add a vs = Append vs
listed_change Replace a vs = ReplaceAll vs

-- the steps read from a value of the attribute; the error `Syntax` if two keys of the value name one
-- sub-attribute, or else the error `Value` if there are no steps because the value is wrong
abbrev pub value_read_of : Attribute → Data → Option (List Step) → Read
value_read_of a d steps = value_read (values_clash a d) steps

-- the step of an operation with a value whose target is a multi-valued attribute; None if the value is wrong
abbrev pub listed_steps : Kind → Operation → Attribute → Data → Option (List Step)
listed_steps kind op a d = option_map (λ vs. one (whole a) (listed_change op a vs)) (listed_values kind a d)

-- the steps of an operation with a value whose target is a single-valued attribute; a remove ignores the
-- value
abbrev pub single_steps : Kind → Operation → Attribute → Data → Read
single_steps kind Remove a d = cleared kind a
single_steps kind Add a d = value_read_of a d (set_units kind a d)
single_steps kind Replace a d = value_read_of a d (set_units kind a d)

-- the steps of an operation with a value whose target is an attribute
abbrev pub given_steps : Kind → Operation → Attribute → Data → Read
given_steps kind op a d = if is_multi_valued a then value_read_of a d (listed_steps kind op a d) else single_steps kind op a d

-- the steps of an operation whose target is an attribute that isn't readOnly
abbrev pub writable_steps : Kind → Operation → Attribute → Option Data → Read
writable_steps kind op a None = emptied kind op a
writable_steps kind op a (Some d) = given_steps kind op a d

-- the steps of an operation whose target is an attribute; the value for a readOnly attribute isn't read, and
-- the step, if there is one, is refused when the patch is applied
unfoldable pub attribute_steps : Kind → Operation → Attribute → Option Data → Read
attribute_steps kind op a v = if is_read_only kind (simple a) then Ok (kept_steps a (shape_of a)) else writable_steps kind op a v

-- ---- a sub-attribute, of one value or of each

-- the change that leaves a sub-attribute unchanged
abbrev pub sub_attribute_kept : Attribute → SubAttribute → StepChange
sub_attribute_kept a b = if is_multi_valued a then KeepSubAttribute b else Keep

-- the change that removes a sub-attribute; if the attribute is multi-valued, from each of its values
abbrev pub sub_attribute_cleared : Attribute → SubAttribute → StepChange
sub_attribute_cleared a b = if is_multi_valued a then ClearEverywhere b else Clear

-- the step that sets a sub-attribute; if the attribute is multi-valued, in each of its values
abbrev pub sub_attribute_set : Attribute → Field → Step
sub_attribute_set a f = if is_multi_valued a then Of (whole a) (SetEverywhere f) else set_to (field_given f)

-- the change that an operation without a value makes to a sub-attribute
abbrev pub sub_attribute_emptied : Operation → Attribute → SubAttribute → StepChange
sub_attribute_emptied Add a b = sub_attribute_kept a b
sub_attribute_emptied Replace a b = sub_attribute_cleared a b
sub_attribute_emptied Remove a b = sub_attribute_cleared a b

-- the steps of an operation with a value whose target is a sub-attribute
abbrev pub sub_attribute_given : Kind → Operation → Attribute → SubAttribute → Data → Read
sub_attribute_given kind Remove a b d = Ok (one (unit_of (leaf_at a b)) (sub_attribute_cleared a b))
sub_attribute_given kind Add a b d = value_read false (option_map (map (sub_attribute_set a)) (field_with kind a b d))
sub_attribute_given kind Replace a b d = value_read false (option_map (map (sub_attribute_set a)) (field_with kind a b d))

-- the steps of an operation whose target is a sub-attribute that isn't readOnly
abbrev pub writable_sub_attribute_steps : Kind → Operation → Attribute → SubAttribute → Option Data → Read
writable_sub_attribute_steps kind op a b None = Ok (one (unit_of (leaf_at a b)) (sub_attribute_emptied op a b))
writable_sub_attribute_steps kind op a b (Some d) = sub_attribute_given kind op a b d

-- the steps of an operation whose target is a sub-attribute
unfoldable pub sub_attribute_steps : Kind → Operation → Attribute → SubAttribute → Option Data → Read
sub_attribute_steps kind op a b v =
    if is_read_only kind (leaf_at a b) then Ok (one (unit_of (leaf_at a b)) (sub_attribute_kept a b)) else writable_sub_attribute_steps kind op a b v

-- ---- the values that match a filter

-- the change that an operation without a value makes to the values that match a filter
abbrev pub matches_emptied : Operation → Tree → StepChange
matches_emptied Add t = KeepMatches t
matches_emptied Replace t = RemoveMatches t
matches_emptied Remove t = RemoveMatches t

-- the change of the values that match a filter: if the Bool is true, each match is replaced by a value with
-- these fields, otherwise these fields are set in each match
abbrev pub matches_change : Bool → Tree → List Field → StepChange
matches_change false t fs = AddToMatches t fs
matches_change true t fs = ReplaceMatches t fs

-- the steps that replace each value that matches a filter by the given value (true), or set the fields of the
-- given value in each match (false); the error `Syntax` if two keys of the given value name one
-- sub-attribute, or else the error `Value` if the given value is wrong or a list
abbrev pub matches_set : Kind → Bool → Attribute → Tree → Data → Read
matches_set kind replaces a t d = value_read (value_clashes a d) (option_map (λ fs. one (whole a) (matches_change replaces t fs)) (fields_of kind a d))

-- the steps of an operation with a value whose target is the values that match a filter
abbrev pub matches_given : Kind → Operation → Attribute → Tree → Data → Read
matches_given kind Add a t d = matches_set kind false a t d
matches_given kind Replace a t d = matches_set kind true a t d
matches_given kind Remove a t d = Ok (one (whole a) (RemoveMatches t))

-- the steps of an operation whose target is the values that match a filter, in an attribute that isn't
-- readOnly
abbrev pub writable_matches_steps : Kind → Operation → Attribute → Tree → Option Data → Read
writable_matches_steps kind op a t None = Ok (one (whole a) (matches_emptied op t))
writable_matches_steps kind op a t (Some d) = matches_given kind op a t d

-- the steps of an operation whose target is the values that match a filter
unfoldable pub matches_steps : Kind → Operation → Attribute → Tree → Option Data → Read
matches_steps kind op a t v = if is_read_only kind (simple a) then Ok (one (whole a) Keep) else writable_matches_steps kind op a t v

-- ---- a sub-attribute of the values that match a filter

-- the change that an operation without a value makes to a sub-attribute of the values that match a filter
abbrev pub at_matches_emptied : Operation → Tree → SubAttribute → StepChange
at_matches_emptied Add t b = KeepSubAttribute b
at_matches_emptied Replace t b = ClearAtMatches t b
at_matches_emptied Remove t b = ClearAtMatches t b

-- the change of an operation that sets a sub-attribute in each value that matches a filter; a replace if the
-- Bool is true, otherwise an add
abbrev pub at_matches_change : Bool → Tree → Field → StepChange
at_matches_change false t f = AddAtMatches t f
at_matches_change true t f = SetAtMatches t f

-- the steps that set a sub-attribute of the values that match a filter; the error `Value` if the value given
-- for the sub-attribute is wrong
abbrev pub at_matches_set : Kind → Bool → Attribute → Tree → SubAttribute → Data → Read
at_matches_set kind replaces a t b d = value_read false (option_map (map (λ f. Of (whole a) (at_matches_change replaces t f))) (field_with kind a b d))

-- the steps of an operation with a value whose target is a sub-attribute of the values that match a filter
abbrev pub at_matches_given : Kind → Operation → Attribute → Tree → SubAttribute → Data → Read
at_matches_given kind Add a t b d = at_matches_set kind false a t b d
at_matches_given kind Replace a t b d = at_matches_set kind true a t b d
at_matches_given kind Remove a t b d = Ok (one (whole a) (ClearAtMatches t b))

-- the steps of an operation whose target is a sub-attribute, which isn't readOnly, of the values that match a
-- filter
abbrev pub writable_at_matches_steps : Kind → Operation → Attribute → Tree → SubAttribute → Option Data → Read
writable_at_matches_steps kind op a t b None = Ok (one (whole a) (at_matches_emptied op t b))
writable_at_matches_steps kind op a t b (Some d) = at_matches_given kind op a t b d

-- the steps of an operation whose target is a sub-attribute of the values that match a filter
unfoldable pub at_matches_steps : Kind → Operation → Attribute → Tree → SubAttribute → Option Data → Read
at_matches_steps kind op a t b v = if is_read_only kind (leaf_at a b) then Ok (one (whole a) (KeepSubAttribute b)) else writable_at_matches_steps kind op a t b v

-- ---- an extension

-- the steps that remove the attribute; none if the attribute doesn't belong to the extension
abbrev pub own_removed : Kind → Schema → Attribute → Read
own_removed kind s a = if is_same_schema (schema_of kind a) s then attribute_steps kind Remove a None else Ok []

-- the steps that remove each attribute of the extension, in the order of the schema
abbrev pub extension_removed : Kind → Schema → Read
extension_removed kind s = joined (map (own_removed kind s) (attributes kind))

-- the steps of an operation without a value whose target is an extension
abbrev pub extension_emptied : Kind → Operation → Schema → Read
extension_emptied kind Add s = Ok []
extension_emptied kind Replace s = extension_removed kind s
extension_emptied kind Remove s = extension_removed kind s

-- the steps for the attribute that a key of an extension's object names; no steps if the key names none
abbrev pub attribute_or_none : Kind → Operation → Option Attribute → Data → Read
attribute_or_none kind op None d = Ok []
attribute_or_none kind op (Some a) d = attribute_steps kind op a (present (Some d))

-- the steps for one key of an extension's object
abbrev pub own_member : Kind → Operation → Schema → List ℕ → Data → Read
own_member kind op s key d = attribute_or_none kind op (attribute_named_in kind s key) d

-- the steps for each key of an extension's object; the error `Value` if the value isn't an object
abbrev pub extension_object : Kind → Operation → Schema → Option Members → Read
extension_object kind op s None = Err Value
extension_object kind op s (Some ms) = each_member (own_member kind op s) ms

-- the steps of an operation with a value whose target is an extension; a remove ignores the value
abbrev pub extension_given : Kind → Operation → Schema → Data → Read
extension_given kind Remove s d = extension_removed kind s
extension_given kind Add s d = extension_object kind Add s (as_object d)
extension_given kind Replace s d = extension_object kind Replace s (as_object d)

-- the steps of an operation whose target is an extension
unfoldable pub extension_steps : Kind → Operation → Schema → Option Data → Read
extension_steps kind op s None = extension_emptied kind op s
extension_steps kind op s (Some d) = extension_given kind op s d

-- ---- the target of any path

-- the steps of an operation whose target is the values that match the filter of a value path, or a
-- sub-attribute of these values
abbrev pub values_steps : Kind → Operation → Attribute → Tree → Option SubAttribute → Option Data → Read
values_steps kind op a t None v = matches_steps kind op a t v
values_steps kind op a t (Some b) v = at_matches_steps kind op a t b v

-- the steps of an operation whose path has this target
abbrev pub target_steps : Kind → Operation → PathTarget → Option Data → Read
target_steps kind op (OfExtension s) v = extension_steps kind op s v
target_steps kind op (OfAttribute a) v = attribute_steps kind op a v
target_steps kind op (OfSubAttribute a b) v = sub_attribute_steps kind op a b v
target_steps kind op (OfValues a t sub) v = values_steps kind op a t sub v

-- whether the attribute or sub-attribute that a path names is readOnly; false for an extension; for a value
-- path, whether the attribute is readOnly
abbrev pub is_fixed_target : Kind → PathTarget → Bool
is_fixed_target kind (OfExtension s) = false
is_fixed_target kind (OfAttribute a) = is_read_only kind (simple a)
is_fixed_target kind (OfSubAttribute a b) = is_read_only kind (leaf_at a b)
is_fixed_target kind (OfValues a t sub) = is_read_only kind (simple a)
