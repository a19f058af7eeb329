-- The patch that a PATCH message asks for (RFC 7644 section 3.5.2).
use Rattle.std.specs.Prelude.{ℕ, Bool, true, false, List, [], ◌∷◌, map, length, nat_lt, codes, find, Option, None, Some, option_map, option_and_then, Result, Ok, Err, if◌then◌else◌}
use Rattle.std.specs.List.{list_any}
use Rattle.serde_json.specs.Data.{Data, Items, Members}
use Rattle.serde_json.specs.Find.{as_str, as_array, as_object}
use Rattle.scim_schema.specs.declared.limits.TheConstants.{MOST_OPERATIONS}
use Rattle.scim_schema.specs.declared.Kind.{Kind}
use Rattle.scim_text.specs.Names.{is_same_name}
use Rattle.scim_filter_grammar.specs.declared.tree.AttributePath.{AttributePath as FilterPath}
use Rattle.scim_filter_grammar.specs.declared.tree.Meant.{Meant}
use Rattle.scim_filter_grammar.specs.declared.tree.Meant.TheVariants as meant
use Rattle.scim_filter_grammar.specs.Spelled.{path_in}
use Rattle.scim_path.specs.declared.faults.PathFault.{PathFault}
use Rattle.scim_path.specs.Paths.{PathTarget}
use Rattle.scim_path.specs.Targets.{target_in}
use Rattle.scim_body.specs.BodyNames.{value_named, is_twice, items_list}
use Rattle.scim_body.specs.BodyValues.{present, given_named}
use Rattle.scim_patch_steps.specs.Patch.{Pathless, Patch}
use Rattle.scim_patch_message.specs.declared.operations.Operation.{Operation}
use Rattle.scim_patch_message.specs.declared.operations.Operation.TheVariants.{Add, Replace, Remove}
use Rattle.scim_patch_message.specs.declared.faults.PatchFault.{PatchFault}
use Rattle.scim_patch_message.specs.declared.faults.PatchFault.TheVariants.{Syntax, Path, Value}
use Rattle.scim_patch_message.specs.Readings.{Read, joined, each_member}
use Rattle.scim_patch_message.specs.PathSteps.{target_steps, is_fixed_target}

-- ---- an operation without a path, where each key of the value is a path

-- whether a path was read and refers to no attribute of the kind
abbrev pub is_nothing : Option Meant → Bool
is_nothing (Some meant.Nothing) = true
is_nothing _ = false

-- whether a key is a valid path that refers to no attribute in the kind's table; `schemas` isn't in the table
-- either
abbrev pub names_nothing : Kind → List ℕ → Bool
names_nothing kind key = is_nothing (option_map (λ (p : FilterPath). p.meant) (path_in kind key))

-- the steps for one key; none if the target of the key is readOnly or the kind lacks the attribute; the error
-- `Path` if the key isn't a valid path
abbrev pub key_steps : Kind → Operation → List ℕ → Data → Result PathTarget PathFault → Read
key_steps kind op key d (Ok target) = if is_fixed_target kind target then Ok [] else target_steps kind op target (present (Some d))
key_steps kind op key d (Err f) = if names_nothing kind key then Ok [] else Err Path

-- the steps for one key and its value
abbrev pub member_steps : Kind → Operation → List ℕ → Data → Read
member_steps kind op key d = key_steps kind op key d (target_in kind key)

-- the steps for all keys of the value; the error `Value` if the value isn't an object
abbrev pub object_steps : Kind → Operation → Option Members → Read
object_steps kind op None = Err Value
object_steps kind op (Some ms) = each_member (member_steps kind op) ms

-- the steps of an operation without a path; a remove becomes a step that has no target
abbrev pub pathless_steps : Kind → Operation → Option Data → Read
pathless_steps kind Remove v = Ok (Pathless ∷ [])
pathless_steps kind Add v = object_steps kind Add (option_and_then as_object v)
pathless_steps kind Replace v = object_steps kind Replace (option_and_then as_object v)

-- ---- one operation

-- the steps of an operation with this target; the error `Value` if an add or replace has no value, not even
-- null
abbrev pub valued_steps : Kind → Operation → PathTarget → Option Data → Read
valued_steps kind Remove target v = target_steps kind Remove target (present v)
valued_steps kind Add target None = Err Value
valued_steps kind Add target (Some d) = target_steps kind Add target (present (Some d))
valued_steps kind Replace target None = Err Value
valued_steps kind Replace target (Some d) = target_steps kind Replace target (present (Some d))

-- the steps of an operation with the target of its path; the error `Path`, whatever the value is, if the path
-- has no target
abbrev pub pathed_steps : Kind → Operation → Option Data → Result PathTarget PathFault → Read
pathed_steps kind op v (Err f) = Err Path
pathed_steps kind op v (Ok target) = valued_steps kind op target v

-- the steps of an operation that has this text as its path; the error `Path` if the path isn't a text
abbrev pub text_steps : Kind → Operation → Option Data → Option (List ℕ) → Read
text_steps kind op v None = Err Path
text_steps kind op v (Some text) = pathed_steps kind op v (target_in kind text)

-- the steps of an operation with an optional path; null and `[]` count as no path
abbrev pub path_steps : Kind → Operation → Option Data → Option Data → Read
path_steps kind op v None = pathless_steps kind op v
path_steps kind op v (Some path) = text_steps kind op v (as_str path)

-- the name of an operation
abbrev pub operation_name : Operation → List ℕ
operation_name Add = codes "add"
operation_name Replace = codes "replace"
operation_name Remove = codes "remove"

-- the operation with this name, in any ASCII case; None if no operation has this name
abbrev pub operation_named : List ℕ → Option Operation
operation_named name = find (λ op. is_same_name (operation_name op) name) (Add ∷ Replace ∷ Remove ∷ [])

-- the steps of the operation with these members of its object; the error `Syntax` if there is no operation
abbrev pub named_steps : Kind → Members → Option Operation → Read
named_steps kind ms None = Err Syntax
named_steps kind ms (Some op) = path_steps kind op (value_named (codes "value") ms) (given_named (codes "path") ms)

-- whether `op`, `path` or `value` occurs in two spellings
abbrev pub keys_clash : Members → Bool
keys_clash ms = list_any (λ key. is_twice key ms) (codes "op" ∷ codes "path" ∷ codes "value" ∷ [])

-- the operation that the member `op` names; None if `op` is missing or names no operation
abbrev pub member_operation : Members → Option Operation
member_operation ms = option_and_then operation_named (option_and_then as_str (value_named (codes "op") ms))

-- the steps of an operation with this object; the error `Syntax` if there is no object, `op` isn't a known
-- operation, or `op`, `path` or `value` occurs in two spellings
abbrev pub object_operation : Kind → Option Members → Read
object_operation kind None = Err Syntax
object_operation kind (Some ms) = if keys_clash ms then Err Syntax else named_steps kind ms (member_operation ms)

-- the steps of one operation
unfoldable pub operation_steps : Kind → Data → Read
operation_steps kind d = object_operation kind (as_object d)

-- ---- the message

-- no steps, or the error `Value` if there are over 1,000 operations
abbrev pub if_few : List Data → Read
if_few ds = if nat_lt MOST_OPERATIONS (length ds) then Err Value else Ok []

-- the steps of all operations; the error `Syntax` if there are no operations, or the error `Value` if there
-- are over 1,000
abbrev pub list_steps : Kind → List Data → Read
list_steps kind [] = Err Syntax
list_steps kind (d ∷ ds) = joined (if_few (d ∷ ds) ∷ map (operation_steps kind) (d ∷ ds))

-- the steps of the operations in a list; the error `Syntax` if there is no list
abbrev pub items_steps : Kind → Option Items → Read
items_steps kind None = Err Syntax
items_steps kind (Some items) = list_steps kind (items_list items)

-- the steps of a message with this object; the key `Operations` may be in any ASCII case; the error `Syntax`
-- if there is no object, or the key occurs in two spellings
abbrev pub object_message : Kind → Option Members → Read
object_message kind None = Err Syntax
object_message kind (Some ms) =
    if is_twice (codes "Operations") ms then Err Syntax else items_steps kind (option_and_then as_array (value_named (codes "Operations") ms))

-- the steps of a message with this JSON value; the error `Syntax` if there is no value, since the message
-- isn't JSON, or the value isn't an object
unfoldable pub message_steps : Kind → Option Data → Read
message_steps kind d = object_message kind (option_and_then as_object d)

-- the patch with these steps, or the fault
abbrev pub patch_of_steps : Kind → Read → Result Patch PatchFault
patch_of_steps kind (Ok steps) = Ok (record { kind = kind; steps = steps })
patch_of_steps kind (Err f) = Err f

-- the patch of a message with this JSON value, or the fault of the message
abbrev pub patch_in : Kind → Option Data → Result Patch PatchFault
patch_in kind d = patch_of_steps kind (message_steps kind d)
