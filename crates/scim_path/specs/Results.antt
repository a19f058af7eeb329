-- Converts the results of the code that reads paths into the results that the specification defines.
use Rattle.std.specs.Prelude.{ℕ, List, Option, Some, None, Result, Ok, Err}
use Rattle.scim_schema.specs.declared.Attribute.{Attribute}
use Rattle.scim_schema.specs.declared.SubAttribute.{SubAttribute}
use Rattle.scim_filter_grammar.specs.declared.tree.Meant.{Meant}
use Rattle.scim_filter_grammar.specs.Tree.{Tree}
use Rattle.scim_path.specs.declared.faults.PathFault.{PathFault}
use Rattle.scim_path.specs.declared.faults.PathFault.TheVariants.{Syntax}
use Rattle.scim_path.specs.declared.paths.Path.{Path}
use Rattle.scim_path.specs.Paths.{PathTarget, OfValues, path_target, chosen, filtered_target}

-- the specified result of reading a path, from the result of the code
abbrev pub target_read : Result Path PathFault → Result PathTarget PathFault
target_read (Ok p) = Ok (path_target p)
target_read (Err f) = Err f

-- the target of a value path, from the result of reading its sub-attribute
abbrev pub values_read : Tree → Attribute → Result (Option SubAttribute) PathFault → Result PathTarget PathFault
values_read tree a (Ok sub) = Ok (OfValues a tree sub)
values_read tree a (Err f) = Err f

-- the target of a value path, from the result of reading its attribute
abbrev pub chosen_read : Tree → Option (List ℕ) → Result Attribute PathFault → Result PathTarget PathFault
chosen_read tree sub (Ok a) = chosen a tree sub
chosen_read tree sub (Err f) = Err f

-- the target of a value path, from the attribute or sub-attribute before its brackets; Syntax for None
abbrev pub filtered_read : Tree → Option (List ℕ) → Option Meant → Result PathTarget PathFault
filtered_read tree sub None = Err Syntax
filtered_read tree sub (Some meant) = filtered_target meant tree sub

-- the target of a value path, from the result of reading its attribute and sub-attribute
abbrev pub parts_read : Tree → Result (Attribute × Option SubAttribute) PathFault → Result PathTarget PathFault
parts_read tree (Ok (a, sub)) = Ok (OfValues a tree sub)
parts_read tree (Err f) = Err f
