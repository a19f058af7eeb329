-- The result of reading a part of a PATCH message: steps, or the fault of highest priority (RFC 7644 sections
-- 3.5.2 and 3.12).
use Rattle.std.specs.Prelude.{ℕ, Bool, List, [], ◌∷◌, ◌++◌, Option, Result, Ok, Err, ok_or, if◌then◌else◌}
use Rattle.serde_json.specs.Data.{Data, Members, no_members, member}
use Rattle.scim_patch_steps.specs.Patch.{Step}
use Rattle.scim_patch_message.specs.declared.faults.PatchFault.{PatchFault}
use Rattle.scim_patch_message.specs.declared.faults.PatchFault.TheVariants.{Syntax, Path, Value}

-- the steps of a part of the message, or the fault of that part
abbrev pub Read : Type 0
Read = Result (List Step) PatchFault

-- whichever of two faults has the higher priority: `Syntax` before `Path` before `Value`
abbrev pub first_of : PatchFault → PatchFault → PatchFault
first_of Syntax f = Syntax
first_of Path Syntax = Syntax
first_of Path Path = Path
first_of Path Value = Path
first_of Value f = f

-- the steps of two parts, one after the other, or the fault of highest priority
abbrev pub both : Read → Read → Read
both (Ok xs) (Ok ys) = Ok (xs ++ ys)
both (Ok xs) (Err f) = Err f
both (Err e) (Ok ys) = Err e
both (Err e) (Err f) = Err (first_of e f)

-- the steps of all parts, or the fault of highest priority
abbrev pub joined : List Read → Read
joined [] = Ok []
joined (r ∷ rs) = both r (joined rs)

-- the steps of all members of an object, in byte order of their keys
abbrev pub each_member : (List ℕ → Data → Read) → Members → Read
each_member read no_members = Ok []
each_member read (member k d ms) = both (read k d) (each_member read ms)

-- the steps of a value; the error `Syntax` if the Bool is true (two keys of the value name one
-- sub-attribute), or else the error `Value` if there are no steps, because the value is wrong
abbrev pub value_read : Bool → Option (List Step) → Read
value_read clashes steps = if clashes then Err Syntax else ok_or steps Value
