-- The units of a PUT whose values have to be compared with those that the client sees.
use Rattle.std.specs.Prelude.{Bool, not, ◌&&◌, is_some}
use Rattle.scim_schema.specs.declared.Unit.{Unit as AttributeUnit}
use Rattle.scim_schema.specs.Mutability.{is_fixed}
use Rattle.scim_body.specs.Drafts.{Draft, gives}
use Rattle.scim_policy.specs.Access.{Access, forbidding}

-- Whether a unit isn't readOnly, and the body gives it although the client may not write it. If so, the
-- body's values have to be compared with those that the client sees.
abbrev pub is_in_question : Access → Draft → AttributeUnit → Bool
is_in_question a d u = not (is_fixed d.kind u) && (gives d u && is_some (forbidding d.kind a u))
