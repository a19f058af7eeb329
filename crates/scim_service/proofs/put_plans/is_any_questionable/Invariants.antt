use Rattle.std.proofs.Common.{◌≡◌, drop}
use Rattle.std.specs.List.{list_any}
use Rattle.scim_policy.specs.PatternTable.{access_in}
use Rattle.scim_service.specs.code.Questions.{is_in_question}
use Rattle.scim_service.proofs.put_plans.is_any_questionable.Given as goal

-- those that are left decide
abbrev pub invariant-loop-unit : goal.invariant-loop-unit
invariant-loop-unit l =
    list_any (is_in_question (access_in l.rights) l.draft) (drop l.unit-index l.units) ≡ list_any (is_in_question (access_in l.rights) l.draft) l.units
