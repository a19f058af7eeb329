use Rattle.scim_explain.proofs.CoverLemmas as cover
use Rattle.scim_explain.proofs.IdleLemmas as idle
use Rattle.scim_explain.proofs.laws.idle_rules_never_decide.Goals as goal

pub returns-clause-covered : goal.returns-clause-covered
returns-clause-covered c = cover.covering_fits

pub returns-clause-never : goal.returns-clause-never
returns-clause-never c = idle.never_deciding

pub returns-clause-pattern : goal.returns-clause-pattern
returns-clause-pattern c = idle.in_no_pattern

pub returns-clause-values : goal.returns-clause-values
returns-clause-values c = idle.no_value
