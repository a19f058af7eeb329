use Rattle.std.proofs.Common.{rules}
use Rattle.scim_policy.specs.Fits.{speaks_of}
use Rattle.scim_policy.proofs.rules.Rule.misfit.Goals as goal

-- by name, so that a body that breaks it is refused at once
pub returns-then-not-branch-clause-first : goal.returns-then-not-branch-clause-first
unfolding speaks_of
returns-then-not-branch-clause-first c = search rules
