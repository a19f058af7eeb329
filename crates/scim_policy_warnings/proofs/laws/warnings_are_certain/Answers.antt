use Rattle.scim_policy_warnings.proofs.WarningLemmas.{all_certain}
use Rattle.scim_policy_warnings.proofs.laws.warnings_are_certain.Goals as goal

pub returns-clause-missing : goal.returns-clause-missing
returns-clause-missing c = λ policy k d less own content meant same. (all_certain policy k d less own content meant same).0

pub returns-clause-lost : goal.returns-clause-lost
returns-clause-lost c = λ policy k d less own content meant same. (all_certain policy k d less own content meant same).1
