use Rattle.scim_command.proofs.options.base_of.Goals as goal

pub returns-in-Ok-true-clause-base : goal.returns-in-Ok-true-clause-base
returns-in-Ok-true-clause-base c = record {
  value = c.in_ok-base.ensures.value;
  url = c.in-Ok-true.ensures.0 c.in-Ok-true.field-0-test;
}
