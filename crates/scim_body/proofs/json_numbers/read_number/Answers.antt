use Rattle.std.proofs.Common.{sym, ◌∙◌, true≢false}
use Rattle.scim_body.proofs.NumberLemmas.{number_read, no_number}
use Rattle.scim_body.proofs.json_numbers.read_number.Goals as goal

pub returns-in-Some-clause-number : goal.returns-in-Some-clause-number
returns-in-Some-clause-number c = number_read _ _ c.requires c.in-Ok.ensures.ok ∙ sym c.in-Some.ensures

pub returns-in-Ok-clause-too_large : goal.returns-in-Ok-clause-too_large
returns-in-Ok-clause-too_large c = number_read _ _ c.requires c.in-Ok.ensures.ok ∙ sym c.in-None.ensures

pub returns-clause-too_large : goal.returns-clause-too_large
returns-clause-too_large c = no_number _ c.requires (c.in-Err.ensures.err (λ memory. absurd (true≢false (sym (c.is_memory.ensures.1 memory) ∙ c.if-is_memory.false))))
