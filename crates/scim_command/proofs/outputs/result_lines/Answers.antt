use Rattle.std.proofs.Common.{◌∙◌, ap, List, ℕ, ◌++◌}
use Rattle.std.specs.Prelude.{codes, decimal}
use Rattle.scim_command.proofs.OutputLemmas.{three_after}
use Rattle.scim_command.proofs.outputs.result_lines.Goals as goal

pub returns-in_ok-format-in-Err : goal.returns-in_ok-format-in-Err
returns-in_ok-format-in-Err c =
    rw (c.in-Err.is, ← c.fault_words-words.ensures)
    (c.in_ok-format-in-Err.ensures.ok ∙ ap (λ (t : List ℕ). codes "fault " ++ t) (three_after (decimal c.args.connection) (codes " ") c.fault_words-words.result.now (codes "\n")))
