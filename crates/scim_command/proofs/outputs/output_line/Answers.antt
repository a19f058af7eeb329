use Rattle.std.proofs.Common.{◌∙◌, ap, List, ℕ, ◌++◌, string_bytes}
use Rattle.std.specs.Prelude.{codes, decimal}
use Rattle.scim_command.proofs.OutputLemmas.{three_after}
use Rattle.scim_command.proofs.outputs.output_line.Goals as goal

pub returns-in_ok-format-in-Write : goal.returns-in_ok-format-in-Write
returns-in_ok-format-in-Write c =
    rw (c.in-Write.is, ← c.as_str.ensures.value, ← c.in_ok-digits-in-Write.ensures)
    (c.in_ok-format-in-Write.ensures.ok
    ∙ ap (λ (t : List ℕ). codes "write " ++ t) (three_after (decimal c.in-Write.connection) (codes " ") (string_bytes c.in_ok-digits-in-Write.digits) (codes "\n")))
