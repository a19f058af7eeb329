use Rattle.std.proofs.Common.{rules, ◌≡◌}
use Rattle.scim_command.proofs.option_details.has_form.Goals as goal

pub returns-in-Id : goal.returns-in-Id
returns-in-Id c = λ none. rw c.in-Id.is (λ text. let found = c.read.ensures.form.1 text in search rules)
