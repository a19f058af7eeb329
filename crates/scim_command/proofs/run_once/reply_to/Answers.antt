use Rattle.std.proofs.Common.{Ok}
use Rattle.scim_command.proofs.AnswerLemmas.{answers_first}
use Rattle.scim_command.proofs.run_once.reply_to.Goals as goal

pub returns-in-Ok-Ok-clause-answer : goal.returns-in-Ok-Ok-clause-answer
returns-in-Ok-Ok-clause-answer g c = λ store stands is.
    answers_first c.args.service.now.policy c.args.service.now.base c.args.arrival.now store
    (g.R.Read.remaining c.args.reader.now) (Ok c.in-Ok-Ok.message) c.reply_text.result (rw (c.in-Ok-Ok.field-0-is) at c.in-Ok-Ok.ensures.first) (c.reply_text.ensures store stands is)
