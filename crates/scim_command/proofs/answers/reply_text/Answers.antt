use Rattle.std.proofs.Common.{◌∙◌, ap}
use Rattle.std.proofs.lemmas.Result.{IfOk-weaker}
use Rattle.scim_wire.specs.declared.replies.ReplyForm.{ReplyForm}
use Rattle.scim_exchange.specs.Replies.{answer_text}
use Rattle.scim_command.proofs.AnswerLemmas.{exchanged_weaker}
use Rattle.scim_command.proofs.answers.reply_text.Goals as goal

pub returns : goal.returns
returns c store stands is =
    let answer = c.answer-answer.result in
    let done = c.answer-answer.ensures.exchanged store stands tt is in
    IfOk-weaker c.text.result _ _ (λ t said. (answer, done.0, exchanged_weaker _ _ _ _ _ _ _ _ done.3, said ∙ ap (λ (form : ReplyForm). answer_text answer form) c.of.ensures)) c.text.ensures
