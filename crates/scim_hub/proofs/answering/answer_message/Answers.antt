use Rattle.std.proofs.Common.{refl, subst}
use Rattle.std.specs.Prelude.{◌||◌}
use Rattle.scim_wire.specs.declared.replies.ReplyForm.{ReplyForm}
use Rattle.scim_wire.specs.Replies.{form_of}
use Rattle.scim_exchange.specs.Replies.{answer_text}
use Rattle.scim_hub.specs.Answering.{closes_by_itself}
use Rattle.scim_hub.specs.code.Replies.{Says}
use Rattle.scim_hub.proofs.answering.answer_message.Goals as goal

pub returns-clause-answered : goal.returns-clause-answered
returns-clause-answered g c held store stands honest is =
    let answer = c.answer_by-answer.result in
    let message = c.args.message.now in
    let done = c.answer_by-answer.ensures.exchanged held store stands honest is in (
      done.0,
      done.1,
      done.2,
      (
        answer_text answer (form_of message),
        message.close || closes_by_itself answer,
        record { answer = answer; exchanged = done.3; text_is = refl; closing_is = refl },
        subst (λ (form : ReplyForm). Says c.reply_with.result (answer_text answer form) (form.closes || closes_by_itself answer)) c.of.ensures c.reply_with.ensures,
      ),
    )
