use Rattle.std.proofs.Common.{rules, ◌≡◌, sym, subst, ℕ, false, List}
use Rattle.std.proofs.lemmas.Result.{on_ok_weaker}
use Rattle.std.specs.Io.KnownBytes.{Appends}
use Rattle.scim_audit.specs.declared.refusals.Refusal.TheVariants.{Store as NoStore}
use Rattle.scim_shelf.specs.Stores.{IsStore}
use Rattle.scim_wire.specs.Replies.{whole_form}
use Rattle.scim_wire.specs.Streams.{AppendsFront}
use Rattle.scim_exchange.specs.Replies.{refusal_text}
use Rattle.scim_command.specs.Once.{Answers}
use Rattle.scim_command.specs.code.Exits.{text_or_store}
use Rattle.scim_command.proofs.AnswerLemmas.{answers_files, written, sound_files}
use Rattle.scim_command.proofs.Facts.{is_store}
use Rattle.scim_command.proofs.run_once.once.Goals as goal

pub returns-in_err-service-clause-users : goal.returns-in_err-service-clause-users
returns-in_err-service-clause-users g c n is = c.in_err-service.ensures.users n (search rules)

pub returns-clause-answered : goal.returns-clause-answered
returns-clause-answered g c =
    let s = c.args.setting.now in
    let service = c.in_ok-service.ensures.service in
    let store = service.0 in
    let text = text_or_store c.in_ok-reply.reply in
    let known = g.R.Read.remaining c.args.reader.now in
    let below : IsStore c.in_ok-service.service.base store = subst (λ (b : List ℕ). IsStore b store) (sym service.4) (is_store s.base.now s.users.now store service.1) in
    let answer = answers_files s c.in_ok-service.service.policy c.in_ok-service.service.base store known text service.3 service.4 service.1
    (c.in_ok-reply.ensures.answer store service.2 below) in
    let fallback : c.as_str.result.now ≡ refusal_text NoStore (whole_form false) = search rules in
    on_ok_weaker c.write_reply.result
    (λ wrote. written (Answers s) (λ (t : List ℕ). Appends (g.W.Write.contents c.args.writer.now) (g.W.Write.contents c.write_reply.new.writer) t) known text answer wrote)
    (c.write_reply.ensures.whole fallback)

pub returns-clause-output : goal.returns-clause-output
returns-clause-output g c failed =
    let s = c.args.setting.now in
    let service = c.in_ok-service.ensures.service in
    let store = service.0 in
    let text = text_or_store c.in_ok-reply.reply in
    let known = g.R.Read.remaining c.args.reader.now in
    let below : IsStore c.in_ok-service.service.base store = subst (λ (b : List ℕ). IsStore b store) (sym service.4) (is_store s.base.now s.users.now store service.1) in
    let answer = answers_files s c.in_ok-service.service.policy c.in_ok-service.service.base store known text service.3 service.4 service.1
    (c.in_ok-reply.ensures.answer store service.2 below) in
    let fallback : c.as_str.result.now ≡ refusal_text NoStore (whole_form false) = search rules in
    let front = c.write_reply.ensures.front fallback in (
      sound_files s c.in_ok-service.service.policy store service.3 service.1,
      written (Answers s) (λ (t : List ℕ). AppendsFront (g.W.Write.contents c.args.writer.now) (g.W.Write.contents c.write_reply.new.writer) t) known text answer (rw failed at front),
    )
