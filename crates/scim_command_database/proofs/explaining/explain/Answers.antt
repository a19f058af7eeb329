use Rattle.std.proofs.Common.{rules, ◌≡◌, ◌∙◌, sym, subst, ℕ, List}
use Rattle.std.proofs.lemmas.Result.{on_ok_weaker}
use Rattle.std.specs.Io.KnownBytes.{Appends}
use Rattle.scim_wire.specs.Streams.{AppendsFront}
use Rattle.scim_command_database.specs.Explaining.{told}
use Rattle.scim_command_database.proofs.explaining.explain.Goals as goal

pub returns-clause-told : goal.returns-clause-told
returns-clause-told g c =
    let text : c.as_str.result.now ≡ told c.args.policy.now c.args.question.now c.in-Some.resource = search rules in
    on_ok_weaker c.write_or_fault.result
    (λ wrote store stands honest. (
      c.in-Some.resource,
      sym (c.in_ok-resource.ensures.answer store stands honest) ∙ c.in-Some.is,
      subst (λ (t : List ℕ). Appends (g.W.Write.contents c.args.writer.now) (g.W.Write.contents c.write_or_fault.new.writer) t) text wrote,
    ))
    c.write_or_fault.ensures.whole

pub returns-clause-output : goal.returns-clause-output
returns-clause-output g c failed store stands honest =
    let text : c.as_str.result.now ≡ told c.args.policy.now c.args.question.now c.in-Some.resource = search rules in
    let front = c.write_or_fault.ensures.front in (
      c.in-Some.resource,
      sym (c.in_ok-resource.ensures.answer store stands honest) ∙ c.in-Some.is,
      subst (λ (t : List ℕ). AppendsFront (g.W.Write.contents c.args.writer.now) (g.W.Write.contents c.write_or_fault.new.writer) t) text (rw failed at front),
    )
