use Rattle.std.proofs.Common.{sym, subst, List, ◌+◌}
use Rattle.scim_schema.specs.declared.Op.{Op}
use Rattle.scim_schema.specs.Lookup.{operation_named}
use Rattle.scim_policy_file.specs.code.Written.{text_at}
use Rattle.scim_policy_file.proofs.ListLemmas.{IsMade, made_more, made_none}
use Rattle.scim_policy_file.proofs.policy_files.ops_named.Goals as goal

pub loop-text-preserved : goal.loop-text-preserved
loop-text-preserved c =
    let more = made_more text_at operation_named c.loop-text.ops.items c.loop-text.text-index c.args.texts.now _ c.in-Some.op c.loop-text-test.true (sym c.in-Some.ensures) c.loop-text.invariant in
    subst (λ (all : List Op). IsMade text_at operation_named all (c.loop-text.text-index + 1) c.args.texts.now) (sym c.in_ok-push.ensures.items) more

pub returns-in_default : goal.returns-in_default
returns-in_default c = sym (made_none text_at operation_named c.loop-text.ops.items c.loop-text.text-index c.args.texts.now _ c.loop-text-test.true (sym c.in_default.ensures) c.loop-text.invariant)
