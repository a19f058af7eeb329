use Rattle.std.proofs.Common.{sym, subst, List, ◌+◌}
use Rattle.scim_schema.specs.declared.Kind.{Kind}
use Rattle.scim_schema.specs.Lookup.{kind_named}
use Rattle.scim_policy_file.specs.code.Written.{text_at}
use Rattle.scim_policy_file.proofs.ListLemmas.{IsMade, made_more, made_none}
use Rattle.scim_policy_file.proofs.policy_files.kinds_named.Goals as goal

pub loop-text-preserved : goal.loop-text-preserved
loop-text-preserved c =
    let more = made_more text_at kind_named c.loop-text.kinds.items c.loop-text.text-index c.args.texts.now _ c.in-Some.kind c.loop-text-test.true (sym c.in-Some.ensures.named) c.loop-text.invariant in
    subst (λ (all : List Kind). IsMade text_at kind_named all (c.loop-text.text-index + 1) c.args.texts.now) (sym c.in_ok-push.ensures.items) more

pub returns-in_default : goal.returns-in_default
returns-in_default c = sym (made_none text_at kind_named c.loop-text.kinds.items c.loop-text.text-index c.args.texts.now _ c.loop-text-test.true (sym c.in_default.ensures.named) c.loop-text.invariant)
