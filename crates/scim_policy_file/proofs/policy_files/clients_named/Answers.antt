use Rattle.std.proofs.Common.{◌∙◌, sym, subst, List, ◌+◌}
use Rattle.scim_policy_file.specs.Paths.{client_named}
use Rattle.scim_policy.specs.declared.rules.ClientName.{ClientName}
use Rattle.scim_policy_file.specs.code.Written.{text_at}
use Rattle.scim_policy_file.proofs.ListLemmas.{IsMade, made_more, made_none}
use Rattle.scim_policy_file.proofs.policy_files.clients_named.Goals as goal

pub loop-text-preserved : goal.loop-text-preserved
loop-text-preserved c =
    let more = made_more text_at client_named c.loop-text.clients.items c.loop-text.text-index c.args.texts.now _ c.in-Some.client c.loop-text-test.true (sym c.in_ok-client.ensures ∙ c.in-Some.is) c.loop-text.invariant in
    subst (λ (all : List ClientName). IsMade text_at client_named all (c.loop-text.text-index + 1) c.args.texts.now) (sym c.in_ok-push.ensures.items) more

pub returns-in_default : goal.returns-in_default
returns-in_default c = sym (made_none text_at client_named c.loop-text.clients.items c.loop-text.text-index c.args.texts.now _ c.loop-text-test.true (sym c.in_ok-client.ensures ∙ c.in_default.is) c.loop-text.invariant)
