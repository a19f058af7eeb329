use Rattle.std.proofs.Common.{◌+◌, sym, ◌∙◌, ap, List, drop}
use Rattle.scim_body.specs.declared.trees.Tree.{Tree}
use Rattle.scim_body.specs.View.{items_view}
use Rattle.scim_foreign_users.specs.Items.{has_urn}
use Rattle.scim_foreign_users.proofs.ItemLemmas.{later_values, urn_here, urn_later}
use Rattle.scim_foreign_users.proofs.items.has_urn.Goals as goal

pub returns-then-is_urn : goal.returns-then-is_urn
returns-then-is_urn c =
    let urn = c.args.urn.now in
    let ts = c.args.values.now in
    let t = c.value-item.result in
    sym (c.loop-value.invariant
    ∙ ap (λ (us : List Tree). has_urn urn (items_view us)) (later_values ts c.loop-value.value-index t c.loop-value-test.true c.value-item.is)
    ∙ urn_here urn t (drop (c.loop-value.value-index + 1) ts) (sym c.is_urn.ensures ∙ c.if-is_urn.true))

pub loop-value-preserved : goal.loop-value-preserved
loop-value-preserved c =
    let urn = c.args.urn.now in
    let ts = c.args.values.now in
    let t = c.value-item.result in
    c.loop-value.invariant
    ∙ ap (λ (us : List Tree). has_urn urn (items_view us)) (later_values ts c.loop-value.value-index t c.loop-value-test.true c.value-item.is)
    ∙ urn_later urn t (drop (c.loop-value.value-index + 1) ts) (sym c.is_urn.ensures ∙ c.if-is_urn.false)
