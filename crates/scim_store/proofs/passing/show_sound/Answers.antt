use Rattle.std.proofs.Common.{◌∙◌, ap, subst, List}
use Rattle.std.specs.Prelude.{IfSome}
use Rattle.std.specs.List.{IsDistinct}
use Rattle.std.proofs.lemmas.Result.{IfOk-weaker}
use Rattle.sqlite.specs.Order.{Row}
use Rattle.scim_store.specs.Damage.{Tables, is_shared}
use Rattle.scim_store.specs.code.Passing.{PassesAll}
use Rattle.scim_store.proofs.PassLemmas.{passes_whole}
use Rattle.scim_store.proofs.passing.show_sound.Goals as goal

pub returns-in-Some : goal.returns-in-Some
returns-in-Some g c =
    let version = c.args.version in
    let base = c.args.base.now in
    let tables = c.args.tables.now in
    let before = c.args.visitor.now in
    let after = c.pass_rows.new.visitor in
    let rows = c.as_slice-resources.ensures.value ∙ ap (λ (t : Tables). t.resources) c.tables.view_is in
    let names = c.as_slice.ensures.value ∙ ap (λ (t : Tables). t.names) c.tables.view_is in
    let passed = subst (λ found. IfSome found (λ end. PassesAll g.V.Visitor.takes version base tables c.as_slice-resources.result.now end before after)) c.in-Some.is c.in_ok-end.ensures in
    let all = subst (λ (rs : List Row). PassesAll g.V.Visitor.takes version base tables rs c.in-Some.end before after) rows passed in
    IfOk-weaker c.are_apart.result _ _ (λ apart distinct yes'.
    passes_whole g.V.Visitor.takes version base tables c.in-Some.end before after all (c.is_at_end.ensures c.if-is_at_end.true) (subst (IsDistinct is_shared) names (distinct yes'))) c.are_apart.ensures.yes
