use Rattle.std.proofs.Common.{◌≡◌, string_bytes, sym, ap, ◌∙◌, List}
use Rattle.serde_json.specs.View.{members_view}
use Rattle.serde_json.proofs.Views.{Entry}
use Rattle.scim_text.specs.Names.{is_same_name}
use Rattle.scim_body.specs.BodyNames.{value_named}
use Rattle.scim_foreign_users.proofs.ExportLemmas.{named_here, named_later}
use Rattle.scim_foreign_users.proofs.exports.member_named.Goals as goal

pub returns-then-same_name : goal.returns-then-same_name
returns-then-same_name c =
    let name = c.args.name.now in
    let e : Entry = (c.in-Some.key.now, c.in-Some.value.now) in
    let here = c.loop-key.invariant ∙ ap (λ (es : List Entry). value_named name (members_view es)) c.in-Some.ensures.steps in
    let key : c.as_str.result.now ≡ string_bytes e.0 = c.as_str.ensures.value in
    sym (here ∙ named_here name e _ (ap (is_same_name name) (sym key) ∙ sym c.same_name.ensures ∙ c.if-same_name.true))

pub loop-key-preserved : goal.loop-key-preserved
loop-key-preserved c =
    let name = c.args.name.now in
    let e : Entry = (c.in-Some.key.now, c.in-Some.value.now) in
    let here = c.loop-key.invariant ∙ ap (λ (es : List Entry). value_named name (members_view es)) c.in-Some.ensures.steps in
    let key : c.as_str.result.now ≡ string_bytes e.0 = c.as_str.ensures.value in
    here ∙ named_later name e _ (ap (is_same_name name) (sym key) ∙ sym c.same_name.ensures ∙ c.if-same_name.false)
