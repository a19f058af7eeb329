use Rattle.std.proofs.Common.{◌≡◌, ◌∙◌, refl, sym, ap, false, None, Some}
use Rattle.std.specs.Prelude.{not, is_some}
use Rattle.scim_policy.specs.Table.{in_attribute}
use Rattle.scim_policy.proofs.TableLemmas.{name_added, none_of}
use Rattle.scim_policy.proofs.decisions.AttributeDecisions.add_alone.Goals as goal

pub returns-in_ok-push : goal.returns-in_ok-push
returns-in_ok-push c =
    let undecided : is_some c.decided.result ≡ false = c.is_none.ensures ∙ ap not c.if-is_none.true in
    let none : in_attribute (Some c.args.sub_attribute) c.args.self.now ≡ None = sym c.decided.ensures ∙ none_of _ undecided in
    name_added c.args.self.now (record { sub_attributes = c.push.new.values; whole = c.args.self.now.whole }) c.args.sub_attribute c.args.decision none c.in_ok-push.ensures.items refl
