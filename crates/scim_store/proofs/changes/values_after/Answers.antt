use Rattle.std.proofs.Common.{◌≡◌, sym, ◌∙◌, ap, rules, not, ◌&&◌, [], length}
use Rattle.std.proofs.lemmas.Bool.{eqb-true}
use Rattle.std.proofs.lemmas.List.{nil_from_length}
use Rattle.std.proofs.lemmas.Result.{IfOk-weaker}
use Rattle.scim_shelf.specs.Members.{is_value_of}
use Rattle.scim_store_rows.specs.Stands.{is_among}
use Rattle.scim_store.proofs.ValueLemmas.{lacking_unshared}
use Rattle.scim_store.proofs.changes.values_after.Goals as goal

pub returns-then-is_empty-clause-listed : goal.returns-then-is_empty-clause-listed
returns-then-is_empty-clause-listed c = λ v.
    let unshared = c.unshared_values-unshared.result.now in
    let others = c.args.others.now in
    let none : unshared ≡ [] = nil_from_length unshared (eqb-true (length unshared) 0 (sym c.is_empty.ensures ∙ c.if-is_empty.true)) in
    let empty : c.new.result.items ≡ [] = search rules in
    ap (is_among v) empty
    ∙ (λ i. is_value_of v (sym none i) && not (is_value_of v others))
    ∙ lacking_unshared v c.args.members.now others unshared (rw c.of-leaf.ensures at (c.unshared_values-unshared.ensures v))

pub returns-clause-listed : goal.returns-clause-listed
returns-clause-listed c =
    IfOk-weaker c.copies_of.result _ _ (λ copies listed v.
    listed v
    ∙ c.remove_member_values.ensures v
    ∙ (λ i. c.in_ok-values.ensures v i && not (is_value_of v c.args.others.now))
    ∙ lacking_unshared v c.args.members.now c.args.others.now c.unshared_values-unshared.result.now (rw c.of-leaf.ensures at (c.unshared_values-unshared.ensures v))) c.copies_of.ensures.listed
