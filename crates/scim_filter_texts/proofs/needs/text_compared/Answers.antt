use Rattle.std.proofs.Common.{◌≡◌, sym, ◌∙◌, ap}
use Rattle.std.specs.Prelude.{Option, Some}
use Rattle.std.specs.Option.{option_eq}
use denote.Enum.Bare.{same_true}
use Rattle.scim_schema.specs.declared.Leaf.{Leaf}
use Rattle.scim_schema.specs.Units.{is_same_leaf}
use Rattle.scim_filter_grammar.specs.declared.tree.Operator.TheVariants.{Eq}
use Rattle.scim_filter_grammar.specs.contracts.tree.Operator.{the_type as the_operator}
use Rattle.scim_filter.specs.Truth.{compares}
use Rattle.scim_filter_texts.proofs.NeededLemmas.{text_stands}
use Rattle.scim_filter_texts.proofs.needs.text_compared.Goals as goal

pub returns-in-Text : goal.returns-in-Text
returns-in-Text c rs holds =
    let operator : c.args.operator ≡ Eq = same_true the_operator tt c.args.operator Eq (sym c.eq.ensures ∙ c.if-eq.true) in
    let leaf = ap (λ (o : Option Leaf). option_eq is_same_leaf o (Some c.args.leaf)) (sym c.compared_leaf.ensures) ∙ sym c.eq-then-eq.ensures ∙ c.if-eq-2.true in
    text_stands c.args.meant c.args.leaf c.in-Text.text rs leaf ((λ i. compares c.args.meant (sym operator i) (sym c.in-Text.is i) rs) ∙ holds)
