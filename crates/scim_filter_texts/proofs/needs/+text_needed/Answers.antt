use Rattle.std.proofs.Common.{sym, ◌∙◌, ap}
use Rattle.std.proofs.lemmas.Option.{IfSome_then}
use Rattle.scim_filter_grammar.specs.declared.tree.Node.{Node}
use Rattle.scim_filter_grammar.specs.Tree.{view}
use Rattle.scim_filter.specs.Truth.{some_position, truth}
use Rattle.scim_filter_texts.specs.Needed.{has_text}
use Rattle.scim_filter_texts.proofs.NeededLemmas.{position_stands, text_among}
use Rattle.scim_filter_texts.proofs.needs.+text_needed.Goals as goal

pub returns-in-Values : goal.returns-in-Values
returns-in-Values t c =
    IfSome_then c.text_needed-in-Values.result c.text_needed-in-Values.ensures
    (λ text needs rs holds.
    position_stands (truth (view c.deref-in-Values.result.now)) (has_text c.args.leaf text.now) c.in-Values.field-0.meant rs (λ qs. text_among c.args.leaf text.now qs rs) needs
    (ap (λ (n : Node). some_position (truth (view n)) c.in-Values.field-0.meant rs) c.deref-in-Values.ensures ∙ ap (λ (n : Node). truth (view n) rs) (sym c.in-Values.is) ∙ holds))
