use Rattle.std.proofs.Common.{◌≡◌, sym, ◌∙◌, ap, subst}
use Rattle.std.specs.Prelude.{Option, IfSome, Vec}
use Rattle.std.specs.declared.alloc.Global.{Global}
use Rattle.std.proofs.lemmas.Option.{IfSome_then}
use Rattle.std.proofs.lemmas.Result.{IfOk-weaker}
use Rattle.scim_filter_grammar.specs.declared.tree.Node.{Node}
use Rattle.scim_filter_grammar.specs.Tree.{Tree, And, Or, view}
use Rattle.scim_filter.specs.Truth.{some_position, truth}
use Rattle.scim_filter_texts.specs.declared.needs.NeededText.{NeededText}
use Rattle.scim_filter_texts.specs.Needed.{AreAt, has_some_text, NeedsSome}
use Rattle.scim_filter_texts.proofs.NeededLemmas.{position_stands, some_text_among}
use Rattle.scim_filter_texts.proofs.needs.+texts_needed.Goals as goal

pub returns-in_ok-texts_needed-in-Some-clause-needed : goal.returns-in_ok-texts_needed-in-Some-clause-needed
returns-in_ok-texts_needed-in-Some-clause-needed t c =
    let a = view c.deref.result.now in
    let b = view c.deref-in-Some.result.now in
    let whole : Or a b ≡ view c.args.node.now = (λ i. Or (view (c.deref.ensures i)) (view (c.deref-in-Some.ensures i))) ∙ ap view (sym c.in-Or.is) in
    let first = subst (λ (o : Option (Vec NeededText Global)). IfSome o (λ texts. NeedsSome a texts.items)) c.in-Some.is c.in_ok-texts-in-Or.ensures.needed in
    IfOk-weaker c.texts_of_either.result _ _
    (λ o either.
    subst (λ (tree : Tree). IfSome o (λ texts. NeedsSome tree texts.items)) whole (either a b first c.in_ok-texts_needed-in-Some.ensures.needed))
    c.texts_of_either.ensures.needed

pub returns-in_ok-texts_needed-in-And-clause-needed : goal.returns-in_ok-texts_needed-in-And-clause-needed
returns-in_ok-texts_needed-in-And-clause-needed t c =
    let a = view c.deref-in-And.result.now in
    let b = view c.deref-in-And-2.result.now in
    let whole : And a b ≡ view c.args.node.now = (λ i. And (view (c.deref-in-And.ensures i)) (view (c.deref-in-And-2.ensures i))) ∙ ap view (sym c.in-And.is) in
    subst (λ (tree : Tree). IfSome c.texts_of_both.result (λ texts. NeedsSome tree texts.items)) whole
    (c.texts_of_both.ensures.needed a b c.in_ok-texts-in-And.ensures.needed c.in_ok-texts_needed-in-And.ensures.needed)

pub returns-in-Values-clause-needed : goal.returns-in-Values-clause-needed
returns-in-Values-clause-needed t c =
    IfOk-weaker c.texts_needed-in-Values.result _ _
    (λ o found.
    IfSome_then o found
    (λ texts needs rs holds.
    position_stands (truth (view c.deref-in-Values.result.now)) (has_some_text texts.items) c.in-Values.field-0.meant rs (λ qs. some_text_among texts.items qs rs) needs
    (ap (λ (n : Node). some_position (truth (view n)) c.in-Values.field-0.meant rs) c.deref-in-Values.ensures ∙ ap (λ (n : Node). truth (view n) rs) (sym c.in-Values.is) ∙ holds)))
    c.texts_needed-in-Values.ensures.needed

pub returns-in_ok-texts_needed-in-Some-clause-leaves : goal.returns-in_ok-texts_needed-in-Some-clause-leaves
returns-in_ok-texts_needed-in-Some-clause-leaves t c =
    let ls = c.args.leaves.now in
    let first = subst (λ (o : Option (Vec NeededText Global)). IfSome o (λ texts. AreAt ls texts.items)) c.in-Some.is c.in_ok-texts-in-Or.ensures.leaves in
    IfOk-weaker c.texts_of_either.result _ _ (λ o either. either ls first c.in_ok-texts_needed-in-Some.ensures.leaves) c.texts_of_either.ensures.leaves
