use Rattle.std.proofs.Common.{◌≡◌, true, sym, subst}
use Rattle.std.specs.Prelude.{Option, IfSome, Vec}
use Rattle.std.specs.declared.alloc.Global.{Global}
use Rattle.std.proofs.lemmas.List.Elements.{All-append}
use Rattle.scim_filter_grammar.specs.Tree.{Or}
use Rattle.scim_filter_texts.specs.declared.needs.NeededText.{NeededText}
use Rattle.scim_filter_texts.specs.Needed.{AreAt, is_at, NeedsSome}
use Rattle.scim_filter_texts.proofs.NeededLemmas.{either_needs}
use Rattle.scim_filter_texts.proofs.needs.texts_of_either.Goals as goal

pub returns-clause-needed : goal.returns-clause-needed
returns-clause-needed c a b first second =
    let others = subst (λ (o : Option (Vec NeededText Global)). IfSome o (λ texts. NeedsSome b texts.items)) c.in-Some.is second in
    subst (NeedsSome (Or a b)) (sym c.in_ok-append.ensures.items) (either_needs a b c.args.first.items c.in-Some.others.items first others)

pub returns-clause-leaves : goal.returns-clause-leaves
returns-clause-leaves c ls first second =
    let others = subst (λ (o : Option (Vec NeededText Global)). IfSome o (λ texts. AreAt ls texts.items)) c.in-Some.is second in
    subst (AreAt ls) (sym c.in_ok-append.ensures.items) (All-append (λ (t : NeededText). is_at ls t ≡ true) c.args.first.items c.in-Some.others.items first others)
