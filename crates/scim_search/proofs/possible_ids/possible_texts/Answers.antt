use Rattle.std.proofs.Common.{◌∙◌, subst}
use Rattle.std.specs.Prelude.{Option, IfSome, Vec}
use Rattle.std.specs.declared.alloc.Global.{Global}
use Rattle.scim_filter_texts.specs.declared.needs.NeededText.{NeededText}
use Rattle.scim_filter_texts.specs.Needed.{AreAt}
use Rattle.scim_search.proofs.PossibleIdLemmas.{at_possible}
use Rattle.scim_search.proofs.possible_ids.possible_texts.Goals as goal

pub returns-in-Some-clause-leaves : goal.returns-in-Some-clause-leaves
returns-in-Some-clause-leaves c =
    let leaves = c.as_slice.result.now in
    let at = subst (λ (o : Option (Vec NeededText Global)). IfSome o (λ ts. AreAt leaves ts.items)) c.in-Some.is c.in_ok-texts.ensures.leaves in
    at_possible c.args.kind leaves c.in-Some.texts.items (c.as_slice.ensures.value ∙ c.in_ok-own.ensures) at
