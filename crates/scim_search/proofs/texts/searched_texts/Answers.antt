use Rattle.std.proofs.Common.{subst, List}
use Rattle.std.specs.Prelude.{Option, IfSome, Vec}
use Rattle.std.specs.declared.alloc.Global.{Global}
use Rattle.scim_schema.specs.declared.Leaf.{Leaf}
use Rattle.scim_filter_texts.specs.declared.needs.NeededText.{NeededText}
use Rattle.scim_filter_texts.specs.Needed.{AreAt}
use Rattle.scim_query.specs.Needed.{NeedsSome}
use Rattle.scim_search.specs.Walks.{AreCompared}
use Rattle.scim_search.proofs.SomeTextLemmas.{only_with_some}
use Rattle.scim_search.proofs.texts.searched_texts.Goals as goal

pub returns-in_ok-compared_texts-in-Some : goal.returns-in_ok-compared_texts-in-Some
returns-in_ok-compared_texts-in-Some c =
    let needs = c.in-Some.needed.items in
    let texts = c.in_ok-compared_texts-in-Some.field-0.items in
    let filter = c.args.query.now.filter in
    let at = subst (λ (o : Option (Vec NeededText Global)). IfSome o (λ ts. AreAt c.indexed_leaves.result.now ts.items)) c.in-Some.is c.in_ok-needed.ensures.leaves in
    let some = subst (λ (o : Option (Vec NeededText Global)). IfSome o (λ ts. NeedsSome filter ts.items)) c.in-Some.is c.in_ok-needed.ensures.needed in
    only_with_some c.args.kind filter needs texts (subst (λ (ls : List Leaf). AreAt ls needs) c.indexed_leaves.ensures at) some
    (subst (λ (ts : List NeededText). AreCompared ts texts) c.as_slice.ensures.value c.in_ok-compared_texts-in-Some.ensures)
