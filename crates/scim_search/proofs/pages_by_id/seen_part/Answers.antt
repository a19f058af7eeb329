use Rattle.std.proofs.lemmas.Result.{IfOk-weaker}
use Rattle.scim_view.specs.View.{viewer_of}
use Rattle.scim_search.proofs.pages_by_id.seen_part.Goals as goal

pub returns-in-Some-clause-part : goal.returns-in-Some-clause-part
returns-in-Some-clause-part g c =
    IfOk-weaker c.view_beside.result _ _
    (λ part answer store stands honest base is tells. answer store stands honest base is (c.in-Some.ensures (viewer_of c.args.viewer.now) c.requires) tells)
    c.view_beside.ensures.part

pub returns-in_ok-own-in-None-clause-part : goal.returns-in_ok-own-in-None-clause-part
returns-in_ok-own-in-None-clause-part g c =
    IfOk-weaker c.view_beside-in-None.result _ _
    (λ part answer store stands honest base is tells. answer store stands honest base is (c.in_ok-own-in-None.ensures c.requires) tells)
    c.view_beside-in-None.ensures.part
