use Rattle.std.proofs.Common.{refl}
use Rattle.scim_view.specs.View.{viewer_of}
use Rattle.scim_search.proofs.VisitLemmas.{ok_by}
use Rattle.scim_search.proofs.visitors.GroupVisitorVisitor.take.Goals as goal

pub returns-in-Some : goal.returns-in-Some
returns-in-Some c =
    ok_by c.push.result _ _
    (λ index. record {
      viewer = refl;
      patterns = refl;
      index = λ groups are is. index (viewer_of c.args.self.now.viewer.now) groups (c.in-Some.ensures (viewer_of c.args.self.now.viewer.now) are) is;
    })
    c.push.ensures
