use Rattle.std.proofs.lemmas.Result.{IfOk-weaker}
use Rattle.scim_view.specs.View.{viewer_of}
use Rattle.scim_search.proofs.shown_items.ItemBuilder.item.Goals as goal

pub returns-in-Some : goal.returns-in-Some
returns-in-Some c =
    IfOk-weaker c.item_by.result _ _
    (λ item made cs gathered builder found listed.
    made gathered (c.in-Some.ensures (viewer_of c.args.self.now.viewer.now) c.args.self.now.kind cs builder.patterns builder.cached found) listed)
    c.item_by.ensures

pub returns-in_ok-patterns-in-None : goal.returns-in_ok-patterns-in-None
returns-in_ok-patterns-in-None c =
    IfOk-weaker c.item_by-in-None.result _ _
    (λ item made cs gathered builder found listed. made gathered (c.in_ok-patterns-in-None.ensures builder.patterns) listed)
    c.item_by-in-None.ensures
