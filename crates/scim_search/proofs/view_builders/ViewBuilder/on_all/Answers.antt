use Rattle.scim_view.specs.View.{viewer_of}
use Rattle.scim_search.proofs.view_builders.ViewBuilder.on_all.Goals as goal

pub returns : goal.returns
returns c groups is = c.on_all.ensures (viewer_of c.args.self.now.viewer.now) is.patterns
