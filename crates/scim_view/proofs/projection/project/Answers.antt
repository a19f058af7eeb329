use Rattle.std.proofs.Common.{sym, ◌∙◌}
use Rattle.scim_view.specs.Shown.{shown}
use Rattle.scim_view.proofs.ShownLemmas.{shown_whole}
use Rattle.scim_view.proofs.projection.project.Goals as goal

pub returns-then-shows_all : goal.returns-then-shows_all
returns-then-shows_all c =
    shown_whole c.args.wanted.now c.args.visible c.rows.ensures.valid (sym (rw (c.rows.ensures.rows, c.kind.ensures) at c.shows_all.ensures) ∙ c.if-shows_all.true)

pub returns-else-shows_all : goal.returns-else-shows_all
unfolding shown
returns-else-shows_all c = rw c.kind.ensures at c.restrict.ensures.whole
