use Rattle.std.proofs.Common.{◌≡◌, map}
use Rattle.scim_view.specs.Shown.{shown}
use Rattle.scim_query.proofs.shown_pages.shown_items.Given as goal

abbrev pub invariant-loop-part : goal.invariant-loop-part
invariant-loop-part l = l.items.items ≡ map (shown l.wanted) l.yielded
