use Rattle.std.proofs.Common.{◌≡◌, drop}
use Rattle.scim_body.specs.View.{items_view}
use Rattle.scim_foreign_users.specs.Items.{has_urn}
use Rattle.scim_foreign_users.proofs.items.has_urn.Given as goal

-- the later values tell
abbrev pub invariant-loop-value : goal.invariant-loop-value
invariant-loop-value l = has_urn l.urn (items_view l.values) ≡ has_urn l.urn (items_view (drop l.value-index l.values))
