use Rattle.std.proofs.Common.{◌≡◌, ◌==◌, length, rules, sym, ap, ◌∙◌}
use Rattle.scim_body.proofs.Views.{view-Array}
use Rattle.scim_body.specs.View.{view}
use Rattle.scim_body.specs.BodyValues.{is_absent}
use Rattle.scim_body.proofs.BodyLemmas.{absent_items}
use Rattle.scim_body.proofs.absent_values.is_absent.Goals as goal

pub returns-in-Array : goal.returns-in-Array
returns-in-Array c =
    let none : c.is_empty.result ≡ (length c.in-Array.items.items == 0) = search rules in
    let seen = ap view c.in-Array.is ∙ view-Array c.in-Array.items in
    none ∙ absent_items c.in-Array.items.items ∙ ap is_absent (sym seen)
