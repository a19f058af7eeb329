use Rattle.std.proofs.Common.{sym}
use Rattle.serde_json.specs.Read.{max_depth}
use Rattle.serde_json.specs.View.{view, items_view}
use Rattle.scim_foreign_users.proofs.ExportLemmas.{items_shallow}
use Rattle.scim_foreign_users.proofs.exports.items_of_export.Goals as goal

pub texts_of-requires : goal.texts_of-requires
texts_of-requires c = items_shallow (view c.in-Ok.value) (items_view c.in-Some.items.now) max_depth (sym c.in-Some.ensures) c.in-Ok.ensures.nests
