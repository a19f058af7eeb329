use Rattle.std.specs.Prelude.{filter}
use Rattle.scim_shelf.specs.Stores.{is_group_with}
use Rattle.scim_store_rows.proofs.Facts.{took_nothing}
use Rattle.scim_store.proofs.sql_shelf.SqlShelfShelf.groups_with.Goals as goal

pub returns-in_err-groups-clause-prefix : goal.returns-in_err-groups-clause-prefix
returns-in_err-groups-clause-prefix g c = λ failed store stands honest. took_nothing g.V.Visitor.takes (filter (is_group_with c.args.value.now) store.resources) c.args.visitor.now

pub returns-in_err-groups-clause-spares : goal.returns-in_err-groups-clause-spares
returns-in_err-groups-clause-spares g c = c.find_groups_with-found.ensures.spares
