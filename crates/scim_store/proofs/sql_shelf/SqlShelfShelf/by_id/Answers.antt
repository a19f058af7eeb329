use Rattle.scim_store.proofs.sql_shelf.SqlShelfShelf.by_id.Goals as goal

pub returns-clause-spares : goal.returns-clause-spares
returns-clause-spares g c = c.find_by_id-found.ensures.spares
