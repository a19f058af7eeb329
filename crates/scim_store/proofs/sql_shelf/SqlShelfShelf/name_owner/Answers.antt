use Rattle.scim_store.proofs.sql_shelf.SqlShelfShelf.name_owner.Goals as goal

pub returns-clause-spares : goal.returns-clause-spares
returns-clause-spares g c = c.find_owner_of_name-found.ensures.spares
