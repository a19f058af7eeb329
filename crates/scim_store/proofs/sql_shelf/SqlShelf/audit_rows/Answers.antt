use Rattle.std.proofs.Common.{rules}
use Rattle.scim_store.proofs.sql_shelf.SqlShelf.audit_rows.Goals as goal

-- by name, so that a body that breaks it is refused at once
pub returns-clause-answer : goal.returns-clause-answer
returns-clause-answer g c = search rules

pub returns-clause-unchanged : goal.returns-clause-unchanged
returns-clause-unchanged g c = search rules

pub returns-clause-spares : goal.returns-clause-spares
returns-clause-spares g c = c.read_audit_rows-read.ensures.spares
