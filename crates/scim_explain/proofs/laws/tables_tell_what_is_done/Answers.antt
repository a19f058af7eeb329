use Rattle.scim_explain.proofs.TableLemmas as tables
use Rattle.scim_explain.proofs.laws.tables_tell_what_is_done.Goals as goal

pub returns-clause-read : goal.returns-clause-read
returns-clause-read c = tables.what_is_read

pub returns-clause-modify : goal.returns-clause-modify
returns-clause-modify c = tables.what_is_modified

pub returns-clause-create : goal.returns-clause-create
returns-clause-create c = tables.what_is_created

pub returns-clause-delete : goal.returns-clause-delete
returns-clause-delete c = tables.what_is_deleted
