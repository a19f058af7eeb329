use Rattle.scim_store.proofs.importing.insert_users.Goals as goal

pub returns-clause-does : goal.returns-clause-does
returns-clause-does g c = c.insert_all.ensures.does c.args.base.now c.args.users.now c.in_ok-documents.ensures.begun

pub returns-clause-faults : goal.returns-clause-faults
returns-clause-faults g c = c.insert_all.ensures.faults c.args.base.now c.args.users.now c.in_ok-documents.ensures.begun
