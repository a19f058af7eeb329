use Rattle.scim_command_database.proofs.importing.import.Goals as goal

pub returns-in-Ok-clause-kept : goal.returns-in-Ok-clause-kept
returns-in-Ok-clause-kept g c clean =
    let made = c.in-Ok.ensures.made clean in
    (made.0, made.2.store, made.1, made.2.is_new, record { stands = λ _. made.2.stands; settled = λ _. made.2.settled })

pub returns-in-Ok-clause-is_open : goal.returns-in-Ok-clause-is_open
returns-in-Ok-clause-is_open g c clean = (c.in-Ok.ensures.made clean).2.is_open
