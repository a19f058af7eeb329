use Rattle.scim_explain.proofs.LawLemmas as laws
use Rattle.scim_explain.proofs.laws.each_earlier_rule_has_its_entry.Goals as goal

pub returns-clause-as_many : goal.returns-clause-as_many
returns-clause-as_many c = laws.as_many

pub returns-clause-own : goal.returns-clause-own
returns-clause-own c = laws.own_entries

pub returns-clause-unfit : goal.returns-clause-unfit
returns-clause-unfit c = laws.none_fits_wholly
