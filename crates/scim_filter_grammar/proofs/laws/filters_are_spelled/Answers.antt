use Rattle.scim_filter_grammar.proofs.FunctionLemmas.{filters_are_spelled}
use Rattle.scim_filter_grammar.proofs.laws.filters_are_spelled.Goals as goal

pub returns : goal.returns
returns c = filters_are_spelled
