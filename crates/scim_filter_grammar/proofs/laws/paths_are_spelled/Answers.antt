use Rattle.scim_filter_grammar.proofs.FunctionLemmas.{paths_are_spelled}
use Rattle.scim_filter_grammar.proofs.laws.paths_are_spelled.Goals as goal

pub returns : goal.returns
returns c = paths_are_spelled
