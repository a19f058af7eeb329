use Rattle.scim_filter_grammar.proofs.WrittenPathLemmas.{one_path_is_spelled}
use Rattle.scim_filter_grammar.proofs.laws.one_path_is_spelled.Goals as goal

pub returns : goal.returns
returns c = one_path_is_spelled
