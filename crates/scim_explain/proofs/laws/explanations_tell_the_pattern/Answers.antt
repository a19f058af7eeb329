use Rattle.scim_explain.proofs.PartLemmas as parts
use Rattle.scim_explain.proofs.laws.explanations_tell_the_pattern.Goals as goal

pub returns-clause-reading : goal.returns-clause-reading
returns-clause-reading c = parts.tells_pattern

pub returns-clause-others : goal.returns-clause-others
returns-clause-others c = parts.none_in_part
