use Rattle.std.proofs.lemmas.Bool.Decides.{same_from_decides}
use Rattle.std.proofs.lemmas.Str.Pattern.{contains_text as text_found}
use Rattle.scim_filter.proofs.ContainsLemmas.{contains_text-Decides}
use Rattle.scim_filter.proofs.comparisons.contains.Goals as goal

pub returns : goal.returns
returns c = same_from_decides _ _ (text_found c.contains.result c.args.part.now c.args.text.now c.contains.ensures.cases) (contains_text-Decides c.args.text.now c.args.part.now)
