use Rattle.std.proofs.Common.{sym, ◌∙◌}
use Rattle.scim_filter_grammar.proofs.NameLemmas.{urn_utf8}
use Rattle.scim_filter_grammar.proofs.attribute_paths.urn.Goals as goal

pub returns-in-Err : goal.returns-in-Err
returns-in-Err c = absurd (c.in-Err.ensures.cases.0 (urn_utf8 c.in-Some.before.now (sym c.is_urn_at.ensures ∙ c.if-not-is_urn_at.false)))
