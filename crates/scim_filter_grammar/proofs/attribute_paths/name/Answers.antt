use Rattle.std.proofs.Common.{sym, ◌∙◌}
use Rattle.scim_filter_grammar.proofs.NameLemmas.{name_utf8}
use Rattle.scim_filter_grammar.proofs.attribute_paths.name.Goals as goal

pub returns-in-Err : goal.returns-in-Err
returns-in-Err c = absurd (c.in-Err.ensures.cases.0 (name_utf8 c.args.word.now (sym c.is_name_at.ensures ∙ c.if-not-is_name_at.false)))
