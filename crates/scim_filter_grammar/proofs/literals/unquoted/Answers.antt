use Rattle.std.proofs.Common.{◌∙◌, ap, Some}
use Rattle.std.proofs.lemmas.Bool.{false≢true}
use Rattle.serde_json.specs.View.{view}
use Rattle.scim_filter_grammar.proofs.LiteralLemmas.{string_ok, string_err}
use Rattle.scim_filter_grammar.proofs.literals.unquoted.Goals as goal

pub returns-in-Some : goal.returns-in-Some
returns-in-Some c = string_ok c.args.string.now c.in_ok-copy_of-in-Some.field-0 (view c.in-Ok.value) c.in-Ok.ensures.ok.0 c.in-Ok.ensures.ok.1 (ap Some c.in_ok-copy_of-in-Some.ensures ∙ c.in-Some.ensures)

pub returns : goal.returns
returns c = string_err c.args.string.now (c.in-Err.ensures.err (λ m. false≢true (c.if-is_memory.ensures.1 m)))
