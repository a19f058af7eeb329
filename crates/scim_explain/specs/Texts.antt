-- The text of an explanation.
use Rattle.std.specs.Prelude.{ℕ, Bool, List, ◌++◌, codes, decimal, if◌then◌else◌}
use Rattle.std.specs.List.{flat_map, enumerate_from}
use Rattle.scim_policy.specs.declared.misfits.Misfit.{Misfit}
use Rattle.scim_policy.specs.declared.misfits.Misfit.TheVariants as misfit
use Rattle.scim_explain.specs.declared.explanations.Earlier.{Earlier}
use Rattle.scim_explain.specs.declared.explanations.Earlier.TheVariants as earlier
use Rattle.scim_explain.specs.Explain.{Explanation}

-- the word for the part of a rule that doesn't fit
abbrev pub misfit_word : Misfit → List ℕ
misfit_word misfit.Client = codes "client"
misfit_word misfit.Op = codes "op"
misfit_word misfit.Kind = codes "type"
misfit_word misfit.Path = codes "path"
misfit_word misfit.Target = codes "target"

-- the word `allow` or `deny`
abbrev pub effect_word : Bool → List ℕ
effect_word allow = if allow then codes "allow" else codes "deny"

-- the line for the rule with this number: `rule N: `, a word or sentence about the rule, and a line feed
abbrev pub rule_line : ℕ → List ℕ → List ℕ
rule_line number word = codes "rule " ++ decimal number ++ codes ": " ++ word ++ codes "\n"

-- the words for a rule before the deciding one: the part that doesn't fit, or how it decides in part
abbrev pub entry_word : Earlier → List ℕ
entry_word (earlier.Misfit misfit) = misfit_word misfit
entry_word (earlier.InPart allow) = effect_word allow ++ codes " in part"

-- a line for each entry; the first entry is of the rule with the number `first`, the next of the next rule
abbrev pub entry_lines : ℕ → List Earlier → List ℕ
entry_lines first entries = flat_map (λ (numbered : ℕ × Earlier). rule_line numbered.0 (entry_word numbered.1)) (enumerate_from first entries)

-- the text of an explanation: a line for each entry, and one for the decision
abbrev pub explanation_text : Explanation → List ℕ
explanation_text e = entry_lines 1 e.entries ++ rule_line e.decision.rule (effect_word e.decision.allow)
