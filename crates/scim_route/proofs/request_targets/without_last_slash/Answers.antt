use Rattle.std.proofs.Common.{◌∙◌, ap, arith, List, ℕ, Bor}
use Rattle.std.proofs.lemmas.Str.Pattern.{strip_suffix_char}
use Rattle.scim_route.proofs.SlashLemmas.{stripped}
use Rattle.scim_route.proofs.request_targets.without_last_slash.Goals as goal

pub returns : goal.returns
returns c =
    let found = strip_suffix_char 47 c.args.text.now c.strip_suffix.result c.strip_suffix.ensures.cases (omega arith) in
    ap (λ (b : Bor (List ℕ)). b.now) c.unwrap_or.ensures ∙ stripped c.args.text c.strip_suffix.result found
