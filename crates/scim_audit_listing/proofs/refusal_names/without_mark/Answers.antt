use Rattle.std.proofs.Common.{◌∙◌, ap, arith, None}
use Rattle.std.proofs.lemmas.Str.Pattern.{strip_prefix_char}
use Rattle.scim_audit_listing.proofs.MarkLemmas.{stripped}
use Rattle.scim_audit_listing.proofs.refusal_names.without_mark.Goals as goal

pub returns-in-None : goal.returns-in-None
returns-in-None c =
    let text = c.args.text in
    ap (λ (t : _). t.now) c.unwrap_or.ensures
    ∙ stripped text c.strip_prefix-in-None.result
    (strip_prefix_char 70 text.now None (rw c.in-None.is at c.strip_prefix.ensures.cases) (omega arith))
    (strip_prefix_char 102 text.now c.strip_prefix-in-None.result c.strip_prefix-in-None.ensures.cases (omega arith))
