use Rattle.std.proofs.Common.{◌∙◌, ◌++◌, string_bytes}
use Rattle.std.specs.Prelude.{codes}
use Rattle.scim_policy_warnings.proofs.TextLemmas.{five_parts}
use Rattle.scim_policy_warnings.proofs.texts.warning_words.Goals as goal

pub returns : goal.returns
returns c =
    c.in_ok-format.ensures.ok
    ∙ five_parts c.client_words-client.result.now (codes " ") (string_bytes c.in_ok-lost.lost) (codes ": ") (string_bytes c.in_ok-reason.reason)
    ∙ (λ i. c.client_words-client.ensures i ++ codes " " ++ c.in_ok-lost.ensures i ++ codes ": " ++ c.in_ok-reason.ensures i)
