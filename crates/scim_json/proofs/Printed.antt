-- The text of tokens.
use Rattle.serde_json.proofs.Texts.{print-outline}

pub ruleset texts = (print-outline)
