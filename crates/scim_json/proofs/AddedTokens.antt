-- Tokens that are added one after another.
use Rattle.std.proofs.Common.{◌∙◌, ap, List, ◌++◌, append_assoc}
use Rattle.json.specs.Token.{Token}
use Rattle.json.specs.Written.{Written}
use Rattle.scim_json.specs.Tokens.{Adds}

pub added : (a b c : Written) (xs ys : List Token) → Adds a b xs → Adds b c ys → Adds a c (xs ++ ys)
added a b c xs ys first then_ = (then_.0 ∙ first.0, then_.1 ∙ ap (λ (ts : List Token). ts ++ ys) first.1 ∙ append_assoc a.tokens xs ys)
