use Rattle.std.proofs.Common.{◌≡◌, drop}
use Rattle.scim_policy.specs.code.Asked.{may_have_some}
use Rattle.scim_policy.proofs.asked_texts.AskedTexts.may_have_some.Given as goal

-- the answer for the texts that are left is that for all
abbrev pub invariant-loop-text : goal.invariant-loop-text
invariant-loop-text l = may_have_some l.self (drop l.text-index l.needed) ≡ may_have_some l.self l.needed
