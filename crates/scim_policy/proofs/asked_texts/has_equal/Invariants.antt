use Rattle.std.proofs.Common.{◌≡◌, drop}
use Rattle.scim_policy.specs.code.Asked.{has_equal}
use Rattle.scim_policy.proofs.asked_texts.has_equal.Given as goal

-- the answer for the texts that are left is that for all
abbrev pub invariant-loop-own : goal.invariant-loop-own
invariant-loop-own l = has_equal (drop l.own-index l.texts) l.leaf l.text ≡ has_equal l.texts l.leaf l.text
