use Rattle.std.proofs.Common.{◌≡◌, length}
use Rattle.scim_policy_file.proofs.FileLemmas.{AreRead}
use Rattle.scim_policy_file.proofs.policy_files.read_rules.Given as goal

-- the rules so far are those before this one
abbrev pub invariant-loop-value : goal.invariant-loop-value
invariant-loop-value l = (l.number ≡ l.value-index) × (length l.rules.items ≡ l.value-index) × AreRead l.version l.rules.items l.value-index l.values
