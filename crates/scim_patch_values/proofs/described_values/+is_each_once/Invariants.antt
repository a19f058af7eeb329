use Rattle.std.proofs.Common.{length}
use Rattle.scim_patch_values.proofs.described_values.+is_each_once.Given as goal

abbrev pub decreases-is_each_once : goal.decreases-is_each_once
decreases-is_each_once l = length l.fields.now
