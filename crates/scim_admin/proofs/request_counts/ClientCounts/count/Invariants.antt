use Rattle.std.proofs.Common.{◌≤◌, vec_len}
use Rattle.scim_admin.proofs.request_counts.ClientCounts.count.Given as goal

abbrev pub invariant-loop-index : goal.invariant-loop-index
invariant-loop-index l = l.index-end ≤ vec_len l.self.counts
