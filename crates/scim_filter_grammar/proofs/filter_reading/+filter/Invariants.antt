use Rattle.std.proofs.Common.{length, ◌+◌, ◌*◌}
use Rattle.scim_filter_grammar.proofs.filter_reading.+filter.Given as goal

abbrev pub decreases-behind_path : goal.decreases-behind_path
decreases-behind_path l = 9 * length l.bytes.now

abbrev pub decreases-worded : goal.decreases-worded
decreases-worded l = 9 * length l.bytes.now + 1

abbrev pub decreases-term : goal.decreases-term
decreases-term l = 9 * length l.bytes.now + 2

abbrev pub decreases-conjunction : goal.decreases-conjunction
decreases-conjunction l = 9 * length l.bytes.now + 3

abbrev pub decreases-disjunction : goal.decreases-disjunction
decreases-disjunction l = 9 * length l.bytes.now + 4

abbrev pub decreases-filter : goal.decreases-filter
decreases-filter l = 9 * length l.bytes.now + 5

abbrev pub decreases-enclosed : goal.decreases-enclosed
decreases-enclosed l = 9 * length l.bytes.now + 6

abbrev pub decreases-listed : goal.decreases-listed
decreases-listed l = 9 * length l.bytes.now + 7
