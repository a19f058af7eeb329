use Rattle.std.proofs.Common.{◌≡◌, ◌≤◌, ◌++◌, length, ◌-◌, take, drop}
use Rattle.scim_filter_grammar.specs.Bytes.{is_no_colon, front}
use Rattle.scim_filter_grammar.proofs.bytes.before_colon.Given as goal

abbrev pub invariant-loop-end : goal.invariant-loop-end
invariant-loop-end l = record {
  in_range : l.end ≤ length l.bytes;
  word : take l.end l.bytes ++ front is_no_colon (drop l.end l.bytes) ≡ front is_no_colon l.bytes;
}

abbrev pub decreases-loop-end : goal.decreases-loop-end
decreases-loop-end l = length l.bytes - l.end
