use Rattle.std.proofs.Common.{◌≡◌, ◌≤◌, ◌++◌, length, ◌-◌, take, drop}
use Rattle.scim_filter_grammar.specs.Bytes.{front, behind}
use Rattle.scim_filter_grammar.specs.code.Cuts.{is_no_dot}
use Rattle.scim_filter_grammar.proofs.bytes.split_name.Given as goal

abbrev pub invariant-loop-end : goal.invariant-loop-end
invariant-loop-end l = record {
  in_range : l.end ≤ length l.bytes;
  word : take l.end l.bytes ++ front is_no_dot (drop l.end l.bytes) ≡ front is_no_dot l.bytes;
  rest : behind is_no_dot (drop l.end l.bytes) ≡ behind is_no_dot l.bytes;
}

abbrev pub decreases-loop-end : goal.decreases-loop-end
decreases-loop-end l = length l.bytes - l.end
