use Rattle.std.proofs.Common.{◌≡◌, ◌≤◌, ◌++◌, length, ◌-◌, take, drop}
use Rattle.scim_filter_grammar.specs.Bytes.{is_word_byte, front, behind}
use Rattle.scim_filter_grammar.proofs.bytes.split_word.Given as goal

abbrev pub invariant-loop-end : goal.invariant-loop-end
invariant-loop-end l = record {
  in_range : l.end ≤ length l.bytes;
  word : take l.end l.bytes ++ front is_word_byte (drop l.end l.bytes) ≡ front is_word_byte l.bytes;
  rest : behind is_word_byte (drop l.end l.bytes) ≡ behind is_word_byte l.bytes;
}

abbrev pub decreases-loop-end : goal.decreases-loop-end
decreases-loop-end l = length l.bytes - l.end
