use Rattle.std.proofs.Common.{◌≡◌, map, take, string_bytes}
use Rattle.scim_schema.specs.Names.{op_name}
use Rattle.scim_policy_sentences.proofs.sentences.ops_text.Given as goal

-- the words so far are those of the ops before this one
abbrev pub invariant-loop-op : goal.invariant-loop-op
invariant-loop-op l = map string_bytes l.words.items ≡ map op_name (take l.op-index l.ops)
