use Rattle.std.proofs.Common.{◌≡◌, ◌++◌, map, take, string_bytes}
use Rattle.scim_policy_sentences.specs.Sentences as spec
use Rattle.scim_policy_sentences.proofs.sentences.push_filtered.Given as goal

-- the words so far are those at first, and those of the paths before this one
abbrev pub invariant-loop-path : goal.invariant-loop-path
invariant-loop-path l = map string_bytes l.words.items ≡ map string_bytes l.fn.words.items ++ map spec.filtered_word (take l.path-index l.paths)
