use Rattle.std.proofs.Common.{◌≡◌, ◌++◌, map, drop, string_bytes}
use Rattle.scim_policy_sentences.specs.Lists.{further}
use Rattle.scim_policy_sentences.proofs.lists.push_further.Given as goal

-- the text so far, and the words from this one on, are the text at first and all words
abbrev pub invariant-loop-index : goal.invariant-loop-index
invariant-loop-index l =
    string_bytes l.text ++ further l.mark l.last (map string_bytes (drop l.index l.words)) ≡ string_bytes l.fn.text ++ further l.mark l.last (map string_bytes l.words)
