use Rattle.std.proofs.Common.{◌≡◌, ◌++◌, map}
use Rattle.scim_shelf.proofs.TextLemmas.{text_of}
use Rattle.scim_shelf.proofs.indexed_texts.push_all.Given as goal

-- those so far, and those that are left, are the ones of the set
abbrev pub invariant-loop-text : goal.invariant-loop-text
invariant-loop-text l = l.names.items ++ map (text_of l.leaf) l.text-iterator ≡ l.initial.names.items ++ map (text_of l.leaf) l.fn.texts.keys
