use Rattle.std.proofs.Common.{◌≡◌, ◌++◌}
use Rattle.scim_store.proofs.ValueLemmas.{texts_of}
use Rattle.scim_store.proofs.changes.copies_of.Given as goal

-- those so far, and those that are left, are the ones of the set
abbrev pub invariant-loop-text : goal.invariant-loop-text
invariant-loop-text l = l.copies.items ++ texts_of l.text-iterator ≡ texts_of l.texts.keys
