use Rattle.std.proofs.Common.{◌≡◌, ◌++◌}
use Rattle.scim_store.proofs.ValueLemmas.{texts_of}
use Rattle.scim_store.proofs.damage.listed_values.Given as goal

-- those so far, and those that are left
abbrev pub invariant-loop-value : goal.invariant-loop-value
invariant-loop-value l = l.listed.items ++ texts_of l.value-iterator ≡ texts_of l.initial.value-iterator
