use Rattle.std.proofs.Common.{◌≡◌, length}
use Rattle.case_imports.proofs.export_calls.fresh_ids.Given as goal

-- an id for each item so far
abbrev pub invariant-loop-index : goal.invariant-loop-index
invariant-loop-index l = length l.ids.items ≡ l.index
