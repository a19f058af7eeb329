use Rattle.std.proofs.Common.{◌≡◌, length}
use Rattle.scim_service.proofs.answering_turns.reserved.Given as goal

abbrev pub invariant-loop : goal.invariant-loop
invariant-loop l = length l.placeholders.items ≡ l.counter
