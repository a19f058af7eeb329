use Rattle.std.proofs.Common.{◌≡◌, ◌+◌, List, [], drop, map}
use Rattle.scim_token.specs.TokenFile.{Entry, entries_from}
use Rattle.scim_token.specs.Tokens.{Knows}
use Rattle.scim_token.proofs.token_table.Tokens.of_lines.Given as goal

-- the entries of the lines so far are known
abbrev pub invariant-loop-index : goal.invariant-loop-index
invariant-loop-index l = (known : List Entry) × Knows known l.tokens × (entries_from 1 [] (map (λ x. x.now) l.lines) ≡ entries_from (l.index + 1) known (map (λ x. x.now) (drop l.index l.lines)))
