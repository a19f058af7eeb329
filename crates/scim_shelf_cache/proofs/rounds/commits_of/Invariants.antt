use Rattle.std.proofs.Common.{take}
use Rattle.scim_shelf_cache.specs.code.Rounds.{AreCommitsOf}
use Rattle.scim_shelf_cache.proofs.rounds.commits_of.Given as goal

-- the first commits are listed
abbrev pub invariant-loop-one : goal.invariant-loop-one
invariant-loop-one l = AreCommitsOf (take l.one-index l.own) l.commits.items
