use Rattle.std.proofs.Common.{◌≡◌, ◌++◌, drop, map}
use denote.Ref.{Bor}
use Rattle.scim_policy.specs.Rules.{FilteredPath}
use Rattle.scim_policy.specs.code.ValueWalk.{matched_in}
use Rattle.scim_policy.proofs.patterns.matched_in.Given as goal

abbrev pub invariant-loop-path : goal.invariant-loop-path
invariant-loop-path l =
    map (λ (p : Bor FilteredPath). p.now) l.matched.items ++ matched_in l.value (drop l.path-index l.paths) ≡ matched_in l.value l.paths
