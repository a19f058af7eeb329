use Rattle.std.proofs.Common.{◌≡◌, drop, map}
use Rattle.std.specs.List.{list_any}
use denote.Ref.{Bor}
use Rattle.scim_policy.specs.Rules.{FilteredPath}
use Rattle.scim_policy.specs.Fits.{covers_in_part}
use Rattle.scim_policy.proofs.patterns.covers_one.Given as goal

abbrev pub invariant-loop-path : goal.invariant-loop-path
invariant-loop-path l =
    list_any (covers_in_part l.leaf) (map (λ (p : Bor FilteredPath). p.now) (drop l.path-index l.paths)) ≡ list_any (covers_in_part l.leaf) (map (λ (p : Bor FilteredPath). p.now) l.paths)
