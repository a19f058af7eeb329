use Rattle.std.proofs.Common.{◌≡◌, take, map}
use Rattle.scim_cell.specs.declared.rows.Field.{Field}
use Rattle.scim_policy.specs.PatternTable.{rules_in}
use Rattle.scim_view.specs.View.{decision_in, may_be_seen}
use Rattle.scim_view.proofs.views.MayBeSeenRowJudge.kept.Given as goal

abbrev pub invariant-loop-index : goal.invariant-loop-index
invariant-loop-index l = l.kept.items ≡ map (λ (f : Field). may_be_seen (decision_in (rules_in l.self.patterns.now)) l.self.kind l.row f.leaf) (take l.index l.row.fields)
