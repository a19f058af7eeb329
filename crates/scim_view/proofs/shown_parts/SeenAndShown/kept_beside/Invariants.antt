use Rattle.std.proofs.Common.{◌≡◌, take, map}
use Rattle.scim_cell.specs.declared.rows.Field.{Field}
use Rattle.scim_policy.specs.PatternTable.{rules_in}
use Rattle.scim_view.specs.View.{decision_in}
use Rattle.scim_view.specs.code.ShownCells.{seen_and_shown}
use Rattle.scim_view.proofs.shown_parts.SeenAndShown.kept_beside.Given as goal

abbrev pub invariant-loop-index : goal.invariant-loop-index
invariant-loop-index l =
    l.kept.items ≡ map (λ (f : Field). seen_and_shown (decision_in (rules_in l.self.seen.patterns.now)) l.self.seen.kind l.self.wanted.now l.row f.leaf) (take l.index l.row.fields)
