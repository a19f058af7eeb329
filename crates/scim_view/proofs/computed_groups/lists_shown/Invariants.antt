use Rattle.std.proofs.Common.{◌≡◌, ℕ, List, drop}
use Rattle.std.specs.List.{list_any}
use Rattle.scim_cell.specs.Ids.{id_text}
use Rattle.scim_policy.specs.PatternTable.{rules_in}
use Rattle.scim_view.specs.View.{decision_in}
use Rattle.scim_view.specs.code.Index.{names_shown}
use Rattle.scim_view.proofs.computed_groups.lists_shown.Given as goal

-- the member that is looked for is among the rest if it is among all
abbrev pub invariant-loop-row : goal.invariant-loop-row
invariant-loop-row l =
    (id : List ℕ) → l.member ≡ id_text id
    → list_any (names_shown (decision_in (rules_in l.patterns)) id) (drop l.row-index l.row-items) ≡ list_any (names_shown (decision_in (rules_in l.patterns)) id) l.row-items
