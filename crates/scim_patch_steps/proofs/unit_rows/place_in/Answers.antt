use Rattle.std.proofs.Common.{rules}
use Rattle.std.proofs.lemmas.Fn.{always_returns_same}
use Rattle.scim_cell.specs.Place.{unit_cmp}
use Rattle.scim_patch_steps.specs.declared.unit_rows.UnitRows.{UnitRows}
use Rattle.scim_patch_steps.proofs.unit_rows.place_in.Goals as goal

pub returns-clause-searched : goal.returns-clause-searched
returns-clause-searched c =
    c.binary_search_by.ensures.position (λ (g : UnitRows). unit_cmp g.unit c.args.unit)
    (always_returns_same _ _ _ (λ a r f' h. (search rules, search rules)))
