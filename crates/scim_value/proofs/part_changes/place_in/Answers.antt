use Rattle.std.proofs.Common.{rules}
use Rattle.std.proofs.lemmas.Fn.{always_returns_same}
use Rattle.scim_cell.specs.declared.cells.Cell.{Cell}
use Rattle.scim_cell.specs.Place.{place_cmp}
use Rattle.scim_cell.specs.Content.{place_of}
use Rattle.scim_value.proofs.part_changes.place_in.Goals as goal

pub returns-clause-searched : goal.returns-clause-searched
returns-clause-searched c =
    c.binary_search_by.ensures.position (λ (y : Cell). place_cmp (place_of y) c.args.place)
    (always_returns_same _ _ _ (λ a r f' h. (search rules, search rules)))
