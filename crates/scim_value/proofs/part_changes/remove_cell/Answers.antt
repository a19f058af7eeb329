use Rattle.std.proofs.Common.{rules}
use Rattle.std.specs.Prelude.{not}
use Rattle.std.specs.Ordering.{is_eq}
use Rattle.std.proofs.lemmas.Fn.{filter_same}
use Rattle.scim_cell.specs.declared.cells.Cell.{Cell}
use Rattle.scim_cell.specs.Place.{place_cmp}
use Rattle.scim_cell.specs.Content.{place_of}
use Rattle.scim_value.proofs.part_changes.remove_cell.Goals as goal

pub returns : goal.returns
returns c = filter_same _ (λ (x : Cell). not (is_eq (place_cmp (place_of x) c.args.place))) _ (λ x b f' h. (search rules, search rules)) _ _ c.retain.ensures.filtered
