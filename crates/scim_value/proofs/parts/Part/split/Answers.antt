use Rattle.std.proofs.Common.{◌≡◌, sym, subst, List}
use Rattle.std.specs.Prelude.{AllPairs}
use Rattle.scim_cell.specs.Rows.{Row, Precedes}
use Rattle.scim_value.proofs.OfLemmas.{sound_part}
use Rattle.scim_value.proofs.parts.Part.split.Goals as goal

pub split_rows-requires : goal.split_rows-requires
split_rows-requires c = subst (AllPairs (λ (r : Row) (s : Row). Precedes r.unit s.unit)) (sym c.rows.ensures.rows) (sound_part c.args.self.now c.rows.ensures.valid).in_order
