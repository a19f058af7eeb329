use Rattle.std.proofs.Common.{◌∙◌}
use Rattle.scim_value.proofs.RowLemmas.{same_part}
use Rattle.scim_value.proofs.OfLemmas.{sound_part}
use Rattle.scim_value.proofs.parts.Part.try_copy.Goals as goal

pub of_rows-requires : goal.of_rows-requires
of_rows-requires c = rw (c.in_ok-rows.ensures, c.kind.ensures, c.rows.ensures.rows) (sound_part c.args.self.now c.rows.ensures.valid)

pub returns : goal.returns
returns c =
    same_part c.of_rows.result c.args.self.now c.of_rows.ensures.valid c.rows.ensures.valid
    (c.of_rows.ensures.kind ∙ c.kind.ensures) (c.of_rows.ensures.id ∙ c.id.ensures) (c.of_rows.ensures.rows ∙ c.in_ok-rows.ensures ∙ c.rows.ensures.rows)
