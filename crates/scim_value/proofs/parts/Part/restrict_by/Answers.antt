use Rattle.scim_cell.specs.Rows.{rows}
use Rattle.scim_value.proofs.OfLemmas.{sound_part}
use Rattle.scim_value.proofs.SoundLemmas.{restricted_sound}
use Rattle.scim_value.proofs.parts.Part.restrict_by.Goals as goal

pub of_rows-requires : goal.of_rows-requires
of_rows-requires g c =
    let sound = restricted_sound c.args.self.now.kind (g.J.RowJudge.keeps c.args.judge.now) (rows c.args.self.now) (sound_part c.args.self.now c.rows.ensures.valid) in
    rw (c.in_ok-rows.ensures, c.kind.ensures, c.rows.ensures.rows) sound
