use Rattle.scim_cell.proofs.FieldLemmas.{sound-AreRising, AreRising-sound}
use Rattle.scim_cell.proofs.row_checks.is_sound_row.Goals as goal

pub returns : goal.returns
returns c =
    let tested = rw (c.unit.ensures, c.fields.ensures) at c.are_sound_fields.ensures in
    (λ t. sound-AreRising _ _ (tested.0 t), λ h. tested.1 (AreRising-sound _ _ h))
