use Rattle.scim_store.proofs.SoundLemmas.{sound_holds}
use Rattle.scim_store.proofs.damage.sound_rows_hold.Goals as goal

pub returns : goal.returns
returns c = sound_holds
