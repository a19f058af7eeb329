use Rattle.scim_store.proofs.WholeLemmas.{whole}
use Rattle.scim_store.proofs.damage.holding_rows_are_sound.Goals as goal

pub returns : goal.returns
returns c = whole
