use Rattle.scim_service.proofs.Facts.{next_is_store}
use Rattle.scim_noninterference.proofs.turns_leave_stores.Goals as goal

pub returns : goal.returns
returns c = next_is_store
