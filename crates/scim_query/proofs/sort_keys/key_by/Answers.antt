use Rattle.scim_query.proofs.KeyLemmas.{all_left}
use Rattle.scim_query.proofs.sort_keys.key_by.Goals as goal

pub returns-in-Some : goal.returns-in-Some
returns-in-Some c = rw c.in-Some.is (rw (all_left c.args.part.now c.key_at.ensures.valid) at c.key_at.ensures.key)
