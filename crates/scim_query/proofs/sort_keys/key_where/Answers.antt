use Rattle.scim_query.proofs.KeyLemmas.{part_left}
use Rattle.scim_query.proofs.sort_keys.key_where.Goals as goal

pub returns-in-Some : goal.returns-in-Some
returns-in-Some g c =
    rw c.in-Some.is (rw (← part_left (g.T.RowTest.keeps c.args.test.now) c.args.part.now c.key_at.ensures.valid) at c.key_at.ensures.key)
