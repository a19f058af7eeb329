use Rattle.scim_query.proofs.KeyLemmas.{part_left}
use Rattle.scim_query.proofs.queries.Query.matches_where.Goals as goal

pub returns-in-Some : goal.returns-in-Some
returns-in-Some g c =
    rw c.in-Some.is (rw (← part_left (g.T.RowTest.keeps c.args.test.now) c.args.part.now c.rows.ensures.valid) at c.holds_where.ensures)
