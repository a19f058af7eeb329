use Rattle.std.proofs.Common.{true}
use Rattle.scim_filter.proofs.LookLemmas.{cells_of_looked}
use Rattle.scim_filter.proofs.truth.has_attribute.Goals as goal

pub loop-row-init : goal.loop-row-init
loop-row-init g c = cells_of_looked g.T.RowTest.keeps c.args.look.now (λ f. true) c.args.attribute c.args.rows.now
