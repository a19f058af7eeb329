use Rattle.std.proofs.Common.{true, ◌&&◌}
use Rattle.scim_schema.specs.Units.{is_same_leaf}
use Rattle.scim_filter.proofs.LookLemmas.{cells_of_looked}
use Rattle.scim_filter.proofs.truth.has_leaf.Goals as goal

pub loop-row-init : goal.loop-row-init
loop-row-init g c = cells_of_looked g.T.RowTest.keeps c.args.look.now (λ f. is_same_leaf f.leaf c.args.leaf && true) c.args.leaf.attribute c.args.rows.now
