use Rattle.std.proofs.Common.{◌&&◌}
use Rattle.scim_schema.specs.Units.{is_same_leaf}
use Rattle.scim_filter.specs.Relation.{stands}
use Rattle.scim_filter.proofs.LookLemmas.{cells_of_looked}
use Rattle.scim_filter.proofs.truth.leaf_stands.Goals as goal

pub loop-row-init : goal.loop-row-init
loop-row-init g c =
    cells_of_looked g.T.RowTest.keeps c.args.look.now (λ f. is_same_leaf f.leaf c.args.leaf && stands c.args.exact c.args.op f.atom c.args.literal.now) c.args.leaf.attribute c.args.rows.now
