use Rattle.std.proofs.Common.{refl, true}
use Rattle.scim_filter.specs.Relation.{stands}
use Rattle.scim_filter.specs.code.Cells.{rows_in}
use Rattle.scim_filter.proofs.LookLemmas.{atoms_alike}
use Rattle.scim_filter.proofs.truth.leaf_compares.Goals as goal

pub returns-then-is_unlike : goal.returns-then-is_unlike
returns-then-is_unlike g c =
    let alike = atoms_alike g.T.RowTest.keeps c.args.look.now (λ a. true) c.in-Some.leaf c.around-rows.result.now (rows_in c.args.cells) c.around-rows.ensures in
    rw (c.in-Some.is, ← alike, ← c.is_unlike.ensures, c.if-is_unlike.true) refl

pub returns : goal.returns
returns g c =
    let alike = atoms_alike g.T.RowTest.keeps c.args.look.now (λ a. true) c.in-Some.leaf c.around-rows.result.now (rows_in c.args.cells) c.around-rows.ensures in
    let standing = atoms_alike g.T.RowTest.keeps c.args.look.now (λ a. stands c.is_case_exact.result c.args.op a c.args.literal.now) c.in-Some.leaf c.around-rows.result.now (rows_in c.args.cells) c.around-rows.ensures in
    rw (c.in-Some.is, ← alike, ← c.is_unlike.ensures, c.if-is_unlike.false, ← c.is_case_exact.ensures, ← standing) c.leaf_stands.ensures
