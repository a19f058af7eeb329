use Rattle.std.proofs.Common.{take}
use Rattle.scim_store.specs.code.Passing.{PassesAll}
use Rattle.scim_store.proofs.passing.pass_rows.Given as goal

-- the rows so far have passed
abbrev pub invariant-loop-row : goal.invariant-loop-row
invariant-loop-row g l = PassesAll g.V.Visitor.takes l.version l.base l.tables (take l.row-index l.rows) l.passed l.fn.visitor l.visitor
