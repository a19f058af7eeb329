use Rattle.std.proofs.Common.{[]}
use Rattle.scim_line_log.specs.LineLogs.{Takes}
use Rattle.scim_line_log.proofs.line_logs.LineLog.write_rest.Given as goal

-- the writer has taken a part of what was left
abbrev pub invariant-loop : goal.invariant-loop
invariant-loop g l = Takes g.W.Write.contents [] l.initial.self l.self
