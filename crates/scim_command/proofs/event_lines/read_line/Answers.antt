use Rattle.scim_command.specs.code.Findings.{ToldEventView}
use Rattle.scim_command.proofs.event_lines.read_line.Goals as goal

pub returns-in-None : goal.returns-in-None
returns-in-None c event is =
    let h : ToldEventView = record { connection = event.connection; kind = event.kind } in
    let none = rw c.in-None.is at c.in_ok-connection.ensures in
    none h (rw (c.cut-3.ensures.word, c.cut-3.ensures.behind, c.cut-2.ensures.behind, c.cut.ensures.behind) is.kind)
