use Rattle.std.proofs.Common.{ap, arith, length, length-drop, string_bytes}
use Rattle.scim_admin.proofs.connections.AdminConnection.next.Goals as goal

pub returns-then-self-len-clause-next : goal.returns-then-self-len-clause-next
returns-then-self-len-clause-next c = λ none.
    let bytes = string_bytes c.args.self.now.pending in
    let long = length-drop c.args.self.now.taken bytes in
    let short = ap length none in
    omega (arith, long, short, c.if-self-len.true, c.len.ensures)
