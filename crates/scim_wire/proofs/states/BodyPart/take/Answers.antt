use Rattle.scim_wire.proofs.WireLemmas.{body_whole}
use Rattle.scim_wire.proofs.states.BodyPart.take.Goals as goal

pub returns-then-self-le1 : goal.returns-then-self-le1
returns-then-self-le1 c bytes items stands =
    rw c.whole.ensures.item
    (c.args.self.head, body_whole c.args.self c.push.new.self.items bytes c.args.byte stands.0 c.in_ok-push.ensures.items c.if-self-le1.true, stands.1, c.whole.ensures.state)
