use Rattle.std.proofs.Common.{sym, subst, refl}
use Rattle.std.specs.Prelude.{Option}
use Rattle.scim_hub.specs.declared.connections.Connection.{Connection}
use Rattle.scim_hub.specs.HubStates.{IsKept}
use Rattle.scim_hub.proofs.ConnectionLemmas.{is_there, piece_taken}
use Rattle.scim_hub.proofs.connections.Connections.feed.Goals as goal

pub returns-in-Some : goal.returns-in-Some
returns-in-Some c = λ connections are.
    let n = c.args.number in
    let before = c.in-Some.connection.now in
    let after = c.feed.new.self in
    piece_taken c.args.self.now (record { by_number = c.get_mut.follows.lender after }) n c.args.piece.now before after (connections n) c.feed.result connections
    ((c.get_mut.follows.holds after).3 (is_there _ _ c.in-Some.ensures.value)) c.feed.ensures
    (subst (λ (o : Option Connection). IsKept o (connections n)) (sym c.in-Some.ensures.value) (are n)) refl are
