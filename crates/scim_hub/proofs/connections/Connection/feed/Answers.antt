use Rattle.std.proofs.Common.{subst}
use Rattle.std.specs.Prelude.{Ok, Err}
use Rattle.std.proofs.lemmas.Result.{err_from_is_err_and}
use Rattle.scim_hub.specs.declared.connections.Connection.{Connection}
use Rattle.scim_hub.specs.declared.connections.Connection.TheVariants.{Shut}
use Rattle.scim_hub.specs.code.Changes.{IsFed}
use Rattle.scim_hub.proofs.ConnectionLemmas.{fed, fed_not}
use Rattle.scim_hub.proofs.connections.Connection.feed.Goals as goal

pub returns-in_err-items : goal.returns-in_err-items
returns-in_err-items c =
    let p = err_from_is_err_and c.from_residual.result c.from_residual.ensures.1 in
    let fault = c.in_err-items.field-0.0 in
    let bytes = c.args.piece.now in
    rw (p.1, p.2, c.replace-connection.ensures.after)
    (subst (λ (x : Connection). IsFed x bytes (Err fault) Shut) c.replace-connection.ensures.value
    (fed_not c.replace-connection.result bytes fault c.read.new.self c.in_err-items.ensures))

pub returns : goal.returns
returns c =
    let items = c.in_ok-items.items in
    let bytes = c.args.piece.now in
    subst (λ (x : Connection). IsFed x bytes (Ok items) c.read.new.self) c.replace-connection.ensures.value
    (fed c.replace-connection.result bytes items c.read.new.self c.in_ok-items.ensures)
