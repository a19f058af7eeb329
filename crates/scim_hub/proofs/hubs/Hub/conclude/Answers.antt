use Rattle.std.proofs.Common.{refl, subst, ap, ◌∷◌}
use Rattle.std.specs.Prelude.{Result}
use Rattle.scim_hub.specs.declared.hubs.Hub.{Hub}
use Rattle.scim_hub.specs.declared.events.EventAnswer.{EventAnswer}
use Rattle.scim_hub.specs.declared.events.HubFault.{HubFault}
use Rattle.scim_hub.specs.declared.rounds.Answered.{Answered}
use Rattle.scim_hub.specs.HubStates.{done}
use Rattle.scim_hub.specs.code.Rounds.{AreGathered, ComesTo, IsFinished}
use Rattle.scim_hub.proofs.FinishLemmas.{answered_done, failed_done}
use Rattle.scim_hub.proofs.hubs.Hub.conclude.Goals as goal

pub returns-in-Ok-clause-heard : goal.returns-in-Ok-clause-heard
returns-in-Ok-clause-heard g c entries state members next knows honest gathered comes =
    let piece = c.args.piece.now in
    let n = piece.connection in
    let hub = c.args.self.now in
    let answered = c.in-Ok.answered in
    let replies = c.replies_of-replies.result in
    let taken = subst (λ (t : Result Answered HubFault). AreGathered (record { piece = piece; taken = t } ∷ members) state.connections hub.connections) c.in-Ok.is gathered in
    let came = subst (λ (t : Result Answered HubFault). ComesTo hub.service.policy hub.service.base entries c.args.made piece.stamp n t state.store next) c.in-Ok.is comes in
    let replied = c.replies_of-replies.ensures.replied entries state.store next knows honest came in
    let finished = rw c.replies_of-replies.ensures.same at c.finish.ensures.connections in
    rw c.finish.ensures.result (answered_done hub.service.policy hub.service.base entries piece members state (state.connections n) answered replies hub.connections c.finish.new.self.connections next refl taken finished replied)

pub returns-in-Err-clause-heard : goal.returns-in-Err-clause-heard
returns-in-Err-clause-heard g c entries state members next knows honest gathered comes =
    let piece = c.args.piece.now in
    let hub = c.args.self.now in
    let fault = c.in-Err.fault in
    let taken = subst (λ (t : Result Answered HubFault). AreGathered (record { piece = piece; taken = t } ∷ members) state.connections hub.connections) c.in-Err.is gathered in
    let came = subst (λ (t : Result Answered HubFault). ComesTo hub.service.policy hub.service.base entries c.args.made piece.stamp piece.connection t state.store next) c.in-Err.is comes in
    rw came (failed_done hub.service.policy hub.service.base entries piece members state (state.connections piece.connection) fault hub.connections refl taken)
