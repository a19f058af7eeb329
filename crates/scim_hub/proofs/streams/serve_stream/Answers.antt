use Rattle.std.proofs.Common.{◌∙◌, sym, subst, inr, ℕ, List, map}
use Rattle.scim_policy.specs.Rules.{Rule}
use Rattle.scim_token.specs.Tokens.{Knows}
use Rattle.scim_token.specs.declared.token_table.Tokens.{Tokens}
use Rattle.scim_hub.specs.HubStates.{output_of, done}
use Rattle.scim_hub.specs.Streams.{IsStreamServed}
use Rattle.scim_hub.proofs.streams.serve_stream.Goals as goal

pub returns-clause-visit : goal.returns-clause-visit
returns-clause-visit g c entries state knows is honest =
    let still = c.event-left.ensures.honest honest in
    let join = c.in_ok-event.ensures.heard entries state knows is (c.serve_pieces-served.ensures.honest still) in
    let tokens = c.in_ok-event.ensures.keeps.tokens in
    let serve = c.serve_pieces-served.ensures.served entries join.0 (subst (λ (t : Tokens). Knows entries t) (sym tokens) knows) join.1 still in
    let leave = c.event-left.ensures.heard entries serve.0 (subst (λ (t : Tokens). Knows entries t) (sym (c.serve_pieces-served.ensures.keeps.tokens ∙ tokens)) knows) serve.1 honest in
    let n = c.args.connection in
    let r = g.R.Read.remaining c.args.reader.now in
    let s = g.R.Read.remaining c.serve_pieces-served.new.reader in
    let given = g.T.Stamps.given c.args.stamps.now in
    let given_then = g.T.Stamps.given c.serve_pieces-served.new.stamps in
    let a = g.W.Write.contents c.args.writer.now in
    let b = g.W.Write.contents c.serve_pieces-served.new.writer in
    let served = subst (λ (p : List Rule). IsStreamServed p c.args.hub.now.service.base entries n join.0 serve.0 r s given given_then a b c.serve_pieces-served.result) c.in_ok-event.ensures.keeps.policy
    (subst (λ (x : List ℕ). IsStreamServed c.event.new.self.service.policy x entries n join.0 serve.0 r s given given_then a b c.serve_pieces-served.result) c.in_ok-event.ensures.keeps.base serve.2) in (
      leave.0,
      leave.1,
      inr (record {
        joined_at = join.0;
        hub_outputs = map output_of c.in_ok-event.field-0.items;
        joins = join.2;
        served_at = serve.0;
        served = served;
        left = done c.event-left.result;
        leaves = leave.2;
      }),
    )
