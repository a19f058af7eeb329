use Rattle.std.proofs.Common.{[]}
use Rattle.scim_wire.specs.declared.states.State.TheVariants as state
use Rattle.scim_wire.proofs.WireLemmas.{begins}
use Rattle.scim_wire.proofs.state_steps.begin_body.Goals as goal

pub returns-in-Chunked : goal.returns-in-Chunked
returns-in-Chunked c bytes opens =
    begins (state.InChunks (record { head = c.args.head; chunks = c.new-chunks.result })) c.args.head c.announced-item.result bytes
    (λ items e. (record { after = []; opens = opens; chunked = c.in-Chunked.is; stands = c.new-chunks.ensures }, e)) c.announced-item.ensures
