use Rattle.std.proofs.Common.{rules, Ok, ℕ}
use Rattle.std.proofs.lemmas.Iterator.{YieldsList-from_slice, YieldsList-from_map_by}
use Rattle.std.proofs.lemmas.Iterator.Consumers.{map_from_collect}
use Rattle.scim_hub.specs.HubStates.{event_of, owned_event_of}
use Rattle.scim_command.proofs.borrowed_events.events_of.Goals as goal

pub returns : goal.returns
returns c =
    map_from_collect {E = ℕ} (Ok c.in_ok-collect.field-0) c.in_ok-collect.ensures.ran
    (YieldsList-from_map_by _ event_of owned_event_of (YieldsList-from_slice c.args.owned.now cc) c.map.ensures.closure (λ x r q k. search rules))
