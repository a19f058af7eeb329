use Rattle.std.proofs.Common.{rules, map}
use Rattle.scim_hub.specs.Events.{none_joined}
use Rattle.scim_hub.specs.HubStates.{owned_event_of}
use Rattle.scim_command.proofs.replays.replayed.Goals as goal

pub returns-clause-told : goal.returns-clause-told
returns-clause-told c =
    let hub = c.in_ok-hub.ensures.hub in
    let answers = c.in_ok-answered.ensures hub.entries (none_joined hub.store) hub.has hub.state in
    record {
      policy = c.in_ok-hub.hub.service.policy;
      allows = hub.policy;
      store = hub.store;
      holds = hub.holds;
      entries = hub.entries;
      knows = hub.knows;
      events = map owned_event_of c.in_ok-events.events.items;
      tells = c.in_ok-events.ensures.events;
      answers = rw (hub.base, c.as_slice.ensures.value) at answers;
    }

pub returns-in_err-hub-clause-users : goal.returns-in_err-hub-clause-users
returns-in_err-hub-clause-users c n is = c.in_err-hub.ensures.users n (search rules)
