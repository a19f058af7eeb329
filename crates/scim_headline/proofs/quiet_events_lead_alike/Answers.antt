use Rattle.scim_headline.proofs.HeardLemmas.{quiet_events_lead_alike}
use Rattle.scim_headline.proofs.quiet_events_lead_alike.Goals as goal

pub returns : goal.returns
returns c = quiet_events_lead_alike
