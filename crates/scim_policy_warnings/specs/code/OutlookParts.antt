-- The outlook that the code keeps.
use Rattle.scim_policy_warnings.specs.declared.losses.Outlook.{Outlook as KeptOutlook}
use Rattle.scim_policy_warnings.specs.Warnings.{Outlook}

-- an outlook, with its lists as such
abbrev pub outlook_in : KeptOutlook → Outlook
outlook_in o = record { op = o.op; kind = o.kind; given = o.given.items; missing = o.missing; lost = o.lost.items }
