use Rattle.std.proofs.Common.{◌≡◌, drop}
use Rattle.std.specs.Prelude.{find}
use Rattle.scim_policy_warnings.specs.Warnings.{gives_part}
use Rattle.scim_policy_warnings.specs.code.OutlookParts.{outlook_in}
use Rattle.scim_policy_warnings.proofs.losses.Outlook.first_part.Given as goal

-- the first is among those that are left
abbrev pub invariant-loop-unit : goal.invariant-loop-unit
invariant-loop-unit l = find (gives_part (outlook_in l.self) l.rule) (drop l.unit-index l.self.lost.items) ≡ find (gives_part (outlook_in l.self) l.rule) l.self.lost.items
