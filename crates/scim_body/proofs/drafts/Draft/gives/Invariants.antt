use Rattle.std.proofs.Common.{◌≡◌, drop}
use Rattle.std.specs.List.{list_any}
use Rattle.scim_schema.specs.Units.{is_same_unit}
use Rattle.scim_body.proofs.drafts.Draft.gives.Given as goal

abbrev pub invariant-loop-own : goal.invariant-loop-own
invariant-loop-own l = list_any (is_same_unit l.unit) l.self.given ≡ list_any (is_same_unit l.unit) (drop l.own-index l.self.given)
