use Rattle.std.proofs.Common.{◌≡◌, ◌∙◌, sym, ap, ◌+◌, List, map, drop, Option, None, Some, Vec}
use Rattle.std.specs.Prelude.{slice_get}
use Rattle.scim_policy_file.specs.declared.faults.Cause.{Cause}
use Rattle.std.specs.declared.alloc.Global.{Global}
use Rattle.scim_policy_file.specs.declared.rule_paths.Standing.{Standing}
use Rattle.scim_policy_file.specs.declared.rule_paths.Standing.TheVariants.{Unknown, Allowed, Refused}
use Rattle.scim_policy_file.specs.code.Standings.{fault_with}
use Rattle.scim_policy_file.proofs.PathLemmas.{column_next}
use Rattle.scim_policy_file.proofs.rule_paths.fault_at.Goals.{in-Some-Allowed, in-Some-Unknown, in-None}
use Rattle.scim_policy_file.proofs.rule_paths.fault_at.Goals as goal

pub returns-in-Some-Refused : goal.returns-in-Some-Refused
returns-in-Some-Refused c =
    let at : Some Refused ≡ slice_get c.column-item.result.items c.args.place = cc in
    sym (column_next c.loop-column.fault c.args.place c.loop-column.column-index c.args.columns.now c.column-item.result (Some Refused) c.loop-column-test.true c.column-item.is at) ∙ c.loop-column.invariant

pub loop-column-preserved : goal.loop-column-preserved
loop-column-preserved c =
    let fault = c.loop-column.fault in
    let place = c.args.place in
    let columns = c.args.columns.now in
    let i = c.loop-column.column-index in
    let item = c.column-item.result in
    let rest = map (λ (column : List Standing). slice_get column place) (map (λ (v : Vec Standing Global). v.items) (drop (i + 1) columns)) in
    elim c.match-standing_at.branch [
      | in-Some-Allowed w ↦ (let at : Some Allowed ≡ slice_get item.items place = cc in
          ap (λ (f : Option Cause). fault_with f rest) w.fault-is ∙ sym (column_next fault place i columns item (Some Allowed) c.loop-column-test.true c.column-item.is at) ∙ c.loop-column.invariant)
      | in-Some-Unknown w ↦ (let at : Some Unknown ≡ slice_get item.items place = cc in
          ap (λ (f : Option Cause). fault_with f rest) w.fault-is ∙ sym (column_next fault place i columns item (Some Unknown) c.loop-column-test.true c.column-item.is at) ∙ c.loop-column.invariant)
      | in-None w ↦ (let at : None ≡ slice_get item.items place = cc in
          ap (λ (f : Option Cause). fault_with f rest) w.fault-is ∙ sym (column_next fault place i columns item None c.loop-column-test.true c.column-item.is at) ∙ c.loop-column.invariant)
    ]
