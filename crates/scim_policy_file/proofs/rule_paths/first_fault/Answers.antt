use Rattle.std.proofs.Common.{◌≡◌, ◌<◌, ◌∙◌, sym, ap, ℕ, ◌+◌, List, map, drop, length, Vec, arith, true, false}
use Rattle.std.specs.Prelude.{is_some}
use Rattle.std.specs.declared.alloc.Global.{Global}
use Rattle.scim_policy_file.specs.declared.faults.Cause.{Cause}
use Rattle.scim_policy_file.specs.declared.rule_paths.Standing.{Standing}
use Rattle.scim_policy_file.proofs.PathLemmas.{entry_next, found_first, found_later}
use Rattle.scim_policy_file.specs.code.Standings.{fault_at, faults_from, first_of}
use Rattle.scim_policy_file.specs.code.Written.{text_at}
use Rattle.scim_policy_file.proofs.rule_paths.first_fault.Goals as goal

pub returns-then-is_some : goal.returns-then-is_some
returns-then-is_some c =
    let columns = map (λ (v : Vec Standing Global). v.items) c.args.columns.now in
    let place = c.loop-text.place in
    let less : place < length c.args.texts.now = omega arith in
    let found : is_some (fault_at place columns) ≡ true = cc in
    let next = ap (λ (causes : List Cause). first_of causes) (entry_next columns place c.args.texts.now place less) in
    c.fault_at-fault.ensures
    ∙ sym (found_first (fault_at place columns) (faults_from (place + 1) columns (map text_at (drop (place + 1) c.args.texts.now))) found)
    ∙ sym next ∙ c.loop-text.invariant.1

pub loop-text-preserved : goal.loop-text-preserved
loop-text-preserved c =
    let columns = map (λ (v : Vec Standing Global). v.items) c.args.columns.now in
    let place = c.loop-text.place in
    let less : place < length c.args.texts.now = omega arith in
    let found : is_some (fault_at place columns) ≡ false = cc in
    let next = ap (λ (causes : List Cause). first_of causes) (entry_next columns place c.args.texts.now place less) in (
      ap (λ (n : ℕ). n + 1) c.loop-text.invariant.0,
      sym (found_later (fault_at place columns) (faults_from (place + 1) columns (map text_at (drop (place + 1) c.args.texts.now))) found)
          ∙ sym next ∙ c.loop-text.invariant.1,
    )
