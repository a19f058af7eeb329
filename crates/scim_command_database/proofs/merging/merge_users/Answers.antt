use Rattle.std.proofs.Common.{rules, ◌≡◌, ◌∙◌, sym, ap, refl, inl, inr, ℕ}
use Rattle.std.specs.Prelude.{Result, Ok, Err}
use Rattle.scim_command.specs.declared.faults.RunFault.{RunFault}
use Rattle.scim_command.specs.declared.faults.RunFault.TheVariants.{NoMemory, Users}
use Rattle.scim_command_database.specs.Merges as spec
use Rattle.scim_command_database.proofs.MergeLemmas.{of_item}
use Rattle.scim_command_database.proofs.merging.merge_users.Goals as goal

-- the fault of a failed result
abbrev fault_of : Result (Unit {0}) RunFault → RunFault
fault_of (Ok done) = NoMemory
fault_of (Err fault) = fault

pub returns-in-Err-clause-users : goal.returns-in-Err-clause-users
returns-in-Err-clause-users g c = λ n told store stands honest is_store.
    let given : c.merge.result ≡ Err c.in-Err.fault = search rules in
    let item : spec.of_merging c.in-Err.fault ≡ Users n = sym c.merge_fault.ensures ∙ ap fault_of told in
    elim (of_item c.in-Err.fault n item) [
      | inl damaged ↦
          inl (rw (← damaged.2) ((c.merge.ensures.users damaged.0 (given ∙ ap Err damaged.1)).1))
      | inr clash ↦
          inr (clash.0, c.merge.ensures.clash n clash.0 (given ∙ ap Err clash.1) store stands honest is_store)
    ]
