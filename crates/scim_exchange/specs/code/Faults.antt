-- The refusals for faults.
use Rattle.scim_text.specs.declared.memory.Failed.{Failed}
use Rattle.scim_text.specs.declared.memory.Failed.TheVariants.{Because, NoMemory}
use Rattle.scim_audit.specs.declared.refusals.Refusal.{Refusal}
use Rattle.scim_audit.specs.declared.refusals.Refusal.TheVariants.{Store}

-- the refusal that a fault contains, or `Store` for `NoMemory`
abbrev pub refusal_for : Failed Refusal → Refusal
refusal_for (Because refusal) = refusal
refusal_for NoMemory = Store
