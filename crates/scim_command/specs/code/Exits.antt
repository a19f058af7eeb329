-- The faults of the functions of `once` and `check`, and the text of a reply.
use Rattle.std.specs.Prelude.{ℕ, false, List, Result, Ok, Err, String, string_bytes}
use Rattle.std.specs.declared.alloc.Global.{Global}
use Rattle.scim_text.specs.declared.memory.NoMemory.{NoMemory}
use Rattle.scim_command.specs.declared.faults.RunFault.{RunFault}
use Rattle.scim_command.specs.declared.faults.RunFault.TheVariants.{Policy, Tokens, InputEnded, InputFailed, NoMemory as WantOfMemory}
use Rattle.scim_command.specs.Faults.{IsOfUsers}
use Rattle.scim_audit.specs.declared.refusals.Refusal.TheVariants.{Store}
use Rattle.scim_wire.specs.Replies.{whole_form}
use Rattle.scim_exchange.specs.Replies.{refusal_text}

-- the fault is `InputEnded` or `InputFailed`
abbrev pub IsOfInput : RunFault → Type 0
IsOfInput InputEnded = Unit {0}
IsOfInput InputFailed = Unit {0}
IsOfInput _ = ⊥

-- the text of the reply, or of the refusal `Store` for `NoMemory`
abbrev pub text_or_store : Result (String Global) NoMemory → List ℕ
text_or_store (Ok t) = string_bytes t
text_or_store (Err e) = refusal_text Store (whole_form false)

-- the fault is `Policy`, `Users` or `NoMemory`
abbrev pub IsOfFiles : RunFault → Type 0
IsOfFiles (Policy rule cause) = Unit {0}
IsOfFiles f = IsOfUsers f

-- the fault is `Policy`, `Tokens` or `NoMemory`
abbrev pub IsOfChecked : RunFault → Type 0
IsOfChecked (Policy rule cause) = Unit {0}
IsOfChecked (Tokens n) = Unit {0}
IsOfChecked WantOfMemory = Unit {0}
IsOfChecked _ = ⊥
