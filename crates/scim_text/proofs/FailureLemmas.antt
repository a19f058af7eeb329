-- What holds of the faults of one answer holds of those of another.
use Rattle.std.proofs.Common.{Result, Ok, Err}
use Rattle.scim_text.specs.declared.memory.Failed.{Failed}
use Rattle.scim_text.specs.declared.memory.Failed.TheVariants.{Because, NoMemory}
use Rattle.scim_text.specs.Failures.{IfBecause, OnFault}

pub IfBecause-weaker : {E : Type 0} (f : Failed E) (P Q : E → Type 0) → ((e : E) → P e → Q e) → IfBecause P f → IfBecause Q f
IfBecause-weaker (Because e) P Q weaker h = weaker e h
IfBecause-weaker NoMemory P Q weaker h = tt

pub OnFault-weaker : {X E : Type 0} (r : Result X (Failed E)) (P Q : Type 0) → (P → Q) → OnFault r P → OnFault r Q
OnFault-weaker (Ok x) P Q f h = tt
OnFault-weaker (Err e) P Q f h = IfBecause-weaker e (λ _. P) (λ _. Q) (λ _. f) h
