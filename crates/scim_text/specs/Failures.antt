-- Statements about results that can also be the error of a failed allocation.
use Rattle.std.specs.Prelude.{Result, Ok, Err, IfErr, ⊤}
use Rattle.scim_text.specs.declared.memory.Failed.{Failed}
use Rattle.scim_text.specs.declared.memory.Failed.TheVariants.{Because, NoMemory}

-- if the failure has a cause, P holds for the cause; a failed allocation always passes
abbrev pub IfBecause : {E : Type 0} → (E → Type 0) → Failed E → Type 0
IfBecause P (Because e) = P e
IfBecause P NoMemory = ⊤

-- the result is the error of a failed allocation, or P holds for the result
abbrev pub UnlessMemory : {X E : Type 0} → (Result X E → Type 0) → Result X (Failed E) → Type 0
UnlessMemory P (Ok x) = P (Ok x)
UnlessMemory P (Err f) = IfBecause (λ e. P (Err e)) f

-- if the result is an error other than a failed allocation, P holds for the cause of the error
abbrev pub IfFault : {X E : Type 0} → Result X (Failed E) → (E → Type 0) → Type 0
IfFault r P = IfErr r (IfBecause P)

-- if the result is an error other than a failed allocation, P holds
abbrev pub OnFault : {X E : Type 0} → Result X (Failed E) → Type 0 → Type 0
OnFault r P = IfFault r (λ _. P)
