-- A fact holds after Ok, and after each error, where it holds in any case.
use Rattle.std.proofs.Common.{Result, Ok, Err}
use Rattle.std.specs.Prelude.{OnOk, IfErr}

pub on_ok_always : {T E P : Type 0} (r : Result T E) → P → OnOk r P
on_ok_always (Ok x) p = p
on_ok_always (Err e) p = tt

pub if_err_always : {T E : Type 0} (Q : E → Type 0) (r : Result T E) → ((e : E) → Q e) → IfErr r Q
if_err_always Q (Ok x) q = tt
if_err_always Q (Err e) q = q e
