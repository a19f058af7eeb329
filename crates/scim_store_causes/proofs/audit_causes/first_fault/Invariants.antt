use Rattle.std.proofs.Common.{◌+◌, ◌*◌, Ok}
use Rattle.sqlite.specs.Held.{state}
use Rattle.scim_store_tables.specs.Reading.{shown}
use Rattle.scim_store_tables.specs.declared.versions.Version.TheVariants.{Two}
use Rattle.scim_store_causes.specs.Audit.{HasEach}
use Rattle.scim_store_causes.specs.code.Looks.{Looks}
use Rattle.scim_store_causes.proofs.audit_causes.first_fault.Given as goal

-- there is a row for each number of the windows so far
abbrev pub invariant-loop-window : goal.invariant-loop-window
invariant-loop-window g l = Looks {T = Unit {0}} Two (λ db _. HasEach (shown db).audit 1 (1 + l.window * 160)) (state g.S.Store l.fn.conn) (state g.S.Store l.conn) (Ok tt)
