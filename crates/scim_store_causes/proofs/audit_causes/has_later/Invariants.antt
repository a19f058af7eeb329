use Rattle.std.proofs.Common.{◌≤◌, Ok}
use Rattle.std.specs.Prelude.{⊤}
use Rattle.sqlite.specs.Held.{state}
use Rattle.scim_store_tables.specs.Audit.{last_number}
use Rattle.scim_store_tables.specs.declared.versions.Version.TheVariants.{Two}
use Rattle.scim_store_causes.specs.code.Looks.{Looks}
use Rattle.scim_store_causes.proofs.audit_causes.has_later.Given as goal

-- the calls so far have only read
abbrev pub invariant-loop : goal.invariant-loop
invariant-loop g l = record {
  low : l.first ≤ last_number;
  looks : Looks {T = Unit {0}} Two (λ _ _. ⊤) (state g.S.Store l.fn.conn) (state g.S.Store l.conn) (Ok tt);
}
