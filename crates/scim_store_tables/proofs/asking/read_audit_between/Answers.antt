use Rattle.std.proofs.Common.{w64}
use Rattle.std.proofs.lemmas.Int.{to_z-of_z}
use Rattle.sqlite.specs.Held.{state}
use Rattle.scim_store_tables.specs.declared.versions.Version.TheVariants.{Two}
use Rattle.scim_store_tables.proofs.StepLemmas.{both_then}
use Rattle.scim_store_tables.proofs.ReadLemmas.{between_told}
use Rattle.scim_store_tables.proofs.AskLemmas.{between, asks_between}
use Rattle.scim_store_tables.proofs.asking.read_audit_between.Goals as goal

pub returns-clause-read : goal.returns-clause-read
returns-clause-read g c clean =
    let first = to_z-of_z w64 c.args.first c.ranges.first in
    let end = to_z-of_z w64 c.args.end c.ranges.end in
    both_then c.ask.result _ _ _ (λ rows was_open reads. between_told (state g.S.Store c.args.conn.now) (state g.S.Store c.ask.new.conn) rows.items was_open c.args.first c.args.end (λ q is has. rw (c.params-to_sql.ensures, c.params-to_sql-2.ensures, first, end) at (reads Two q is has))) (c.ask.ensures.was_open clean) (c.ask.ensures.read clean)

pub returns-clause-spares : goal.returns-clause-spares
returns-clause-spares g c = c.ask.ensures.spares Two between asks_between
