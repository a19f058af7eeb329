use Rattle.std.proofs.Common.{◌≡◌, refl, subst, arith, rules}
use Rattle.sqlite.specs.State.{HasCleanDisk, Survives}
use Rattle.sqlite.specs.Held.{state}
use Rattle.sqlite.proofs.StateLemmas.{survives_then}
use Rattle.sqlite.proofs.Callers.{survives_begin}
use Rattle.scim_store_tables.specs.Steps.{Leaves}
use Rattle.scim_store_tables.specs.Migrating.{Migrates}
use Rattle.scim_store_tables.proofs.migrating.migrate.Goals as goal

pub returns-clause-crash : goal.returns-clause-crash
returns-clause-crash g c =
    let old = c.args.conn.now in
    let last = c.migrate_inside.new.tx.conn.now in
    let end = c.commit.new.self.0 in
    let begun = c.transaction-tx.ensures.begun in
    let P = Leaves Migrates (state g.S.Store old).now in
    let ran = λ (clean : HasCleanDisk (state g.S.Store last)). let inside = (rw begun at c.in_ok-migrate_inside.ensures.does.went) clean refl in inside.1 in
    let first = survives_begin g.S.Store old (state g.S.Store last) _ (rw begun at c.migrate_inside.ensures.does.survives) in
    let whole = survives_then (state g.S.Store old) (state g.S.Store last) (state g.S.Store end) _ _ P (λ _ db none. absurd none)
    (λ clean db is. ((state g.S.Store last).now, is, ran (omega (arith, c.commit.ensures.survives.clean)))) first c.commit.ensures.survives in
    let same : end ≡ c.conn-2-1.given.0 = search rules in
    subst (λ h. Survives (state g.S.Store old) (state g.S.Store h) P) same whole
