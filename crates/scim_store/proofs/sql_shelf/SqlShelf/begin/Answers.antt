use Rattle.std.proofs.Common.{subst, sym, IsTrue}
use Rattle.sqlite.specs.Held.{state}
use Rattle.sqlite.specs.State.{HasCleanDisk, Survives}
use Rattle.scim_store_tables.specs.Steps.{Leaves}
use Rattle.scim_store.specs.Beginning.{no_store, Begins}
use Rattle.scim_store.specs.Shelves.{IsKeptIn}
use Rattle.scim_store.proofs.ShelfLemmas.{clean_before}
use Rattle.scim_store.proofs.sql_shelf.SqlShelf.begin.Goals as goal

pub returns-in-Ok-clause-kept : goal.returns-in-Ok-clause-kept
returns-in-Ok-clause-kept g c clean =
    let same = sym c.of_parts.ensures.connection in
    let here = subst (λ conn. HasCleanDisk (state g.S.Store conn)) c.of_parts.ensures.connection clean in
    let made = c.in-Ok.ensures.made here in (
      clean_before (state g.S.Store c.args.connection) (state g.S.Store c.begin_store.new.conn) c.begin_store.ensures.crash.clean here,
      made.was_open,
      subst (λ conn. IsTrue (state g.S.Store conn).is_open) same made.is_open,
      λ empty. subst (λ conn. IsKeptIn c.args.base (state g.S.Store conn) c.of_parts.result.rows no_store) same (record {
        stored = λ _. record { stands = λ _. made.changed empty c.args.base; settled = λ _. made.settled };
        rows_are = sym c.of_parts.ensures.rows;
      }),
    )

pub returns-in-Ok-clause-crash : goal.returns-in-Ok-clause-crash
returns-in-Ok-clause-crash g c =
    let old = state g.S.Store c.args.connection in
    subst (λ conn. Survives old (state g.S.Store conn) (Leaves Begins old.now)) (sym c.of_parts.ensures.connection) c.begin_store.ensures.crash
