use Rattle.std.proofs.Common.{◌≡◌, refl, subst, rules}
use Rattle.sqlite.specs.State.{HasCleanDisk, Survives}
use Rattle.sqlite.specs.Held.{state}
use Rattle.scim_store_tables.specs.Steps.{Leaves}
use Rattle.scim_store.specs.Importing.{Fills}
use Rattle.scim_store.proofs.CommitLemmas.{transaction_survives}
use Rattle.scim_store.proofs.importing.fill.Goals as goal

pub returns-in_err-commit-clause-crash : goal.returns-in_err-commit-clause-crash
returns-in_err-commit-clause-crash g c =
    let old = c.args.conn.now in
    let last = c.make_store.new.tx.conn.now in
    let end = c.commit.new.self.0 in
    let begun = c.transaction-tx.ensures.begun in
    let ran = λ (clean : HasCleanDisk (state g.S.Store last)). let inside = (rw begun at c.in_ok-make_store.ensures.does.went) clean refl in inside.1 in
    let whole = transaction_survives g.S.Store (Fills c.args.base.now c.args.users.now) old (state g.S.Store last) (state g.S.Store end) (rw begun at c.make_store.ensures.does.survives) ran c.commit.ensures.survives in
    let same : end ≡ c.conn-2-1.given.0 = search rules in
    subst (λ h. Survives (state g.S.Store old) (state g.S.Store h) (Leaves (Fills c.args.base.now c.args.users.now) (state g.S.Store old).now)) same whole

pub returns-clause-crash : goal.returns-clause-crash
returns-clause-crash g c =
    let old = c.args.conn.now in
    let last = c.make_store.new.tx.conn.now in
    let end = c.commit.new.self.0 in
    let begun = c.transaction-tx.ensures.begun in
    let ran = λ (clean : HasCleanDisk (state g.S.Store last)). let inside = (rw begun at c.in_ok-make_store.ensures.does.went) clean refl in inside.1 in
    let whole = transaction_survives g.S.Store (Fills c.args.base.now c.args.users.now) old (state g.S.Store last) (state g.S.Store end) (rw begun at c.make_store.ensures.does.survives) ran c.commit.ensures.survives in
    let same : end ≡ c.conn-2-1.given.0 = search rules in
    subst (λ h. Survives (state g.S.Store old) (state g.S.Store h) (Leaves (Fills c.args.base.now c.args.users.now) (state g.S.Store old).now)) same whole
