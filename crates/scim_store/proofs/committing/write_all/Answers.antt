use Rattle.std.proofs.Common.{◌≡◌, refl, subst, rules}
use Rattle.sqlite.specs.State.{HasCleanDisk, Survives}
use Rattle.sqlite.specs.Held.{state}
use Rattle.scim_store_tables.specs.Steps.{Leaves}
use Rattle.scim_shelf.specs.Commits.{after_all}
use Rattle.scim_store.specs.Commits.{AreDue}
use Rattle.scim_store.specs.Committing.{Changes}
use Rattle.scim_store.proofs.CommitLemmas.{transaction_survives}
use Rattle.scim_store.proofs.committing.write_all.Goals as goal

pub returns-in_err-commit-clause-crash : goal.returns-in_err-commit-clause-crash
returns-in_err-commit-clause-crash g c =
    let old = c.args.conn.now in
    let last = c.write_commits.new.tx.conn.now in
    let end = c.commit.new.self.0 in
    let same : end ≡ c.conn-2-1.given.0 = search rules in
    let all = c.args.commits.now in
    let P = Changes c.args.base.now (after_all all) (AreDue all c.args.rows) in
    let begun = c.transaction-tx.ensures.begun in
    let ran = λ (clean : HasCleanDisk (state g.S.Store last)). let inside = (rw begun at c.in_ok-write_commits.ensures.does.went) clean refl in inside.1 in
    let whole = transaction_survives g.S.Store P old (state g.S.Store last) (state g.S.Store end) (rw begun at c.write_commits.ensures.does.survives) ran c.commit.ensures.survives in
    subst (λ h. Survives (state g.S.Store old) (state g.S.Store h) (Leaves P (state g.S.Store old).now)) same whole

pub returns-clause-crash : goal.returns-clause-crash
returns-clause-crash g c =
    let old = c.args.conn.now in
    let last = c.write_commits.new.tx.conn.now in
    let end = c.commit.new.self.0 in
    let same : end ≡ c.conn-2-1.given.0 = search rules in
    let all = c.args.commits.now in
    let P = Changes c.args.base.now (after_all all) (AreDue all c.args.rows) in
    let begun = c.transaction-tx.ensures.begun in
    let ran = λ (clean : HasCleanDisk (state g.S.Store last)). let inside = (rw begun at c.in_ok-write_commits.ensures.does.went) clean refl in inside.1 in
    let whole = transaction_survives g.S.Store P old (state g.S.Store last) (state g.S.Store end) (rw begun at c.write_commits.ensures.does.survives) ran c.commit.ensures.survives in
    subst (λ h. Survives (state g.S.Store old) (state g.S.Store h) (Leaves P (state g.S.Store old).now)) same whole
