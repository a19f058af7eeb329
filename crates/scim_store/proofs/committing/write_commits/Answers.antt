use Rattle.std.proofs.Common.{◌≡◌, ◌∙◌, ◌+◌, [], ◌∷◌, ◌++◌, List, length, length-take-le, take, sym, ap, subst, arith}
use Rattle.std.proofs.lemmas.List.{take_all, take_more}
use Rattle.sqlite.specs.Held.{state}
use Rattle.scim_store_tables.proofs.Facts.{HasDone, does_nothing, does_less, fails_then, does_both}
use Rattle.scim_shelf.specs.declared.commits.Commit.{Commit}
use Rattle.scim_shelf.specs.Commits.{after_all}
use Rattle.scim_store.specs.Commits.{AreDue}
use Rattle.scim_store.specs.Committing.{Changes}
use Rattle.scim_store.proofs.SeveralLemmas.{none_changed, more_changed}
use Rattle.scim_store.proofs.committing.write_commits.Goals as goal

pub loop-commit-init : goal.loop-commit-init
loop-commit-init g c = (omega arith, does_nothing g.S.Store c.args.tx.now tt _ (none_changed c.args.base.now c.args.rows (state g.S.Store c.args.tx.now.conn.now).now))

pub loop-commit-preserved : goal.loop-commit-preserved
loop-commit-preserved g c =
    let all = c.args.commits.now in
    let i = c.loop-commit.commit-index in
    let one = c.commit-item.result in
    let so_far = c.loop-commit.invariant in
    let taken : take (i + 1) all ≡ take i all ++ one ∷ [] = take_more all i one (omega arith) ∙ ap (λ (y : Commit). take i all ++ y ∷ []) (sym c.commit-item.is) in
    let count : length (take i all) ≡ i = length-take-le i all (omega arith) in (
      omega (arith, so_far.0),
      subst (λ (cs : List Commit). HasDone g.S.Store c.args.tx.now c.write_commit.new.tx (Changes c.args.base.now (after_all cs) (AreDue cs c.args.rows))) (sym taken)
          (does_both g.S.Store c.args.tx.now c.loop-commit.tx c.write_commit.new.tx tt _ tt _ _ _ so_far.1 c.in_ok-write_commit.ensures.does
          (λ a b d did step. more_changed c.args.base.now (take i all) one c.args.rows (c.loop-commit.number + 1) a b d (omega (arith, so_far.0, count)) did step)),
    )

pub returns-in_err-write_commit : goal.returns-in_err-write_commit
returns-in_err-write_commit g c = record { does = fails_then g.S.Store c.args.tx.now c.loop-commit.tx c.write_commit.new.tx _ _ c.from_residual.result _ _ _ c.loop-commit.invariant.1 c.in_err-write_commit.ensures.does c.from_residual.ensures.0 }

pub returns : goal.returns
returns g c =
    let all : take c.loop-commit.commit-index c.args.commits.now ≡ c.args.commits.now = take_all _ _ (omega arith) in
    record { does = does_less g.S.Store c.args.tx.now c.loop-commit.tx tt tt _ _ c.loop-commit.invariant.1 (λ _ _ did. rw all at did) }
