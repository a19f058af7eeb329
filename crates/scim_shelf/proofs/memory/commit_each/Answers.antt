use Rattle.std.proofs.Common.{◌≡◌, sym, ◌∙◌, ap, subst, take, drop, List, [], ◌∷◌, ◌++◌, ◌+◌}
use Rattle.std.proofs.lemmas.List.{take_more, take-append-drop}
use Rattle.scim_shelf.specs.declared.commits.Commit.{Commit}
use Rattle.scim_shelf.specs.Commits.{CanKeepAll, after_all, committed}
use Rattle.scim_shelf.proofs.CommitLemmas.{after_more, in_turn_front, in_turn_more}
use Rattle.scim_shelf.proofs.memory.commit_each.Goals as goal

pub loop-commit-preserved : goal.loop-commit-preserved
loop-commit-preserved c = λ store is can.
    let all = c.args.commits.now in
    let i = c.loop-commit.commit-index in
    let one : Commit = c.commit-item.result in
    let more : take (i + 1) all ≡ take i all ++ one ∷ [] = take_more all i one c.loop-commit-test.true ∙ ap (λ (x : Commit). take i all ++ x ∷ []) (sym c.commit-item.is) in
    let front : CanKeepAll (take (i + 1) all) store = in_turn_front committed _ (take (i + 1) all) (drop (i + 1) all) store (subst (λ (cs : List Commit). CanKeepAll cs store) (sym (take-append-drop (i + 1) all)) can) in
    let both = in_turn_more committed _ (take i all) one store (subst (λ (cs : List Commit). CanKeepAll cs store) more front) in
    let was = c.loop-commit.invariant store is can in
    rw (more, after_more committed (take i all) one store)
    ((rw (c.in_ok-change.ensures, c.in_ok-row.ensures) at c.in-Ok.ensures.ok) (after_all (take i all) store) was was.0.keyed_apart both.1)
