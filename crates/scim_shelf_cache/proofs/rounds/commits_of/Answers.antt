use Rattle.std.proofs.Common.{◌≡◌, sym, ◌∙◌, ap, take, [], ◌∷◌, ◌++◌, ◌+◌}
use Rattle.std.proofs.lemmas.List.{take_more}
use Rattle.scim_shelf_cache.specs.declared.rounds.RoundCommit.{RoundCommit}
use Rattle.scim_shelf_cache.proofs.RoundLemmas.{handed_more}
use Rattle.scim_shelf_cache.proofs.rounds.commits_of.Goals as goal

pub loop-one-preserved : goal.loop-one-preserved
loop-one-preserved c =
    let all = c.args.own.now in
    let i = c.loop-one.one-index in
    let one : RoundCommit = c.one-item.result in
    let more : take (i + 1) all ≡ take i all ++ one ∷ [] = take_more all i one c.loop-one-test.true ∙ ap (λ (x : RoundCommit). take i all ++ x ∷ []) (sym c.one-item.is) in
    rw (more, c.in_ok-push.ensures.items) (handed_more (take i all) one c.loop-one.commits.items c.as_commit.result c.loop-one.invariant c.as_commit.ensures)
