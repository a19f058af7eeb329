use Rattle.std.proofs.Common.{◌≡◌, ℕ, ◌+◌, ◌<◌, sym, ◌∙◌, ap, subst, arith, length}
use Rattle.scim_cell.specs.Content.{Content}
use Rattle.scim_json.specs.Stored.{IsResourceBelow}
use Rattle.scim_shelf_merge.specs.declared.merging.MergeCount.{MergeCount}
use Rattle.scim_shelf_merge.specs.declared.outcomes.Outcome.TheVariants.{Clashes}
use Rattle.scim_shelf_merge.specs.Merging.{merged_one, outcome, stopped}
use Rattle.scim_shelf_merge.proofs.MergeLemmas.{rest, counted_one, ends, goes_on, stops_at}
use Rattle.scim_shelf_merge.proofs.merging.merge_all.Goals as goal

pub returns-in-Clashes-clause-clash : goal.returns-in-Clashes-clause-clash
returns-in-Clashes-clause-clash g c item clash same base store stands honest is below =
    let cs = c.args.resources.now in
    let i = c.loop-index.index in
    let own = c.index-resources-index.result in
    let found = c.in-Clashes.clash in
    let low : i < length cs = omega arith in
    let here = c.loop-index.invariant.merges base store stands (c.merge_one.ensures.honest honest) is below in
    let mine = subst (λ (d : Content). IsResourceBelow base d) (sym c.index-resources-index.is) (below i own low) in
    let one = c.in_ok-outcome.ensures.merged base here.0 here.2 honest here.3 mine in
    let clashes : Clashes found ≡ outcome here.0.resources own = sym c.in-Clashes.is ∙ one.0 in
    let number : i + 1 ≡ item = cc in
    let reason : found ≡ clash = cc in
    here.1 ∙ stops_at c.args.now c.args.client.now cs i own found here.0 c.loop-index.count low c.index-resources-index.is clashes
    ∙ (λ j. stopped (number j) (reason j))

pub loop-index-preserved : goal.loop-index-preserved
loop-index-preserved g c =
    let loop = c.loop-index.invariant in
    let cs = c.args.resources.now in
    let i = c.loop-index.index in
    let own = c.index-resources-index.result in
    let found = c.in_ok-outcome.outcome in
    let count = c.loop-index.count in
    let now = c.args.now in
    let client = c.args.client.now in
    let low : i < length cs = omega arith in
    record {
      number = ap (λ (m : MergeCount). m.created + m.replaced + m.unchanged) c.and-count.ensures ∙ counted_one found count c.in_default.not-Clashes ∙ ap (λ n. n + 1) loop.number;
      round = λ round has. c.merge_one.ensures.round round (loop.round round has);
      honest = λ is. loop.honest (c.merge_one.ensures.honest is);
      counts = c.in_ok-outcome.ensures.counts.ok ∙ loop.counts;
      merges = λ base store stands honest is below.
          let here = loop.merges base store stands (c.merge_one.ensures.honest honest) is below in
          let mine = subst (λ (d : Content). IsResourceBelow base d) (sym c.index-resources-index.is) (below i own low) in
          let one = c.in_ok-outcome.ensures.merged base here.0 here.2 honest here.3 mine in
          let then = merged_one now client own found here.0 in (
            then,
            here.1 ∙ goes_on now client cs i own found here.0 count low c.index-resources-index.is one.0 c.in_default.not-Clashes
                ∙ ap (λ (m : MergeCount). rest now client cs (i + 1) then m) (sym c.and-count.ensures),
            one.1,
            one.2,
          );
    }

pub returns-clause-merged : goal.returns-clause-merged
returns-clause-merged g c base store stands honest is below =
    let cs = c.args.resources.now in
    let count = c.loop-index.count in
    let now = c.args.now in
    let client = c.args.client.now in
    let here = c.loop-index.invariant.merges base store stands honest is below in
    let all : c.loop-index.index ≡ length cs = omega arith in
    (here.0, here.1 ∙ ap (λ (n : ℕ). rest now client cs n here.0 count) all ∙ ends now client cs here.0 count, here.2, here.3)
