use Rattle.std.proofs.Common.{◌∙◌}
use Rattle.scim_policy.proofs.TableLemmas.{paths_step}
use Rattle.scim_policy.proofs.decisions.Decisions.add_paths.Goals as goal

pub loop-path-preserved : goal.loop-path-preserved
loop-path-preserved c m =
    paths_step c.args.paths.now c.loop-path.path-index _ c.args.decision m _ _ c.loop-path-test.true (c.in_ok-add_path.ensures m) ∙ c.loop-path.invariant m
