use Rattle.std.proofs.Common.{◌∙◌, ap, ◌++◌, ◌∷◌, [], Option}
use Rattle.scim_policy_file.specs.declared.rule_paths.RulePath.{RulePath}
use Rattle.scim_policy_file.specs.declared.rule_paths.Standing.{Standing}
use Rattle.scim_policy_file.specs.Paths.{path_named, with_filter, without_filter}
use Rattle.scim_policy_file.specs.code.Standings.{filtered_in, plain_in, standing_of}
use Rattle.scim_policy_file.proofs.PathLemmas.{entries_more, standings_more}
use Rattle.scim_policy_file.proofs.rule_paths.paths_for.Goals as goal

pub loop-text-preserved : goal.loop-text-preserved
loop-text-preserved c =
    let texts = c.args.texts.now in
    let i = c.loop-text.text-index in
    let plain = c.loop-text.plain.items in
    let filtered = c.loop-text.filtered.items in
    let standings = c.loop-text.standings.items in (
      c.in_ok-push_path.ensures.plain ∙ ap (λ (o : Option RulePath). plain ++ plain_in o) c.in_ok-path.ensures
          ∙ entries_more (λ t. path_named c.args.version t c.args.kind) without_filter texts i _ plain c.loop-text-test.true c.loop-text.invariant.0,
      c.in_ok-push_path.ensures.filtered ∙ ap (λ (o : Option RulePath). filtered ++ filtered_in o) c.in_ok-path.ensures
          ∙ entries_more (λ t. path_named c.args.version t c.args.kind) with_filter texts i _ filtered c.loop-text-test.true c.loop-text.invariant.1,
      c.in_ok-push.ensures.items ∙ ap (λ (s : Standing). standings ++ s ∷ []) (c.standing_of-standing.ensures ∙ ap (standing_of c.args.ops.now) c.in_ok-path.ensures)
          ∙ standings_more (λ t. standing_of c.args.ops.now (path_named c.args.version t c.args.kind)) c.args.standings.now.items standings texts i _ c.loop-text-test.true c.loop-text.invariant.2,
    )
