use Rattle.std.proofs.Common.{◌≡◌, true, sym, ◌∙◌, ap, subst, map}
use Rattle.std.specs.Prelude.{All}
use Rattle.std.proofs.lemmas.Result.{IfOk-weaker}
use Rattle.scim_schema.specs.declared.Kind.TheVariants.{User}
use Rattle.scim_cell.specs.Rows.{Row, by_leaf, has_fields, restricted}
use Rattle.scim_policy.specs.PatternTable.{rules_in}
use Rattle.scim_view.specs.View.{decision_in, may_be_seen}
use Rattle.scim_view.specs.Groups.{membership_at}
use Rattle.scim_view.specs.Shown.{shows}
use Rattle.scim_cell.proofs.Facts.{restricted_further}
use Rattle.scim_view.proofs.ShownPartLemmas.{left_full}
use Rattle.scim_view.proofs.shown_parts.shown_memberships.Goals as goal

pub project_rows-requires : goal.project_rows-requires
project_rows-requires c =
    let test = may_be_seen (decision_in (rules_in c.args.patterns.now)) User in
    subst (All (λ (r : Row). has_fields r ≡ true)) (sym c.in_ok-values.ensures) (left_full test (map (membership_at c.args.base.now) c.args.groups.now))

pub returns : goal.returns
returns c =
    let test = may_be_seen (decision_in (rules_in c.args.patterns.now)) User in
    let keeps = shows c.args.wanted.now User in
    let ms = map (membership_at c.args.base.now) c.args.groups.now in
    IfOk-weaker c.project_rows.result _ _
    (λ v e. e ∙ ap (restricted (by_leaf keeps)) c.in_ok-values.ensures ∙ restricted_further test keeps ms)
    c.project_rows.ensures
