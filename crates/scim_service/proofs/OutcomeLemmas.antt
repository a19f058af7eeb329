-- The outcome of a GET makes its plan.
use Rattle.std.proofs.Common.{◌≡◌, refl, sym, ◌∙◌, ap, subst, ℕ, List}
use Rattle.std.specs.Prelude.{Option, None, Some}
use Rattle.std.specs.List.{FoldsTo}
use Rattle.scim_schema.specs.declared.Kind.TheVariants.{Group}
use Rattle.scim_cell.specs.Content.{Content}
use Rattle.scim_cell.specs.Kinds.{of_kind}
use Rattle.scim_policy.specs.declared.rules.Decision.{Decision}
use Rattle.scim_view.specs.declared.projection.Wanted.{Wanted}
use Rattle.scim_view.specs.View.{Viewer, viewer_of}
use Rattle.scim_shelf.specs.declared.changes.Change.TheVariants.{Nothing}
use Rattle.scim_shelf.specs.Stores.{those_found}
use Rattle.scim_service.specs.declared.requests.Turn.{Turn}
use Rattle.scim_service.specs.declared.plans.Plan.{Plan}
use Rattle.scim_service.specs.declared.replies.Reply.TheVariants.{Shown}
use Rattle.scim_service.specs.declared.get_plans.Outcome.{Outcome}
use Rattle.scim_service.specs.declared.get_plans.GetVisitor.{GetVisitor}
use Rattle.scim_service.specs.Step.{absence_plan, allowed_row, get_plan, hidden_plan, plan_for_seen}
use Rattle.scim_service.specs.code.Outcomes.{IsLent, TakesLent}
use Rattle.scim_service.proofs.PlanLemmas.{got_is}
use Rattle.scim_service.proofs.ReplaceLemmas.{hidden_is}

-- a visitor without an outcome that was lent what a look-up found has the outcome of that
pub lent : (old new : GetVisitor) (found : Option Content) → FoldsTo TakesLent old (those_found found) new → old.outcome ≡ None
    → IsLent (viewer_of old.viewer.now) old.wanted.now found new.outcome
lent old new None same none = ap (λ (v : GetVisitor). v.outcome) (sym same) ∙ none
lent old new (Some c) folds none = subst (λ (v : GetVisitor). IsLent (viewer_of old.viewer.now) old.wanted.now (Some c) v.outcome) folds.2 folds.1

pub absent_outcome : (v : Viewer) (wanted : Wanted) (turn : Turn) (next : Content → Plan) (found : Option Content) → IsLent v wanted found None
    → absence_plan turn ≡ plan_for_seen v turn next found
absent_outcome v wanted turn next None is = refl
absent_outcome v wanted turn next (Some c) is = absurd is

pub hidden_outcome : (v : Viewer) (wanted : Wanted) (turn : Turn) (next : Content → Plan) (found : Option Content) (d : Decision) → IsLent v wanted found (Some (Outcome.Hidden d))
    → hidden_plan turn d ≡ plan_for_seen v turn next found
hidden_outcome v wanted turn next None d is = cc
hidden_outcome v wanted turn next (Some c) d is = hidden_is v turn next c (Some c) d is.0 is.1 refl

pub told_outcome : (v : Viewer) (wanted : Wanted) (turn : Turn) (cs : List Content) (found : Option Content) (d : Decision) (text : List ℕ) → IsLent v wanted found (Some (Outcome.Told d text))
    → record { reply = Shown text; change = Nothing; row = allowed_row turn d.rule } ≡ plan_for_seen v turn (get_plan v turn cs wanted) found
told_outcome v wanted turn cs None d text is = cc
told_outcome v wanted turn cs (Some c) d text is = got_is v turn cs wanted c text (allowed_row turn d.rule) d (is.2 (of_kind Group cs)) refl is.0 is.1

pub copied_outcome : (v : Viewer) (wanted : Wanted) (found : Option Content) (own : Content) → IsLent v wanted found (Some (Outcome.Copy own)) → Some own ≡ found
copied_outcome v wanted None own is = cc
copied_outcome v wanted (Some c) own is = ap (λ (d : Content). Some d) is
