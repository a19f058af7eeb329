use Rattle.std.proofs.Common.{sym, ◌∙◌, ap}
use Rattle.std.specs.Prelude.{option_map, option_and_then}
use Rattle.std.specs.List.{after_first}
use Rattle.scim_route.specs.Targets.{is_slash}
use Rattle.scim_route.specs.code.Places.{place_at, led}
use Rattle.scim_route.proofs.EndpointLemmas.{led_by_path}
use Rattle.scim_route.proofs.endpoints.in_segments.Goals as goal

pub returns : goal.returns
returns c =
    let segments = c.args.segments.now in
    c.endpoint_at.ensures ∙ ap (led c.in_ok-leads.leads) c.behind_slash.ensures
    ∙ ap (option_and_then (λ l. led l (after_first is_slash segments))) c.in_ok-leads.ensures ∙ led_by_path segments

pub returns-in_err-leads : goal.returns-in_err-leads
returns-in_err-leads c =
    let segments = c.args.segments.now in
    ap (option_map place_at) c.from_residual.ensures
    ∙ ap (option_and_then (λ l. led l (after_first is_slash segments))) (sym c.in_err-leads.was ∙ c.leads.ensures) ∙ led_by_path segments
