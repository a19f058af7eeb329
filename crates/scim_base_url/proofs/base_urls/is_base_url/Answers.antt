use Rattle.std.proofs.Common.{rules, ◌≡◌, ◌∙◌, sym, true, ap}
use Rattle.std.specs.Prelude.{◌&&◌}
use Rattle.scim_base_url.specs.BaseUrl as spec
use Rattle.scim_base_url.proofs.BaseLemmas.{is_base-unique}
use Rattle.scim_base_url.proofs.base_urls.is_base_url.Goals as goal
use Rattle.scim_base_url.proofs.base_urls.is_base_url.Goals.{then-is_base, else-is_base}

pub returns-after-is_base : goal.returns-after-is_base
returns-after-is_base c =
    let spelled = c.in-Ok.ensures.ok in
    let value : c.if-is_base.result ≡ (spec.is_base c.in-Ok.url && spec.is_location_prefix c.args.text.now) =
    elim c.if-is_base.branch [ then-is_base w ↦ search rules | else-is_base w ↦ search rules ] in (
      λ yes. (c.in-Ok.url, spelled, sym value ∙ yes),
      λ g. value ∙ ap (λ b. b && spec.is_location_prefix c.args.text.now) (is_base-unique c.args.text.now c.in-Ok.url g.0 spelled g.1) ∙ g.2,
    )
