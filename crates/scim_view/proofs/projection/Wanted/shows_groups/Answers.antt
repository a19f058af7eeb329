use Rattle.std.proofs.Common.{◌≡◌, false, sym, ◌∙◌, ap}
use Rattle.scim_schema.specs.declared.Attribute.TheVariants.{Groups}
use Rattle.scim_schema.specs.declared.Kind.{Kind}
use Rattle.scim_cell.specs.Content.{Content}
use Rattle.scim_view.specs.Shown.{shows_attribute}
use Rattle.scim_view.proofs.ShownPartLemmas.{unshown_groups}
use Rattle.scim_view.proofs.projection.Wanted.shows_groups.Goals as goal

pub returns : goal.returns
returns c hidden =
    let own = c.args.resource.now in
    let wanted = c.args.self.now in
    let kind : c.kind.result ≡ own.kind = c.kind.ensures ∙ ap (λ (p : Content). p.kind) c.part-part.ensures.value in
    let none : shows_attribute wanted own.kind Groups ≡ false = sym (ap (λ (k : Kind). shows_attribute wanted k Groups) kind) ∙ sym c.shows_attribute.ensures ∙ hidden in
    unshown_groups wanted own c.part-part.ensures.valid.part none
