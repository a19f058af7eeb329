use Rattle.std.proofs.Common.{◌≡◌, true, sym, ◌∙◌, ap}
use Rattle.std.specs.List.{list_all}
use Rattle.scim_cell.specs.Rows.{Row}
use Rattle.scim_view.specs.Shown.{shows}
use Rattle.scim_view.proofs.PartLemmas.{passed_rows}
use Rattle.scim_view.proofs.projection.project_rows.Goals as goal

pub returns-then-shows_all : goal.returns-then-shows_all
returns-then-shows_all c =
    let keeps = shows c.args.shown.now.wanted.now c.args.shown.now.kind in
    let all : list_all (λ (r : Row). list_all (λ f. keeps f.leaf) r.fields) c.args.rows.items ≡ true =
    sym (ap (list_all (λ (r : Row). list_all (λ f. keeps f.leaf) r.fields)) c.as_slice.ensures.value) ∙ sym c.shows_all.ensures ∙ c.if-shows_all.true in
    sym (passed_rows keeps c.args.rows.items all c.requires)
