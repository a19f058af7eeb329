use Rattle.std.proofs.Common.{◌∙◌, ap, sym, map, drop, ℕ, List}
use Rattle.scim_cell.specs.Content.{Content}
use Rattle.scim_query.specs.declared.kept_parts.KeptPart.{KeptPart}
use Rattle.scim_query.specs.Pages.{matching}
use Rattle.scim_query.proofs.PagerLemmas.{page_held, first_held, in_order_of_id, ended_on_page, ended_in_order, none_of}
use Rattle.scim_query.proofs.pagers.Pager.end.Goals as goal
use Rattle.scim_query.proofs.pagers.Pager.end.Goals.{then-is_some, else-is_some}

pub returns : goal.returns
returns c parts was order =
    let query = c.args.self.query.now in
    let found = matching query.filter parts in
    let held = c.args.self.held.items in
    let from : ℕ → List Content = λ n. map (λ (k : KeptPart). k.part) (drop n held) in
    elim c.if-is_some.branch [
      | then-is_some w ↦
          (let first = first_held query found held query.sort_by (sym c.is_some.ensures ∙ w.if-is_some.true) was.held in
          record {
            total = was.total;
            start = c.first_position.ensures;
            sorted = first.sorted;
            is_sorted = first.is_sorted;
            items = c.in_ok-items.ensures ∙ ap from (w.first-is ∙ w.saturating_sub-first.ensures) ∙ ended_in_order query found held first;
          })
      | else-is_some w ↦
          (let none = sym c.is_some.ensures ∙ w.if-is_some.false in
          record {
            total = was.total;
            start = c.first_position.ensures;
            sorted = found;
            is_sorted = in_order_of_id query parts (none_of query.sort_by none) order;
            items = c.in_ok-items.ensures ∙ ap from w.first-is ∙ ended_on_page query found held (page_held query found held query.sort_by none was.held);
          })
    ]
