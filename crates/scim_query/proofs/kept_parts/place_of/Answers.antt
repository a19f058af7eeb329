use Rattle.std.proofs.Common.{ℕ, ◌∙◌, sym, ap, take, map}
use Rattle.std.proofs.lemmas.List.{length-map}
use Rattle.scim_query.specs.Arranged.{placed}
use Rattle.scim_query.specs.Pagers.{keyed, most_held}
use Rattle.scim_query.specs.code.Kept.{comes_before, held_with}
use Rattle.scim_query.proofs.PagerLemmas.{first_more, page_more, page_held, page_holds, first_held, first_holds, most_first, most_on_page}
use Rattle.scim_query.proofs.kept_parts.place_of.Goals as goal

pub returns-then-is_some-clause-place : goal.returns-then-is_some-clause-place
returns-then-is_some-clause-place c found p rank many was =
    let query = c.args.query.now in
    let held = c.args.held.now in
    let part = keyed query.sort_by p in
    let after = take (most_held query) (held_with c.place_in_order.result part held) in
    let some = sym c.is_some.ensures ∙ c.if-is_some.true in
    first_holds query _ after query.sort_by some
    (first_more query found p held after (first_held query found held query.sort_by some was)
    (λ up. c.place_in_order.ensures.place part rank up ∙ ap (λ (n : ℕ). take n (placed (comes_before query.descending) part held)) (most_first query some)))

pub returns-else-is_some-clause-place : goal.returns-else-is_some-clause-place
returns-else-is_some-clause-place c found p rank many was =
    let query = c.args.query.now in
    let held = c.args.held.now in
    let part = keyed query.sort_by p in
    let after = take (most_held query) (held_with c.place_on_page.result part held) in
    let none = sym c.is_some.ensures ∙ c.if-is_some.false in
    page_holds query _ after query.sort_by none
    (page_more query found p held after (page_held query found held query.sort_by none was)
    (λ is. ap (λ (n : ℕ). take n (held_with c.place_on_page.result part held)) (most_on_page query none)
    ∙ c.place_on_page.ensures.place (map (keyed query.sort_by) found) part (many ∙ sym (length-map found (keyed query.sort_by))) is))
