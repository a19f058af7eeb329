use Rattle.std.proofs.Common.{ap, ◌∙◌, length, take, drop, ◌-◌}
use Rattle.scim_query.specs.code.Entries.{parts_of}
use Rattle.scim_query.specs.Pages.{matching}
use Rattle.scim_query.proofs.PageLemmas.{in_order_from_entries, total_from_entries, slice_from_entries}
use Rattle.scim_query.proofs.queries.search.Goals as goal

pub returns : goal.returns
returns c =
    let query = c.args.query.now in
    let found = matching query.filter c.args.parts.now in
    let es = c.in_ok-entries.entries.items in
    let fs = c.sort_entries.new.entries.items in
    record {
      total = ap length c.as_slice-sorted.ensures.value ∙ total_from_entries found es fs c.in_ok-entries.ensures.members c.sort_entries.ensures.members;
      start = c.first_position.ensures;
      sorted = parts_of fs;
      is_sorted = in_order_from_entries query found es fs c.in_ok-entries.ensures.members c.in_ok-entries.ensures.keys c.sort_entries.ensures.members c.in_ok-sort_entries.ensures.in_order c.in_ok-sort_entries.ensures.stable;
      items = c.in_ok-items.ensures ∙ ap parts_of (c.slice_of.ensures ∙ ap (λ xs. take query.count (drop (query.start - 1) xs)) c.as_slice-sorted.ensures.value) ∙ slice_from_entries query.start query.count fs;
    }
