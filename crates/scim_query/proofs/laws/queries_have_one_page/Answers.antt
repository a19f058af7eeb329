use Rattle.std.proofs.Common.{ap, sym, ◌∙◌}
use Rattle.scim_query.specs.Pages.{matching, slice_of}
use Rattle.scim_query.proofs.OneOrderLemmas.{one_list_in_order}
use Rattle.scim_query.proofs.laws.queries_have_one_page.Goals as goal

pub returns : goal.returns
returns c = λ parts query p q x y.
    let same = one_list_in_order query (matching query.filter parts) x.sorted y.sorted x.is_sorted y.is_sorted in
    (x.total ∙ sym y.total, x.start ∙ sym y.start, x.items ∙ ap (slice_of query.start query.count) same ∙ sym y.items)
