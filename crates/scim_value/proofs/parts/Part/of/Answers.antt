use Rattle.std.proofs.Common.{◌≡◌, subst, rules}
use Rattle.std.specs.List.Sorted.{IsPermutation}
use Rattle.std.specs.Ordering.{is_lt}
use Rattle.std.specs.FinMap.{entries}
use Rattle.std.proofs.lemmas.Fn.{always_returns_same}
use Rattle.std.proofs.lemmas.Result.{IfOk-weaker}
use Rattle.std.proofs.lemmas.List.MinMax.{ranks_by}
use Rattle.std.proofs.lemmas.List.Sorted.{IsPermutation-map}
use Rattle.scim_schema.specs.declared.Kind.{Kind}
use Rattle.scim_text.proofs.Facts.{OnFault-weaker}
use Rattle.scim_cell.specs.declared.cells.Cell.{Cell}
use Rattle.scim_cell.specs.Place.{place_cmp}
use Rattle.scim_cell.specs.Content.{Content, place_of, entry_of, entries_of, ArePartCells, AreSortedPartCells, AreCellsOfAPart}
use Rattle.scim_value.proofs.PlaceLemmas.{place_total}
use Rattle.scim_value.proofs.RowLemmas.{sorted_entries}
use Rattle.scim_value.proofs.PermutationLemmas.{weakly_sorted, sorted_part, cells_of_a_part}
use Rattle.scim_value.proofs.parts.Part.of.Goals as goal

pub returns-clause-cells : goal.returns-clause-cells
returns-clause-cells c =
    let moved = IsPermutation-map entry_of _ _ c.sort_unstable_by.ensures.permutation in
    IfOk-weaker c.of_sorted.result (λ (p : Content). entries p.cells ≡ entries_of c.sort_unstable_by.new.self.items) (λ (p : Content). IsPermutation (entries_of c.args.cells.items) (entries p.cells))
    (λ p e. rw e moved) c.of_sorted.ensures.cells

pub returns-clause-valid : goal.returns-clause-valid
returns-clause-valid c =
    let moved = IsPermutation-map entry_of _ _ c.sort_unstable_by.ensures.permutation in
    IfOk-weaker c.of_sorted.result (λ (p : Content). AreSortedPartCells c.args.kind (entries_of c.sort_unstable_by.new.self.items)) (λ (p : Content). AreCellsOfAPart c.args.kind (entries_of c.args.cells.items))
    (λ p h. cells_of_a_part c.args.kind _ _ h moved) c.of_sorted.ensures.valid

pub returns-clause-invalid : goal.returns-clause-invalid
returns-clause-invalid c = OnFault-weaker c.of_sorted.result _ _ (λ none own.
    (let cells = c.sort_unstable_by.new.self.items in
    let weak = weakly_sorted cells
    (c.sort_unstable_by.ensures.sorted (λ (x : Cell) (y : Cell). is_lt (place_cmp (place_of x) (place_of y))) (ranks_by place_total place_of) (always_returns_same _ _ _ (λ a r f' h. (search rules, search rules)))) in
    let part : ArePartCells c.args.kind (entries own.0.cells) = subst (λ (k : Kind). ArePartCells k (entries own.0.cells)) own.1 own.2 in
    none
    (sorted_part c.args.kind (entries_of c.args.cells.items) (entries_of cells) (entries own.0.cells) (sorted_entries own.0) part own.3 (IsPermutation-map entry_of _ _ c.sort_unstable_by.ensures.permutation) weak)))
    c.of_sorted.ensures.invalid
