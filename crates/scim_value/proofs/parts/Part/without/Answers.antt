use Rattle.std.proofs.Common.{◌≡◌, ◌∙◌, ap, sym, filter, List}
use Rattle.std.specs.FinMap.{entries}
use Rattle.scim_cell.specs.Place.{place_at}
use Rattle.scim_cell.specs.Content.{Content, Entry, IsPart, entries_of}
use Rattle.scim_cell.specs.Rows.{Row, AreSound, rows, rows_of, content}
use Rattle.scim_value.proofs.CloseLemmas.{kept_sound}
use Rattle.scim_value.proofs.RemoveLemmas.{is_other, entries-remove, entries-filter}
use Rattle.scim_value.proofs.RowLemmas.{same_part}
use Rattle.scim_value.proofs.TieLemmas.{rows_content, part_content}
use Rattle.scim_value.proofs.parts.Part.without.Goals as goal

pub of_rows-requires : goal.of_rows-requires
of_rows-requires c =
    let place = place_at c.args.leaf c.args.position in
    let left : entries_of c.remove_cell.new.cells.items ≡ filter (is_other place) (entries c.args.self.now.cells)
    = ap entries_of c.remove_cell.ensures ∙ entries-filter place c.in_ok-cells.cells.items ∙ ap (filter (is_other place)) c.in_ok-cells.ensures.cells in
    rw (c.kind.ensures, c.in_ok-rows.ensures, left) (kept_sound (is_other place) c.args.self.now c.in_ok-cells.ensures.valid)

-- a part of these rows is the part of them
of_content : (p c : Content) (rs : List Row) → IsPart p → p.kind ≡ c.kind → p.id ≡ c.id → rows p ≡ rs → AreSound c.kind rs → p ≡ content c.kind c.id rs
of_content p c rs valid kinds ids own sound = same_part p (content c.kind c.id rs) valid (part_content c.kind c.id rs sound) kinds ids (own ∙ sym (rows_content c.kind c.id rs sound))

pub returns : goal.returns
returns c =
    let own = c.args.self.now in
    let place = place_at c.args.leaf c.args.position in
    let sound : AreSound own.kind (rows_of (filter (is_other place) (entries own.cells))) = kept_sound (is_other place) own c.in_ok-cells.ensures.valid in
    let left : entries_of c.remove_cell.new.cells.items ≡ filter (is_other place) (entries own.cells)
    = ap entries_of c.remove_cell.ensures ∙ entries-filter place c.in_ok-cells.cells.items ∙ ap (filter (is_other place)) c.in_ok-cells.ensures.cells in
    of_content c.of_rows.result own (rows_of (filter (is_other place) (entries own.cells))) c.of_rows.ensures.valid (c.of_rows.ensures.kind ∙ c.kind.ensures) (c.of_rows.ensures.id ∙ c.id.ensures)
    (c.of_rows.ensures.rows ∙ c.in_ok-rows.ensures ∙ ap rows_of left) sound
    ∙ ap (λ (es : List Entry). content own.kind own.id (rows_of es)) (sym (entries-remove own.cells place))
