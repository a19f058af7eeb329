use Rattle.std.proofs.Common.{◌≡◌, ◌∙◌, ap, subst, sym, List}
use Rattle.std.specs.Prelude.{Result, Ok, Err, IfOk}
use Rattle.std.specs.FinMap.{entries, put, insert}
use Rattle.scim_schema.specs.declared.Kind.{Kind}
use Rattle.scim_text.proofs.Facts.{OnFault-weaker}
use Rattle.scim_cell.specs.declared.atoms.Atom.{Atom}
use Rattle.scim_cell.specs.declared.places.Place.{Place}
use Rattle.scim_cell.specs.Place.{place_cmp, place_at}
use Rattle.scim_cell.specs.Content.{Content, Entry, entries_of, AreSortedPartCells}
use Rattle.scim_value.proofs.RowLemmas.{sorted_entries}
use Rattle.scim_value.proofs.PutLemmas.{content_put, not_part_put}
use Rattle.scim_value.proofs.parts.Part.with.Goals as goal

pub put_cell-requires : goal.put_cell-requires
put_cell-requires c = rw c.in_ok-cells.ensures.cells (sorted_entries c.args.self.now)

put_ok : {E : Type 0} (r : Result Content E) (c : Content) (k : Place) (v : Atom) (es : List Entry) → IfOk r (λ p. p.kind ≡ c.kind) → IfOk r (λ p. p.id ≡ c.id) → IfOk r (λ p. entries p.cells ≡ es) → es ≡ put place_cmp k v (entries c.cells)
    → IfOk r (λ p. p ≡ record c { cells = insert c.cells k v })
put_ok (Ok p) c k v es kinds ids held puts = content_put p c k v es kinds ids held puts
put_ok (Err e) c k v es kinds ids held puts = tt

pub returns : goal.returns
returns c =
    let own = c.args.self.now in
    let place = place_at c.args.leaf c.args.position in
    let puts : entries_of c.put_cell.new.cells.items ≡ put place_cmp place c.args.atom (entries own.cells)
    = c.in_ok-put_cell.ensures ∙ ap (put place_cmp place c.args.atom) c.in_ok-cells.ensures.cells in
    record {
      ok = put_ok c.of_sorted.result own place c.args.atom _ (rw c.kind.ensures at c.of_sorted.ensures.kind) (rw c.id.ensures at c.of_sorted.ensures.id) c.of_sorted.ensures.cells puts;
      invalid = OnFault-weaker c.of_sorted.result _ _ (λ none. not_part_put own place c.args.atom _ puts
          (λ h. none (subst (λ (k : Kind). AreSortedPartCells k (entries_of c.put_cell.new.cells.items)) (sym c.kind.ensures) h)))
          c.of_sorted.ensures.invalid;
    }
