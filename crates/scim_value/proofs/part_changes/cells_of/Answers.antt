use Rattle.std.proofs.Common.{◌≡◌, ℕ, ◌+◌, ◌<◌, ◌∙◌, ap, sym, subst, ◌++◌, map}
use Rattle.std.specs.Prelude.{Option, None, Some}
use Rattle.scim_schema.specs.declared.Unit.{Unit as AttributeUnit}
use Rattle.scim_cell.specs.declared.rows.Field.{Field}
use Rattle.scim_cell.specs.Place.{place_at}
use Rattle.scim_cell.specs.Content.{entries_of}
use Rattle.scim_cell.specs.Rows.{next_position}
use Rattle.scim_value.proofs.NumberLemmas.{numbered_step, next_bound}
use Rattle.scim_value.proofs.part_changes.cells_of.Goals as goal

abbrev IsBelow : ℕ → Option (AttributeUnit × ℕ) → Type 0
IsBelow i None = Unit {0}
IsBelow i (Some x) = x.1 < i

some_bound : (a : AttributeUnit × ℕ) (i : ℕ) → a.1 < i → (x : AttributeUnit × ℕ) → ◌≡◌ {A = Option (AttributeUnit × ℕ)} (Some a) (Some x) → x.1 < i
some_bound a i h x e = subst (IsBelow i) e h

pub loop-row-preserved : goal.loop-row-preserved
loop-row-preserved c =
    let unit = c.unit-in-loop-row.result in
    let n = c.next_position-position.result in
    let next : n ≡ next_position c.loop-row.last unit = c.next_position-position.ensures ∙ ap (next_position c.loop-row.last) (c.unit.ensures ∙ sym c.unit-in-loop-row.ensures) in
    let more : entries_of c.append_fields.new.cells.items ≡ entries_of c.loop-row.cells.items ++ map (λ (f : Field). (place_at f.leaf n, f.atom)) c.row-item.result.fields
    = rw c.fields.ensures at c.in_ok-append_fields.ensures in (
      numbered_step c.loop-row.last c.args.rows.now c.loop-row.row-index c.row-item.result _ (entries_of c.loop-row.cells.items) _ unit n c.loop-row-test.true c.row-item.is c.unit-in-loop-row.ensures next more c.loop-row.invariant.0,
      some_bound (unit, n) (c.loop-row.row-index + 1)
          (subst (λ (m : ℕ). m < c.loop-row.row-index + 1) (sym next) (next_bound c.loop-row.last unit c.loop-row.row-index c.loop-row.invariant.1)),
    )
