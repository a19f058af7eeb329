use Rattle.std.proofs.Common.{◌≡◌, ◌<◌, ◌≤◌, ◌-◌, ℕ, sym, subst, arith, true, false, get_or, length, List, ◌∷◌}
use Rattle.std.specs.List.Sorted.{IsPartitionPoint}
use Rattle.std.specs.Ordering.{is_lt}
use Rattle.scim_schema.specs.declared.Unit.{Unit as AttributeUnit}
use Rattle.scim_cell.specs.Place.{unit_cmp}
use Rattle.scim_cell.specs.Rows.{Row}
use Rattle.scim_patch_steps.specs.declared.unit_rows.UnitRows.{UnitRows}
use Rattle.scim_patch_steps.proofs.GroupLemmas.{IsGrouped, starts, grouped_more}
use Rattle.scim_patch_steps.proofs.unit_rows.grouped.Goals as goal

abbrev IsPoint : AttributeUnit → List Row → ℕ → Type 0
IsPoint u rs i = IsPartitionPoint (λ (r : Row). is_lt (unit_cmp r.unit u) ≡ true) (λ (r : Row). is_lt (unit_cmp r.unit u) ≡ false) rs i

pub loop-last-smaller : goal.loop-last-smaller
loop-last-smaller c =
    let rs = c.loop-last.rows.items in
    let last = c.in-Some.last.now in
    let is : last ≡ get_or rs (length rs - 1) last = subst (λ xs. last ≡ get_or xs (length xs - 1) last) c.deref.ensures.value c.in-Some.ensures.item.1 in
    let some : 0 < length rs = subst (λ xs. 0 < length xs) c.deref.ensures.value c.in-Some.ensures.item.3.0 in
    let within = subst (λ xs. c.start_of-start.result ≤ length xs) c.as_slice.ensures.value c.start_of-start.ensures.bound in
    let point = subst (λ xs. IsPoint last.unit xs c.start_of-start.result) c.as_slice.ensures.value (subst (λ u. IsPoint u c.as_slice.result.now c.start_of-start.result) c.unit-unit.ensures c.start_of-start.ensures.point) in
    let fewer = starts c.args.rows.items rs c.loop-last.groups.items c.loop-last.invariant last is some c.start_of-start.result within point in
    omega (arith, fewer, c.in_ok-own.ensures.len, c.loop-last.rows.ok)

pub loop-last-preserved : goal.loop-last-preserved
loop-last-preserved c =
    let rs = c.loop-last.rows.items in
    let last = c.in-Some.last.now in
    let is : last ≡ get_or rs (length rs - 1) last = subst (λ xs. last ≡ get_or xs (length xs - 1) last) c.deref.ensures.value c.in-Some.ensures.item.1 in
    let some : 0 < length rs = subst (λ xs. 0 < length xs) c.deref.ensures.value c.in-Some.ensures.item.3.0 in
    let within = subst (λ xs. c.start_of-start.result ≤ length xs) c.as_slice.ensures.value c.start_of-start.ensures.bound in
    let point = subst (λ xs. IsPoint last.unit xs c.start_of-start.result) c.as_slice.ensures.value (subst (λ u. IsPoint u c.as_slice.result.now c.start_of-start.result) c.unit-unit.ensures c.start_of-start.ensures.point) in
    let g : UnitRows = record { unit = c.unit-unit.result; rows = c.in_ok-own.own } in
    let more = grouped_more c.args.rows.items rs c.loop-last.groups.items c.loop-last.invariant last is some c.start_of-start.result within point g c.unit-unit.ensures c.in_ok-own.ensures.tail in
    let left = subst (λ xs. IsGrouped c.args.rows.items xs (g ∷ c.loop-last.groups.items)) (sym c.in_ok-own.ensures.items) more in
    subst (IsGrouped c.args.rows.items c.split_off.new.self.items) (sym c.in_ok-insert.ensures) left
