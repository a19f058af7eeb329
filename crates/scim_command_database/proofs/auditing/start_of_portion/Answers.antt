use Rattle.std.proofs.Common.{◌≡◌, ◌≤◌, ℕ, ◌+◌, ◌-◌, ◌∙◌, length, max, ap, arith}
use Rattle.sqlite.specs.Effect.{Database}
use Rattle.sqlite.specs.Held.{state}
use Rattle.scim_audit_listing.specs.Listings.{fitting}
use Rattle.scim_shelf.specs.Stores.{Store}
use Rattle.scim_store.specs.Shelves.{IsKeptIn}
use Rattle.scim_store.specs.SqlShelves.{base_of, connection_of, rows_of}
use Rattle.scim_command_database.proofs.AuditLemmas.{few_read}
use Rattle.scim_command_database.proofs.BlockLemmas.{counted_more, found_all, found_there}
use Rattle.scim_command_database.proofs.ReadLemmas.{spares_more}
use Rattle.scim_command_database.proofs.auditing.start_of_portion.Goals as goal

pub returns-in_err-rows-clause-spares : goal.returns-in_err-rows-clause-spares
returns-in_err-rows-clause-spares g c =
    let shelf = c.args.shelf.now in
    spares_more (IsKeptIn (base_of shelf) (state g.S.Store (connection_of shelf)) (rows_of shelf)) (state g.S.Store (connection_of shelf)) (state g.S.Store (connection_of c.loop-end.shelf)) (state g.S.Store (connection_of c.audit_rows.new.self))
    c.loop-end.invariant.same c.loop-end.invariant.spares c.audit_rows.ensures.spares

pub returns-then-found-left-clause-spares : goal.returns-then-found-left-clause-spares
returns-then-found-left-clause-spares g c =
    let shelf = c.args.shelf.now in
    spares_more (IsKeptIn (base_of shelf) (state g.S.Store (connection_of shelf)) (rows_of shelf)) (state g.S.Store (connection_of shelf)) (state g.S.Store (connection_of c.loop-end.shelf)) (state g.S.Store (connection_of c.audit_rows.new.self))
    c.loop-end.invariant.same c.loop-end.invariant.spares c.audit_rows.ensures.spares

pub returns-then-found-left-clause-same : goal.returns-then-found-left-clause-same
returns-then-found-left-clause-same g c = λ store kept clean.
    let loop = c.loop-end.invariant in
    let unchanged = c.in_ok-rows.ensures.unchanged store (loop.keeps store kept) clean in
    ap (λ (d : Database). d.schema) unchanged.0.now_is ∙ loop.same store kept (c.audit_rows.ensures.read.honest clean)

pub returns-then-found-left-clause-start : goal.returns-then-found-left-clause-start
returns-then-found-left-clause-start g c = λ store kept clean.
    let loop = c.loop-end.invariant in
    let which = c.args.listing.now.filter in
    let from = c.args.listing.now.from in
    let start = c.max-start.result in
    let end = c.loop-end.end in
    let n = end - start + 1 in
    let index = c.start_of_last-index.result.0 in
    let rows = c.in_ok-rows.rows.items in
    let are = c.in_ok-rows.ensures.answer store (loop.keeps store kept) clean in
    let low : 1 ≤ start = omega (arith, c.max-start.ensures, c.max-first.ensures) in
    let above : max from 1 ≤ start = omega (arith, c.max-start.ensures, c.max-first.ensures) in
    let few = few_read which start n store rows low are in
    let slice = c.as_slice.ensures.value in
    let within = rw slice at c.start_of_last-index.ensures.within in
    let last = (rw slice at c.start_of_last-index.ensures.start) start in
    let is = (rw slice at c.start_of_last-index.ensures.count) start in
    let whole : start + n ≡ end + 1 = omega (arith, c.max-start.ensures, c.max-first.ensures, c.saturating_sub.ensures, c.loop-end-test.true) in
    let so_far = ap (λ (k : ℕ). length (fitting which k store.audit) + c.loop-end.left) whole ∙ loop.counted store kept (c.audit_rows.ensures.read.honest clean) in
    let sum : c.saturating_add.result ≡ start + index = omega (arith, c.saturating_add.ensures, within, few, whole, loop.bounded) in
    ap (λ (k : ℕ). fitting which k store.audit) sum
    ∙ found_there which from store start n c.loop-end.left c.start_of_last-index.result.1 c.args.count index rows low above are within last is c.if-found-left.true so_far

pub overflow_sub-left : goal.overflow_sub-left
overflow_sub-left g c = omega (arith, c.start_of_last-index.ensures.count 0)

pub loop-end-preserved : goal.loop-end-preserved
loop-end-preserved g c =
    let shelf = c.args.shelf.now in
    let loop = c.loop-end.invariant in
    let which = c.args.listing.now.filter in
    let start = c.max-start.result in
    let end = c.loop-end.end in
    let n = end - start + 1 in
    let rows = c.in_ok-rows.rows.items in
    record {
      few = omega (arith, loop.few);
      bounded = omega (arith, loop.bounded, c.max-start.ensures, c.max-first.ensures, c.saturating_sub.ensures, c.loop-end-test.true);
      counted = λ store kept clean.
          let are = c.in_ok-rows.ensures.answer store (loop.keeps store kept) clean in
          let low : 1 ≤ start = omega (arith, c.max-start.ensures, c.max-first.ensures) in
          let is = (rw c.as_slice.ensures.value at c.start_of_last-index.ensures.count) start in
          let whole : start + n ≡ end + 1 = omega (arith, c.max-start.ensures, c.max-first.ensures, c.saturating_sub.ensures, c.loop-end-test.true) in
          let so_far = ap (λ (k : ℕ). length (fitting which k store.audit) + c.loop-end.left) whole ∙ loop.counted store kept (c.audit_rows.ensures.read.honest clean) in
          let at : start - 1 + 1 ≡ start = omega (arith, low) in
          ap (λ (k : ℕ). length (fitting which k store.audit) + (c.loop-end.left - c.start_of_last-index.result.1)) at
          ∙ counted_more which c.args.listing.now.from store start n c.loop-end.left c.start_of_last-index.result.1 c.args.count rows low are is c.if-found-left.false so_far;
      keeps = λ store kept. c.audit_rows.ensures.read.store store (loop.keeps store kept);
      honest = λ clean. loop.honest (c.audit_rows.ensures.read.honest clean);
      spares = spares_more (IsKeptIn (base_of shelf) (state g.S.Store (connection_of shelf)) (rows_of shelf)) (state g.S.Store (connection_of shelf)) (state g.S.Store (connection_of c.loop-end.shelf)) (state g.S.Store (connection_of c.audit_rows.new.self))
          loop.same loop.spares c.audit_rows.ensures.spares;
      same = λ store kept clean.
          let unchanged = c.in_ok-rows.ensures.unchanged store (loop.keeps store kept) clean in
          ap (λ (d : Database). d.schema) unchanged.0.now_is ∙ loop.same store kept (c.audit_rows.ensures.read.honest clean);
    }

pub returns-clause-start : goal.returns-clause-start
returns-clause-start g c = λ store kept clean.
    let which = c.args.listing.now.filter in
    ap (λ (k : ℕ). fitting which k store.audit) c.max-first.ensures
    ∙ found_all which c.args.listing.now.from store c.loop-end.end c.loop-end.left c.args.count (omega (arith, c.loop-end-test.false, c.max-first.ensures)) (c.loop-end.invariant.counted store kept clean)
