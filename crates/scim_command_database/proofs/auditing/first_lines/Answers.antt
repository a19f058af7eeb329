use Rattle.std.proofs.Common.{◌∙◌, ap, arith, string_bytes, take}
use Rattle.sqlite.specs.Effect.{Database}
use Rattle.sqlite.specs.Held.{state}
use Rattle.scim_audit_listing.specs.Listings.{fitting, lines}
use Rattle.scim_shelf.specs.Stores.{Store}
use Rattle.scim_store.specs.Shelves.{IsKeptIn}
use Rattle.scim_store.specs.SqlShelves.{base_of, connection_of, rows_of}
use Rattle.scim_command_database.proofs.AuditLemmas.{few_read}
use Rattle.scim_command_database.proofs.BlockLemmas.{numbers_fit, told_more}
use Rattle.scim_command_database.proofs.ReadLemmas.{spares_more}
use Rattle.scim_command_database.proofs.auditing.first_lines.Goals as goal

pub returns-in_err-rows-clause-spares : goal.returns-in_err-rows-clause-spares
returns-in_err-rows-clause-spares g c =
    let shelf = c.args.shelf.now in
    spares_more (IsKeptIn (base_of shelf) (state g.S.Store (connection_of shelf)) (rows_of shelf)) (state g.S.Store (connection_of shelf)) (state g.S.Store (connection_of c.loop-left.shelf)) (state g.S.Store (connection_of c.audit_rows.new.self))
    c.loop-left.invariant.same c.loop-left.invariant.spares c.audit_rows.ensures.spares

pub returns-in_err-left-clause-spares : goal.returns-in_err-left-clause-spares
returns-in_err-left-clause-spares g c =
    let shelf = c.args.shelf.now in
    spares_more (IsKeptIn (base_of shelf) (state g.S.Store (connection_of shelf)) (rows_of shelf)) (state g.S.Store (connection_of shelf)) (state g.S.Store (connection_of c.loop-left.shelf)) (state g.S.Store (connection_of c.audit_rows.new.self))
    c.loop-left.invariant.same c.loop-left.invariant.spares c.audit_rows.ensures.spares

pub loop-left-preserved : goal.loop-left-preserved
loop-left-preserved g c =
    let shelf = c.args.shelf.now in
    let loop = c.loop-left.invariant in
    let which = c.args.listing.now.filter in
    let format = c.args.listing.now.format in
    let next = c.loop-left.next in
    let rows = c.in_ok-rows.rows.items in
    record {
      low = omega arith;
      high = omega (arith, c.if-next-last.true);
      bounded = loop.bounded;
      told = λ store kept clean.
          let are = c.in_ok-rows.ensures.answer store (loop.keeps store kept) clean in
          let few = few_read which next 1000 store rows loop.low are in
          let slice = c.as_slice-rows.ensures.value in
          let fit = numbers_fit next 1000 c.audit_count-last.result rows c.if-next-last.true loop.bounded few (omega arith) in
          let wrote = (rw slice at c.in_ok-left.ensures.lines) fit in
          let counted = rw slice at c.in_ok-left.ensures.count in
          told_more which c.args.from store format next 1000 c.loop-left.left c.in_ok-left.field-0 rows (string_bytes c.loop-left.text) (string_bytes c.add_lines.new.text) (lines format (take c.args.count (fitting which c.args.from store.audit)))
          loop.low are wrote counted (loop.told store kept (c.audit_rows.ensures.read.honest clean));
      keeps = λ store kept. c.audit_rows.ensures.read.store store (loop.keeps store kept);
      honest = λ clean. loop.honest (c.audit_rows.ensures.read.honest clean);
      spares = spares_more (IsKeptIn (base_of shelf) (state g.S.Store (connection_of shelf)) (rows_of shelf)) (state g.S.Store (connection_of shelf)) (state g.S.Store (connection_of c.loop-left.shelf)) (state g.S.Store (connection_of c.audit_rows.new.self))
          loop.same loop.spares c.audit_rows.ensures.spares;
      same = λ store kept clean.
          let unchanged = c.in_ok-rows.ensures.unchanged store (loop.keeps store kept) clean in
          ap (λ (d : Database). d.schema) unchanged.0.now_is ∙ loop.same store kept (c.audit_rows.ensures.read.honest clean);
    }
