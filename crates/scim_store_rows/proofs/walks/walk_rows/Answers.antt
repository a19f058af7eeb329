use Rattle.std.proofs.Common.{rules, ◌≡◌, ◌++◌, ◌∷◌, [], None, Some, refl, ◌∙◌, arith}
use Rattle.sqlite.specs.State.{HasCleanDisk}
use Rattle.sqlite.specs.Held.{state}
use Rattle.sqlite.specs.Given.{row_if, IsRefused}
use Rattle.sqlite.proofs.Callers.{unchanged_then, given_begin}
use Rattle.scim_cell.specs.Kinds.{of_kind}
use Rattle.scim_store_tables.specs.declared.versions.Version.TheVariants.{Two}
use Rattle.scim_store_tables.proofs.Facts.{resources_text, asks_resources}
use Rattle.scim_store_tables.proofs.Facts.{asks_spare, failed_rests, unchanged_rests}
use Rattle.scim_shelf.specs.Stores.{Store}
use Rattle.scim_shelf.specs.Shelves.{TookPrefix}
use Rattle.scim_store_rows.specs.Finding.{StandsIn}
use Rattle.scim_store_rows.specs.code.Finding.{KnowsCodes}
use Rattle.scim_store_rows.proofs.FindLemmas.{rests_then}
use Rattle.scim_store_rows.proofs.SpareLemmas.{spares_step}
use Rattle.scim_store_rows.proofs.WalkLemmas.{took_none, took_more, took_all, took_prefix, took_nothing, any_err, same_err, begun_here, stands_tables}
use Rattle.scim_store_rows.proofs.walks.walk_rows.Goals as goal

pub rows-init : goal.rows-init
rows-init g c =
    let made = c.in_ok-rows.ensures in
    record {
      same_reference = refl;
      mode = made.mode;
      spares = asks_spare resources_text [] (state g.S.Store c.args.conn.now) (state g.S.Store c.in_ok-rows.rows.conn.now) _ asks_resources made.survives;
      given = ([], (λ store stands clean. begun_here g.S.Store resources_text _ asks_resources c.args.conn.now c.in_ok-rows.rows.conn.now (stands_tables c.args.base.now (state g.S.Store c.args.conn.now) store stands) (made.begun clean)), took_none g.V.Visitor.takes c.args.base.now c.args.kind c.args.codes.now c.args.visitor.now);
    }

pub rows-preserved : goal.rows-preserved
rows-preserved g c =
    let inv = c.rows.invariant in
    let row = c.in-Some.row.now in
    let some : row_if c.advance.new.self.has_row c.advance.new.self.conn.now ≡ Some row = search rules in
    record {
      same_reference = c.in_ok-advance.ensures.same_reference ∙ inv.same_reference;
      mode = λ m. c.in_ok-advance.ensures.mode (inv.mode m);
      spares = spares_step Two (state g.S.Store c.args.conn.now) (state g.S.Store c.rows.rows.conn.now) (state g.S.Store c.advance.new.self.conn.now) inv.spares c.in_ok-advance.ensures.survives;
      given = (
        inv.given.0 ++ row ∷ [],
        (λ store stands clean.
            let it = inv.given.1 store stands (omega (arith, clean, c.in_ok-advance.ensures.survives.clean)) in
            let next = (rw some at (c.in_ok-advance.ensures.ok clean)) resources_text [] inv.given.0 it.0 in
            (next, unchanged_then (state g.S.Store c.args.conn.now) (state g.S.Store c.rows.rows.conn.now) (state g.S.Store c.advance.new.self.conn.now) it.1 (c.in_ok-advance.ensures.same clean))),
        took_more g.V.Visitor.takes c.args.base.now c.args.kind c.args.codes.now c.args.visitor.now c.rows.visitor c.show_row.new.visitor inv.given.0 row inv.given.2 c.in_ok-show_row.ensures.shown,
      );
    }

pub returns-in_default-clause-shown : goal.returns-in_default-clause-shown
returns-in_default-clause-shown g c clean store stands coded =
    let first = state g.S.Store c.args.conn.now in
    let old = state g.S.Store c.rows.rows.conn.now in
    let new = state g.S.Store c.advance.new.self.conn.now in
    let late : HasCleanDisk new = search rules in
    let mid : HasCleanDisk old = omega (arith, late, c.advance.ensures.survives.clean) in
    let it = c.rows.invariant.given.1 store stands mid in
    let none : row_if c.advance.new.self.has_row c.advance.new.self.conn.now ≡ None = search rules in
    let shown = (rw none at (c.in_ok-advance.ensures.ok late)) resources_text [] c.rows.invariant.given.0 it.0 in
    let last : c.conn-in_default-1.given.0 ≡ c.advance.new.self.conn.now = search rules in
    rw last (took_all g.V.Visitor.takes c.args.base.now c.args.kind c.args.codes.now first old new c.rows.invariant.given.0 c.args.visitor.now c.rows.visitor store stands coded it.1 (unchanged_then first old new it.1 (c.in_ok-advance.ensures.same late)) shown c.rows.invariant.given.2)

pub returns-in_default-clause-rests : goal.returns-in_default-clause-rests
returns-in_default-clause-rests g c clean store stands =
    let first = state g.S.Store c.args.conn.now in
    let old = state g.S.Store c.rows.rows.conn.now in
    let new = state g.S.Store c.advance.new.self.conn.now in
    let late : HasCleanDisk new = search rules in
    let it = c.rows.invariant.given.1 store stands (omega (arith, late, c.advance.ensures.survives.clean)) in
    let last : c.conn-in_default-1.given.0 ≡ c.advance.new.self.conn.now = search rules in
    rw last (unchanged_rests first new (unchanged_then first old new it.1 (c.in_ok-advance.ensures.same late)))

pub returns-in_err-show_row-clause-rests : goal.returns-in_err-show_row-clause-rests
returns-in_err-show_row-clause-rests g c clean store stands =
    let first = state g.S.Store c.args.conn.now in
    let old = state g.S.Store c.rows.rows.conn.now in
    let new = state g.S.Store c.advance.new.self.conn.now in
    let late : HasCleanDisk new = search rules in
    let it = c.rows.invariant.given.1 store stands (omega (arith, late, c.advance.ensures.survives.clean)) in
    let last : c.conn-in_err-show_row-1.given.0 ≡ c.advance.new.self.conn.now = search rules in
    rw last (unchanged_rests first new (unchanged_then first old new it.1 (c.in_ok-advance.ensures.same late)))

pub returns-in_err-advance-clause-rests : goal.returns-in_err-advance-clause-rests
returns-in_err-advance-clause-rests g c clean store stands =
    let first = state g.S.Store c.args.conn.now in
    let old = state g.S.Store c.rows.rows.conn.now in
    let new = state g.S.Store c.advance.new.self.conn.now in
    let late : HasCleanDisk new = search rules in
    let it = c.rows.invariant.given.1 store stands (omega (arith, late, c.advance.ensures.survives.clean)) in
    let last : c.conn-in_err-advance-1.given.0 ≡ c.advance.new.self.conn.now = search rules in
    rw last (rests_then first old new it.1 (failed_rests resources_text [] old new c.in_err-advance.field-0.0 (c.in_err-advance.ensures.err late resources_text [] c.rows.invariant.given.0 it.0)))

pub returns-clause-rests : goal.returns-clause-rests
returns-clause-rests g c clean store stands =
    let first = state g.S.Store c.args.conn.now in
    let new = state g.S.Store c.rows.rows.conn.now in
    let late : HasCleanDisk new = search rules in
    let it = c.rows.invariant.given.1 store stands late in
    let last : c.conn-2-1.given.0 ≡ c.rows.rows.conn.now = search rules in
    rw last (unchanged_rests first new it.1)

pub returns-in_err-rows-clause-rests : goal.returns-in_err-rows-clause-rests
returns-in_err-rows-clause-rests g c clean store stands =
    let first = c.args.conn.now in
    let last = c.query.follows.lender-at-none in
    let refused : IsRefused g.S.Store resources_text [] first c.query.result last = search rules in
    failed_rests resources_text [] (state g.S.Store first) (state g.S.Store last) c.in_err-rows.field-0.0 (rw c.in_err-rows.was at (refused.err clean))

pub returns-in_err-rows-clause-prefix : goal.returns-in_err-rows-clause-prefix
returns-in_err-rows-clause-prefix g c = λ clean.
    (let none : (store : Store) → StandsIn c.args.base.now (state g.S.Store c.args.conn.now) store → KnowsCodes c.args.kind c.args.codes.now (state g.S.Store c.args.conn.now) store → TookPrefix g.V.Visitor.takes c.args.visitor.now (of_kind c.args.kind store.resources) c.args.visitor.now =
    λ store stands coded. took_nothing g.V.Visitor.takes (of_kind c.args.kind store.resources) c.args.visitor.now in
    any_err _ _ _ none)

pub returns-in_err-advance-clause-prefix : goal.returns-in_err-advance-clause-prefix
returns-in_err-advance-clause-prefix g c clean =
    let first = state g.S.Store c.args.conn.now in
    let mid = state g.S.Store c.rows.rows.conn.now in
    let new = state g.S.Store c.advance.new.self.conn.now in
    let late : HasCleanDisk new = search rules in
    let some : (store : Store) → StandsIn c.args.base.now first store → KnowsCodes c.args.kind c.args.codes.now (state g.S.Store c.args.conn.now) store → TookPrefix g.V.Visitor.takes c.args.visitor.now (of_kind c.args.kind store.resources) c.rows.visitor = λ store stands coded.
    (let it = c.rows.invariant.given.1 store stands (omega (arith, late, c.advance.ensures.survives.clean)) in
    took_prefix g.V.Visitor.takes c.args.base.now c.args.kind c.args.codes.now first mid c.rows.invariant.given.0 c.args.visitor.now c.rows.visitor store stands coded it.1 (given_begin g.S.Store resources_text [] c.rows.rows.conn.now c.rows.invariant.given.0 it.0) c.rows.invariant.given.2) in
    any_err _ _ _ some

pub returns-in_err-show_row-clause-prefix : goal.returns-in_err-show_row-clause-prefix
returns-in_err-show_row-clause-prefix g c clean =
    let first = state g.S.Store c.args.conn.now in
    let mid = state g.S.Store c.rows.rows.conn.now in
    let new = state g.S.Store c.advance.new.self.conn.now in
    let late : HasCleanDisk new = search rules in
    same_err _ c.in_err-show_row.field-0.0 _ c.from_residual-in_err-show_row.ensures.1 (λ other store stands coded.
    (let it = c.rows.invariant.given.1 store stands (omega (arith, late, c.advance.ensures.survives.clean)) in
    let same : c.show_row.new.visitor ≡ c.rows.visitor = c.in_err-show_row.ensures.untaken other in
    rw same (took_prefix g.V.Visitor.takes c.args.base.now c.args.kind c.args.codes.now first mid c.rows.invariant.given.0 c.args.visitor.now c.rows.visitor store stands coded it.1 (given_begin g.S.Store resources_text [] c.rows.rows.conn.now c.rows.invariant.given.0 it.0) c.rows.invariant.given.2)))

pub returns-in_default-clause-spares : goal.returns-in_default-clause-spares
returns-in_default-clause-spares g c =
    let last : c.conn-in_default-1.given.0 ≡ c.advance.new.self.conn.now = search rules in
    rw last (spares_step Two (state g.S.Store c.args.conn.now) (state g.S.Store c.rows.rows.conn.now) (state g.S.Store c.advance.new.self.conn.now) c.rows.invariant.spares c.advance.ensures.survives)

pub returns-in_err-show_row-clause-spares : goal.returns-in_err-show_row-clause-spares
returns-in_err-show_row-clause-spares g c =
    let last : c.conn-in_err-show_row-1.given.0 ≡ c.advance.new.self.conn.now = search rules in
    rw last (spares_step Two (state g.S.Store c.args.conn.now) (state g.S.Store c.rows.rows.conn.now) (state g.S.Store c.advance.new.self.conn.now) c.rows.invariant.spares c.advance.ensures.survives)

pub returns-in_err-advance-clause-spares : goal.returns-in_err-advance-clause-spares
returns-in_err-advance-clause-spares g c =
    let last : c.conn-in_err-advance-1.given.0 ≡ c.advance.new.self.conn.now = search rules in
    rw last (spares_step Two (state g.S.Store c.args.conn.now) (state g.S.Store c.rows.rows.conn.now) (state g.S.Store c.advance.new.self.conn.now) c.rows.invariant.spares c.advance.ensures.survives)

pub returns-clause-spares : goal.returns-clause-spares
returns-clause-spares g c =
    let last : c.conn-2-1.given.0 ≡ c.rows.rows.conn.now = search rules in
    rw last c.rows.invariant.spares

pub returns-in_err-rows-clause-spares : goal.returns-in_err-rows-clause-spares
returns-in_err-rows-clause-spares g c =
    let first = c.args.conn.now in
    let last = c.query.follows.lender-at-none in
    let refused : IsRefused g.S.Store resources_text [] first c.query.result last = search rules in
    asks_spare resources_text [] (state g.S.Store first) (state g.S.Store last) _ asks_resources refused.survives
