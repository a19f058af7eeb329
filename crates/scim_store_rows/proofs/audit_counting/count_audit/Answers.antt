use Rattle.std.proofs.Common.{rules, ◌≡◌, ◌++◌, ◌∷◌, [], None, Some, refl, ◌∙◌, arith}
use Rattle.sqlite.specs.State.{HasCleanDisk}
use Rattle.sqlite.specs.Held.{state}
use Rattle.sqlite.specs.Given.{row_if, IsRefused}
use Rattle.sqlite.proofs.Callers.{unchanged_then, given_begin}
use Rattle.scim_store_tables.proofs.Facts.{asks_spare, failed_rests, unchanged_rests, any_err}
use Rattle.scim_store_rows.proofs.FindLemmas.{rests_then}
use Rattle.scim_store_rows.proofs.WalkLemmas.{begun_here}
use Rattle.scim_store_rows.proofs.SpareLemmas.{spares_step}
use Rattle.scim_store_rows.proofs.CountLemmas.{count_none, count_more, all_counted, stop_counted}
use Rattle.scim_store_rows.proofs.audit_counting.count_audit.Goals as goal

pub rows-init : goal.rows-init
rows-init g c =
    let made = c.in_ok-rows.ensures in
    let text = c.rows_query.result.now in
    record {
      same_reference = refl;
      mode = made.mode;
      spares = λ v. asks_spare text [] (state g.S.Store c.args.conn.now) (state g.S.Store c.in_ok-rows.rows.conn.now) _ (c.rows_query.ensures v tt) made.survives;
      counts = record {
        text = text;
        asks = λ v. c.rows_query.ensures v tt;
        list = [];
        sound = count_none;
        given = λ v has clean. begun_here g.S.Store text _ (c.rows_query.ensures v tt) c.args.conn.now c.in_ok-rows.rows.conn.now has (made.begun clean);
      };
    }

pub rows-preserved : goal.rows-preserved
rows-preserved g c =
    let inv = c.rows.invariant in
    let row = c.in-Some.row.now in
    let some : row_if c.advance.new.self.has_row c.advance.new.self.conn.now ≡ Some row = search rules in
    record {
      same_reference = c.in_ok-advance.ensures.same_reference ∙ inv.same_reference;
      mode = λ m. c.in_ok-advance.ensures.mode (inv.mode m);
      spares = λ v. spares_step v (state g.S.Store c.args.conn.now) (state g.S.Store c.rows.rows.conn.now) (state g.S.Store c.advance.new.self.conn.now) (inv.spares v) c.in_ok-advance.ensures.survives;
      counts = record {
        text = inv.counts.text;
        asks = inv.counts.asks;
        list = inv.counts.list ++ row ∷ [];
        sound = count_more inv.counts.list c.rows.count row inv.counts.sound (c.in_ok-is_audit_row.ensures.yes c.if-not-branch.false);
        given = λ v has clean.
            (let it = inv.counts.given v has (omega (arith, clean, c.in_ok-advance.ensures.survives.clean)) in
            let next = (rw some at (c.in_ok-advance.ensures.ok clean)) inv.counts.text [] inv.counts.list it.0 in
            (next, unchanged_then (state g.S.Store c.args.conn.now) (state g.S.Store c.rows.rows.conn.now) (state g.S.Store c.advance.new.self.conn.now) it.1 (c.in_ok-advance.ensures.same clean)));
      };
    }

pub returns-in_default-clause-counted : goal.returns-in_default-clause-counted
returns-in_default-clause-counted g c clean v has =
    let first = state g.S.Store c.args.conn.now in
    let old = state g.S.Store c.rows.rows.conn.now in
    let new = state g.S.Store c.advance.new.self.conn.now in
    let counts = c.rows.invariant.counts in
    let late : HasCleanDisk new = search rules in
    let it = counts.given v has (omega (arith, late, c.advance.ensures.survives.clean)) in
    let none : row_if c.advance.new.self.has_row c.advance.new.self.conn.now ≡ None = search rules in
    let shown = (rw none at (c.in_ok-advance.ensures.ok late)) counts.text [] counts.list it.0 in
    let last : c.conn-in_default-1.given.0 ≡ c.advance.new.self.conn.now = search rules in
    rw last (all_counted v counts.text first old new counts.list c.rows.count (counts.asks v) has it.1 (unchanged_then first old new it.1 (c.in_ok-advance.ensures.same late)) shown counts.sound)

pub returns-then-not-branch-clause-counted : goal.returns-then-not-branch-clause-counted
returns-then-not-branch-clause-counted g c clean v has =
    let first = state g.S.Store c.args.conn.now in
    let old = state g.S.Store c.rows.rows.conn.now in
    let new = state g.S.Store c.advance.new.self.conn.now in
    let row = c.in-Some.row.now in
    let counts = c.rows.invariant.counts in
    let late : HasCleanDisk new = search rules in
    let it = counts.given v has (omega (arith, late, c.advance.ensures.survives.clean)) in
    let some : row_if c.advance.new.self.has_row c.advance.new.self.conn.now ≡ Some row = search rules in
    let next = (rw some at (c.in_ok-advance.ensures.ok late)) counts.text [] counts.list it.0 in
    let begins = given_begin g.S.Store counts.text [] c.advance.new.self.conn.now (counts.list ++ row ∷ []) next in
    let last : c.conn-then-not-branch-1.given.0 ≡ c.advance.new.self.conn.now = search rules in
    rw last (stop_counted v counts.text first new counts.list row c.rows.count (counts.asks v) has (unchanged_then first old new it.1 (c.in_ok-advance.ensures.same late)) begins counts.sound (c.in_ok-is_audit_row.ensures.no c.if-not-branch.true))

-- ---- the clauses `spares` and `rests`

pub returns-in_default-clause-spares : goal.returns-in_default-clause-spares
returns-in_default-clause-spares g c v =
    let last : c.conn-in_default-1.given.0 ≡ c.advance.new.self.conn.now = search rules in
    rw last (spares_step v (state g.S.Store c.args.conn.now) (state g.S.Store c.rows.rows.conn.now) (state g.S.Store c.advance.new.self.conn.now) (c.rows.invariant.spares v) c.advance.ensures.survives)

pub returns-then-not-branch-clause-spares : goal.returns-then-not-branch-clause-spares
returns-then-not-branch-clause-spares g c v =
    let last : c.conn-then-not-branch-1.given.0 ≡ c.advance.new.self.conn.now = search rules in
    rw last (spares_step v (state g.S.Store c.args.conn.now) (state g.S.Store c.rows.rows.conn.now) (state g.S.Store c.advance.new.self.conn.now) (c.rows.invariant.spares v) c.advance.ensures.survives)

pub returns-in_err-is_audit_row-clause-spares : goal.returns-in_err-is_audit_row-clause-spares
returns-in_err-is_audit_row-clause-spares g c v =
    let last : c.conn-in_err-is_audit_row-1.given.0 ≡ c.advance.new.self.conn.now = search rules in
    rw last (spares_step v (state g.S.Store c.args.conn.now) (state g.S.Store c.rows.rows.conn.now) (state g.S.Store c.advance.new.self.conn.now) (c.rows.invariant.spares v) c.advance.ensures.survives)

pub returns-in_err-advance-clause-spares : goal.returns-in_err-advance-clause-spares
returns-in_err-advance-clause-spares g c v =
    let last : c.conn-in_err-advance-1.given.0 ≡ c.advance.new.self.conn.now = search rules in
    rw last (spares_step v (state g.S.Store c.args.conn.now) (state g.S.Store c.rows.rows.conn.now) (state g.S.Store c.advance.new.self.conn.now) (c.rows.invariant.spares v) c.advance.ensures.survives)

pub returns-clause-spares : goal.returns-clause-spares
returns-clause-spares g c v =
    let last : c.conn-2-1.given.0 ≡ c.rows.rows.conn.now = search rules in
    rw last (c.rows.invariant.spares v)

pub returns-in_err-rows-clause-spares : goal.returns-in_err-rows-clause-spares
returns-in_err-rows-clause-spares g c v =
    let first = c.args.conn.now in
    let last = c.query.follows.lender-at-none in
    let refused : IsRefused g.S.Store c.rows_query.result.now [] first c.query.result last = search rules in
    asks_spare c.rows_query.result.now [] (state g.S.Store first) (state g.S.Store last) _ (c.rows_query.ensures v tt) refused.survives

pub returns-in_err-is_audit_row-clause-rests : goal.returns-in_err-is_audit_row-clause-rests
returns-in_err-is_audit_row-clause-rests g c clean v has =
    let first = state g.S.Store c.args.conn.now in
    let old = state g.S.Store c.rows.rows.conn.now in
    let new = state g.S.Store c.advance.new.self.conn.now in
    let late : HasCleanDisk new = search rules in
    let it = c.rows.invariant.counts.given v has (omega (arith, late, c.advance.ensures.survives.clean)) in
    let last : c.conn-in_err-is_audit_row-1.given.0 ≡ c.advance.new.self.conn.now = search rules in
    rw last (any_err _ (unchanged_rests first new (unchanged_then first old new it.1 (c.in_ok-advance.ensures.same late))))

pub returns-in_err-advance-clause-rests : goal.returns-in_err-advance-clause-rests
returns-in_err-advance-clause-rests g c clean v has =
    let first = state g.S.Store c.args.conn.now in
    let old = state g.S.Store c.rows.rows.conn.now in
    let new = state g.S.Store c.advance.new.self.conn.now in
    let counts = c.rows.invariant.counts in
    let late : HasCleanDisk new = search rules in
    let it = counts.given v has (omega (arith, late, c.advance.ensures.survives.clean)) in
    let last : c.conn-in_err-advance-1.given.0 ≡ c.advance.new.self.conn.now = search rules in
    rw last (any_err _ (rests_then first old new it.1 (failed_rests counts.text [] old new c.in_err-advance.field-0.0 (c.in_err-advance.ensures.err late counts.text [] counts.list it.0))))

pub returns-clause-rests : goal.returns-clause-rests
returns-clause-rests g c clean v has =
    let first = state g.S.Store c.args.conn.now in
    let new = state g.S.Store c.rows.rows.conn.now in
    let late : HasCleanDisk new = search rules in
    let it = c.rows.invariant.counts.given v has late in
    let last : c.conn-2-1.given.0 ≡ c.rows.rows.conn.now = search rules in
    rw last (unchanged_rests first new it.1)

pub returns-in_err-rows-clause-rests : goal.returns-in_err-rows-clause-rests
returns-in_err-rows-clause-rests g c clean v has =
    let first = c.args.conn.now in
    let last = c.query.follows.lender-at-none in
    let refused : IsRefused g.S.Store c.rows_query.result.now [] first c.query.result last = search rules in
    any_err _ (failed_rests c.rows_query.result.now [] (state g.S.Store first) (state g.S.Store last) c.in_err-rows.field-0.0 (rw c.in_err-rows.was at (refused.err clean)))
