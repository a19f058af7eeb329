use Rattle.std.proofs.Common.{arith}
use Rattle.sqlite.specs.Held.{state}
use Rattle.scim_store_tables.proofs.Facts.{if_then}
use Rattle.scim_store_rows.proofs.GroupLemmas.{finds_groups, groups_rest}
use Rattle.scim_store_rows.proofs.SpareLemmas.{keeps_tables, spares_then}
use Rattle.scim_store_rows.proofs.look_ups.find_groups_with.Goals as goal

pub returns-clause-found : goal.returns-clause-found
returns-clause-found g c clean =
    if_then c.find_groups.result _ _ (λ groups found store stands.
    finds_groups c.args.base.now c.args.value.now (state g.S.Store c.args.conn.now) (state g.S.Store c.read_groups.new.conn) (state g.S.Store c.find_groups.new.conn) c.in_ok-rows.rows.items groups.items
    (c.in_ok-rows.ensures.read (omega (arith, clean, c.find_groups.ensures.spares.clean))) (rw c.as_slice.ensures.value at found) store stands) (c.find_groups.ensures.found clean)

pub returns-clause-rests : goal.returns-clause-rests
returns-clause-rests g c clean store stands =
    groups_rest c.args.base.now c.args.value.now (state g.S.Store c.args.conn.now) (state g.S.Store c.read_groups.new.conn) (state g.S.Store c.find_groups.new.conn) c.in_ok-rows.rows.items
    (c.in_ok-rows.ensures.read (omega (arith, clean, c.find_groups.ensures.spares.clean))) (c.find_groups.ensures.rests clean) store stands

pub returns-clause-spares : goal.returns-clause-spares
returns-clause-spares g c =
    let old = state g.S.Store c.args.conn.now in
    let mid = state g.S.Store c.read_groups.new.conn in
    spares_then old mid (state g.S.Store c.find_groups.new.conn) c.read_groups.ensures.spares (λ clean. keeps_tables old mid (c.in_ok-rows.ensures.unchanged clean)) c.find_groups.ensures.spares
