use Rattle.std.proofs.Common.{rules, arith, ◌+◌, ◌≡◌, ◌∙◌, ◌++◌, ◌∷◌, [], take, sym, ap}
use Rattle.std.proofs.lemmas.List.{take_all, take_more}
use Rattle.sqlite.specs.Held.{state}
use Rattle.scim_store_tables.proofs.Facts.{unchanged_rests}
use Rattle.scim_store_rows.proofs.FindLemmas.{stands_still, rests_then}
use Rattle.scim_store_rows.proofs.GroupLemmas.{groups_none, groups_more}
use Rattle.scim_store_rows.proofs.SpareLemmas.{spares_itself, keeps_tables, spares_then}
use Rattle.scim_store_rows.proofs.look_ups.find_groups.Goals as goal

pub loop-row-init : goal.loop-row-init
loop-row-init g c = record {
  mode = λ m. m;
  spares = spares_itself (state g.S.Store c.args.conn.now);
  keeps = λ _ has. has;
  found = λ clean store stands opened. rw c.new-groups.ensures.items (groups_none store (state g.S.Store c.args.conn.now) opened);
}

pub returns-in_err-group-clause-rests : goal.returns-in_err-group-clause-rests
returns-in_err-group-clause-rests g c clean store stands opened =
    let first = state g.S.Store c.args.conn.now in
    let mid = state g.S.Store c.loop-row.conn in
    let new = state g.S.Store c.find_group.new.conn in
    let before = c.loop-row.invariant.found (omega (arith, clean, c.find_group.ensures.spares.clean)) store stands opened in
    rests_then first mid new before.unchanged (c.find_group.ensures.rests clean store (stands_still c.args.base.now first mid store before.unchanged stands))

pub returns-then-is_err-clause-rests : goal.returns-then-is_err-clause-rests
returns-then-is_err-clause-rests g c clean store stands opened =
    let first = state g.S.Store c.args.conn.now in
    let mid = state g.S.Store c.loop-row.conn in
    let new = state g.S.Store c.find_group.new.conn in
    let before = c.loop-row.invariant.found (omega (arith, clean, c.find_group.ensures.spares.clean)) store stands opened in
    rests_then first mid new before.unchanged (c.find_group.ensures.rests clean store (stands_still c.args.base.now first mid store before.unchanged stands))

pub loop-row-preserved : goal.loop-row-preserved
loop-row-preserved g c =
    let first = state g.S.Store c.args.conn.now in
    let mid = state g.S.Store c.loop-row.conn in
    let new = state g.S.Store c.find_group.new.conn in
    record {
      mode = λ m. c.find_group.ensures.mode (c.loop-row.invariant.mode m);
      spares = spares_then first mid new c.loop-row.invariant.spares c.loop-row.invariant.keeps c.find_group.ensures.spares;
      keeps = λ clean has. keeps_tables mid new (c.in_ok-group.ensures.unchanged clean) (c.loop-row.invariant.keeps (omega (arith, clean, c.find_group.ensures.spares.clean)) has);
      found = λ clean store stands opened.
          let before = c.loop-row.invariant.found (omega (arith, clean, c.find_group.ensures.spares.clean)) store stands opened in
          let one = c.in_ok-group.ensures.found clean store (stands_still c.args.base.now first mid store before.unchanged stands) in
          let more = groups_more store (take c.loop-row.row-index c.args.rows.now) c.row-item.result first mid new c.loop-row.groups.items c.in_ok-group.group before one in
          let taken : take (c.loop-row.row-index + 1) c.args.rows.now ≡ take c.loop-row.row-index c.args.rows.now ++ c.row-item.result ∷ [] = take_more c.args.rows.now c.loop-row.row-index c.row-item.result (omega arith) ∙ ap (λ y. take c.loop-row.row-index c.args.rows.now ++ y ∷ []) (sym c.row-item.is) in
          let pushed : c.push.new.self.items ≡ c.loop-row.groups.items ++ c.in_ok-group.group ∷ [] = search rules in
          rw (taken, pushed) more;
    }

pub returns-clause-found : goal.returns-clause-found
returns-clause-found g c clean store stands opened =
    let all : take c.loop-row.row-index c.args.rows.now ≡ c.args.rows.now = take_all _ _ (omega arith) in
    rw all at (c.loop-row.invariant.found clean store stands opened)

pub returns-clause-rests : goal.returns-clause-rests
returns-clause-rests g c clean store stands opened = unchanged_rests (state g.S.Store c.args.conn.now) (state g.S.Store c.loop-row.conn) (c.loop-row.invariant.found clean store stands opened).unchanged

pub returns-in_err-group-clause-spares : goal.returns-in_err-group-clause-spares
returns-in_err-group-clause-spares g c = spares_then (state g.S.Store c.args.conn.now) (state g.S.Store c.loop-row.conn) (state g.S.Store c.find_group.new.conn) c.loop-row.invariant.spares c.loop-row.invariant.keeps c.find_group.ensures.spares

pub returns-then-is_err-clause-spares : goal.returns-then-is_err-clause-spares
returns-then-is_err-clause-spares g c = spares_then (state g.S.Store c.args.conn.now) (state g.S.Store c.loop-row.conn) (state g.S.Store c.find_group.new.conn) c.loop-row.invariant.spares c.loop-row.invariant.keeps c.find_group.ensures.spares
