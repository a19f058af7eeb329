use Rattle.std.proofs.Common.{arith}
use Rattle.sqlite.specs.Held.{state}
use Rattle.scim_value.specs.Uniqueness.{name_of}
use Rattle.scim_store_tables.proofs.Facts.{if_then}
use Rattle.scim_store_rows.proofs.OwnerLemmas.{finds_owner}
use Rattle.scim_store_rows.proofs.SpareLemmas.{keeps_tables, spares_then}
use Rattle.scim_store_rows.proofs.look_ups.find_owner_of_name.Goals as goal

pub returns-in-Some-clause-found : goal.returns-in-Some-clause-found
returns-in-Some-clause-found g c clean =
    if_then c.find_by_id.result _ _ (λ found finds store stands.
    finds_owner c.args.base.now (name_of c.args.name.now) c.in-Some.id (state g.S.Store c.args.conn.now) (state g.S.Store c.find_owner_id.new.conn) (state g.S.Store c.find_by_id.new.conn) found store stands
    (rw c.in-Some.is at (c.in_ok-id.ensures.found (omega (arith, clean, c.find_by_id.ensures.spares.clean)) c.args.base.now store stands)) finds) (c.find_by_id.ensures.found clean)

pub returns-in-Some-clause-spares : goal.returns-in-Some-clause-spares
returns-in-Some-clause-spares g c =
    let old = state g.S.Store c.args.conn.now in
    let mid = state g.S.Store c.find_owner_id.new.conn in
    spares_then old mid (state g.S.Store c.find_by_id.new.conn) c.find_owner_id.ensures.spares (λ clean. keeps_tables old mid (c.in_ok-id.ensures.unchanged clean)) c.find_by_id.ensures.spares
