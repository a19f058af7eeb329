use Rattle.std.proofs.Common.{option_map, string_bytes}
use Rattle.sqlite.specs.Held.{state}
use Rattle.scim_value.specs.Uniqueness.{name_of}
use Rattle.scim_store_tables.proofs.Facts.{any_ok}
use Rattle.scim_store_rows.proofs.FindLemmas.{rests_where}
use Rattle.scim_store_rows.proofs.OwnerLemmas.{finds_owner_id, three_then}
use Rattle.scim_store_rows.proofs.look_ups.find_owner_id.Goals as goal

pub returns-in_err-owner-clause-rests : goal.returns-in_err-owner-clause-rests
returns-in_err-owner-clause-rests g c clean base store stands = rests_where base (state g.S.Store c.args.conn.now) (state g.S.Store c.find_owner.new.conn) (c.find_owner.ensures.rests clean) store stands

pub returns-clause-rests : goal.returns-clause-rests
returns-clause-rests g c clean base store stands = rests_where base (state g.S.Store c.args.conn.now) (state g.S.Store c.find_owner.new.conn) (c.find_owner.ensures.rests clean) store stands

pub returns-clause-found : goal.returns-clause-found
returns-clause-found g c clean =
    three_then c.read_owner.result _ _ _ _ (λ found is_id unique other base store stands.
    finds_owner_id base (name_of c.args.name.now) (state g.S.Store c.args.conn.now) (state g.S.Store c.find_owner.new.conn) (option_map string_bytes c.in_ok-owner.owner) found
    (rw (c.name.ensures, c.as_str.ensures.value) at (c.in_ok-owner.ensures.found clean)) is_id unique other store stands) c.read_owner.ensures.id c.read_owner.ensures.unique c.read_owner.ensures.other

pub returns-clause-unchanged : goal.returns-clause-unchanged
returns-clause-unchanged g c clean has = any_ok c.read_owner.result (c.in_ok-owner.ensures.unchanged clean has)
