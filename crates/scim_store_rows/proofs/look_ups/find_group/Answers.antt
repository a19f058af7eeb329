use Rattle.std.proofs.Common.{rules, string_bytes, ◌≡◌}
use Rattle.sqlite.specs.Held.{state}
use Rattle.sqlite.specs.declared.types.Value.TheVariants.{Text}
use Rattle.sqlite.specs.Order.{column}
use Rattle.scim_cell.specs.Ids.{id_text}
use Rattle.scim_store_rows.proofs.GroupLemmas.{group_found}
use Rattle.scim_store_rows.proofs.look_ups.find_group.Goals as goal

pub returns-in-Some-clause-found : goal.returns-in-Some-clause-found
returns-in-Some-clause-found g c clean store stands =
    let cell : column c.args.row.now 0 ≡ Text (string_bytes c.in_ok-text.text) = search rules in
    let is : string_bytes c.in_ok-text.text ≡ id_text c.in_ok-id.id = search rules in
    group_found c.in_ok-id.id c.args.row.now (string_bytes c.in_ok-text.text) (state g.S.Store c.args.conn.now) (state g.S.Store c.find_by_id.new.conn) c.in-Some.group store cell is (rw c.in-Some.is at (c.in_ok-group.ensures.found clean store stands))

pub returns-in-Some-clause-unchanged : goal.returns-in-Some-clause-unchanged
returns-in-Some-clause-unchanged g c = c.in_ok-group.ensures.unchanged
