use Rattle.std.proofs.Common.{rules}
use Rattle.std.proofs.lemmas.Result.{on_ok_weaker}
use Rattle.scim_audit_listing.specs.JsonRows.{row_data}
use Rattle.scim_audit_listing.proofs.JsonLemmas.{added}
use Rattle.scim_audit_listing.proofs.json_rows.write_row.Goals as goal

pub returns-clause-added : goal.returns-clause-added
unfolding row_data
returns-clause-added c =
    on_ok_weaker c.write_later_members.result
    (λ last. added c.args.out.now c.begin_object.new.self c.write_later_members.new.out _ _ (search rules, c.in_ok-begin_object.ensures.ok)
    (added c.begin_object.new.self c.write_text.new.out c.write_later_members.new.out _ _ (rw c.as_str.ensures at c.in_ok-write_text.ensures)
    (added c.write_text.new.out c.write_text-2.new.out c.write_later_members.new.out _ _ (rw c.name.ensures at c.in_ok-write_text-2.ensures)
    (added c.write_text-2.new.out c.write_id.new.out c.write_later_members.new.out _ _ c.in_ok-write_id.ensures
    (added c.write_id.new.out c.write_text-3.new.out c.write_later_members.new.out _ _ (rw c.name-2.ensures at c.in_ok-write_text-3.ensures)
    (added c.write_text-3.new.out c.write_leaf.new.out c.write_later_members.new.out _ _ c.in_ok-write_leaf.ensures last))))))
    c.write_later_members.ensures.added
