use Rattle.std.proofs.Common.{◌≡◌, ap, ◌∙◌}
use Rattle.std.specs.Prelude.{slice_get}
use Rattle.scim_audit.specs.Rows.{decisions}
use Rattle.scim_store_rows.proofs.BackLemmas.{looked_up, decided_placed}
use Rattle.scim_store_rows.proofs.audit_numbers.decided_of.Goals as goal

pub returns : goal.returns
returns c =
    let found = looked_up c.all.result.now c.args.number c.get.result c.get.ensures.lookup.0 c.get.ensures.lookup.1 in
    let is : c.copied.result ≡ slice_get decisions c.args.number = c.copied.ensures ∙ found ∙ ap (λ xs. slice_get xs c.args.number) c.all.ensures in
    rw is (decided_placed c.args.number)
