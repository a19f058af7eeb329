use Rattle.std.proofs.Common.{◌≡◌, rules}
use Rattle.std.specs.Prelude.{slice_get}
use Rattle.scim_schema.specs.Names.{operations}
use Rattle.scim_store_rows.proofs.BackLemmas.{op_placed}
use Rattle.scim_store_rows.proofs.audit_numbers.op_of.Goals as goal

pub returns : goal.returns
returns c =
    let is : c.copied.result ≡ slice_get operations c.args.number = search rules in
    rw is (op_placed c.args.number)
