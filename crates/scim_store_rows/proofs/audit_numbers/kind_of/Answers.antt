use Rattle.std.proofs.Common.{◌≡◌, rules}
use Rattle.std.specs.Prelude.{slice_get}
use Rattle.scim_schema.specs.Names.{kinds}
use Rattle.scim_store_rows.proofs.BackLemmas.{kind_placed}
use Rattle.scim_store_rows.proofs.audit_numbers.kind_of.Goals as goal

pub returns : goal.returns
returns c =
    let is : c.copied.result ≡ slice_get kinds c.args.number = search rules in
    rw is (kind_placed c.args.number)
