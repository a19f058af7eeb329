use Rattle.std.proofs.Common.{◌≡◌, Some, rules}
use Rattle.serde_json.specs.View.{view}
use Rattle.scim_json.specs.Found.{id_in}
use Rattle.scim_json.proofs.ReadingLemmas.{id_read}
use Rattle.scim_json.proofs.stored_documents.id_in.Goals as goal

pub returns : goal.returns
returns c =
    let there : id_in (view c.args.value.now) ≡ Some c.in_ok-as_str.field-0.now = search rules in
    id_read c.in_ok-as_str.field-0.now _ c.read.result there c.read.ensures.form c.read.ensures.value c.read.ensures.id
