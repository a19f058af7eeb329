use Rattle.std.proofs.Common.{◌≡◌, bytes_eq, string_bytes, rules}
use Rattle.serde_json.specs.View.{view}
use Rattle.scim_json.proofs.Forms.{kept_from_texts}
use Rattle.scim_json.proofs.stored_documents.is_kept_of.Goals as goal

pub returns : goal.returns
returns c =
    let is : c.eq.result ≡ bytes_eq (string_bytes c.in_ok-kept.kept) (string_bytes c.in_ok-written.written) = search rules in
    kept_from_texts (view c.args.value.now) c.args.resource.now _ _ c.eq.result c.in_ok-kept.ensures.text c.in_ok-kept.ensures.reads c.in_ok-written.ensures.text (c.in_ok-written.ensures.reads_back c.requires) is
