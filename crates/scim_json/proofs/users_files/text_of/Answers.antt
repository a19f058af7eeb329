use Rattle.std.proofs.Common.{◌≡◌, ap, ◌∙◌, arith, string_bytes}
use Rattle.json.specs.Print.{print}
use Rattle.json.specs.Tree.{json_tokens}
use Rattle.json.specs.Value.{value_view}
use Rattle.serde_json.specs.Read.{read}
use Rattle.scim_json.proofs.ListedLemmas.{read-printed}
use Rattle.scim_json.proofs.users_files.text_of.Goals as goal

pub returns : goal.returns
returns c =
    let item = value_view c.args.item.now in
    let printed : string_bytes c.from_utf8_unchecked.result ≡ print (json_tokens item) = grind arith in
    ap read printed ∙ read-printed item c.requires.numbers c.requires.nests
