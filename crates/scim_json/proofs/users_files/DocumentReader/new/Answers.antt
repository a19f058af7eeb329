use Rattle.std.proofs.Common.{◌≡◌, false, ◌∙◌, rules}
use Rattle.scim_json.proofs.ListedLemmas.{no_bracket}
use Rattle.scim_json.proofs.users_files.DocumentReader.new.Goals as goal

pub returns-then-not-begins_list-clause-damaged : goal.returns-then-not-begins_list-clause-damaged
returns-then-not-begins_list-clause-damaged c =
    let is : c.begins_list.result ≡ false = search rules in
    let other = rw is at c.begins_list.ensures in
    no_bracket c.args.base.now c.args.text.now (λ rest begins. other rest (c.in_ok-reader.ensures.ok ∙ begins))
