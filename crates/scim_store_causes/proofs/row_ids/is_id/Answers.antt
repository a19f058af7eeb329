use Rattle.std.proofs.Common.{rules, ◌≡◌, false, ◌∙◌}
use Rattle.std.specs.Option.{is_some}
use Rattle.scim_store_causes.proofs.IdLemmas.{utf8_of_id, unread_id}
use Rattle.scim_store_causes.proofs.row_ids.is_id.Goals as goal

pub returns-in-Ok-clause-no : goal.returns-in-Ok-clause-no
returns-in-Ok-clause-no c = λ none has.
    (let unread : is_some c.read.result ≡ false = search rules in
    unread_id c.read.result c.in-Ok.text.now c.read.ensures.form unread (has.0, has.1, c.in-Ok.ensures.cases.0 ∙ has.2))

pub returns-in-Err-clause-no : goal.returns-in-Err-clause-no
returns-in-Err-clause-no c = λ _ has. c.in-Err.ensures.cases.0 (utf8_of_id c.args.bytes.now has)
