use Rattle.std.proofs.Common.{rules, ◌≡◌, true, subst}
use Rattle.std.specs.Prelude.{All}
use Rattle.scim_store_causes.specs.Ids.{HasId}
use Rattle.scim_store_causes.proofs.CauseLemmas.{have_all_ids}
use Rattle.scim_store_causes.proofs.row_ids.table_without_id.Goals as goal

pub returns : goal.returns
returns c =
    let resources : c.have_ids.result ≡ true = search rules in
    let names : c.have_ids-2.result ≡ true = search rules in
    let members : c.have_ids-3.result ≡ true = search rules in
    let secrets : c.have_ids-4.result ≡ true = search rules in
    have_all_ids c.args.rows (subst (All HasId) c.as_slice.ensures.value (c.have_ids.ensures.yes resources)) (subst (All HasId) c.as_slice-2.ensures.value (c.have_ids-2.ensures.yes names))
    (subst (All HasId) c.as_slice-3.ensures.value (c.have_ids-3.ensures.yes members)) (subst (All HasId) c.as_slice-4.ensures.value (c.have_ids-4.ensures.yes secrets))
