use Rattle.std.proofs.Common.{subst, arith, Option, List, Bor, ℕ}
use Rattle.std.specs.Prelude.{IfSome}
use Rattle.std.specs.Option.{option_copied}
use Rattle.std.proofs.lemmas.Result.{IfOk-weaker}
use Rattle.scim_cell.specs.Content.{Content}
use Rattle.scim_store.specs.code.Damage.{IsRowOf, HasCode}
use Rattle.scim_store.proofs.DamageLemmas.{alone, one_yes, one_coded, one_no, one_none}
use Rattle.scim_store.proofs.damage.are_of_one.Goals as goal

pub returns-in-Some-2-clause-yes : goal.returns-in-Some-2-clause-yes
returns-in-Some-2-clause-yes c =
    let version = c.args.version in
    let base = c.args.base.now in
    let row = c.row-item.result in
    let secrets = c.args.secrets.now in
    let code = option_copied c.in-Some.door_code in
    let coded : HasCode secrets code = subst (λ (o : Option (Option (Bor (List ℕ)))). IfSome o (λ found. HasCode secrets (option_copied found))) c.in-Some.is c.code_in.ensures.some in
    let of : IsRowOf version base row code c.in-Some-2.resource = subst (λ (o : Option Content). IfSome o (IsRowOf version base row code)) c.in-Some-2.is c.in_ok-resource-in-len1.ensures.some in
    let is = alone c.args.resources.now row (omega arith) (omega arith) c.row-item.is in
    IfOk-weaker c.has_rows.result _ _ (λ holds has yes'. one_yes version base row c.args.resources.now c.args.names.now c.args.members.now secrets is c.in-Some-2.resource code coded of (has yes')) c.has_rows.ensures.yes

pub returns-in-Some-2-clause-no : goal.returns-in-Some-2-clause-no
returns-in-Some-2-clause-no c =
    let version = c.args.version in
    let base = c.args.base.now in
    let row = c.row-item.result in
    let secrets = c.args.secrets.now in
    let code = option_copied c.in-Some.door_code in
    let coded : HasCode secrets code = subst (λ (o : Option (Option (Bor (List ℕ)))). IfSome o (λ found. HasCode secrets (option_copied found))) c.in-Some.is c.code_in.ensures.some in
    let of : IsRowOf version base row code c.in-Some-2.resource = subst (λ (o : Option Content). IfSome o (IsRowOf version base row code)) c.in-Some-2.is c.in_ok-resource-in-len1.ensures.some in
    let is = alone c.args.resources.now row (omega arith) (omega arith) c.row-item.is in
    IfOk-weaker c.has_rows.result _ _ (λ holds lacks no all. lacks no (one_no version base row c.args.resources.now c.args.names.now c.args.members.now secrets is c.in-Some-2.resource code coded of all)) c.has_rows.ensures.no

pub returns-in_default-code_in-clause-no : goal.returns-in_default-code_in-clause-no
returns-in_default-code_in-clause-no c = λ no all.
    (let row = c.row-item.result in
    let is = alone c.args.resources.now row (omega arith) (omega arith) c.row-item.is in
    let coded = one_coded c.args.version c.args.base.now row c.args.resources.now c.args.names.now c.args.members.now c.args.secrets.now is all in
    c.code_in.ensures.none c.in_default-code_in.is coded.0 coded.1)

pub returns-in-None-clause-no : goal.returns-in-None-clause-no
returns-in-None-clause-no c = λ no all.
    (let row = c.row-item.result in
    let secrets = c.args.secrets.now in
    let code = option_copied c.in-Some.door_code in
    let coded : HasCode secrets code = subst (λ (o : Option (Option (Bor (List ℕ)))). IfSome o (λ found. HasCode secrets (option_copied found))) c.in-Some.is c.code_in.ensures.some in
    let is = alone c.args.resources.now row (omega arith) (omega arith) c.row-item.is in
    one_none c.args.version c.args.base.now row c.args.resources.now c.args.names.now c.args.members.now secrets is code coded (c.in_ok-resource-in-len1.ensures.none c.in-None.is) all)
