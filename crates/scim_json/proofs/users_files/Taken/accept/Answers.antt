use Rattle.std.proofs.Common.{◌≡◌, rules}
use Rattle.scim_json.specs.PartData.{stored_data}
use Rattle.scim_json.proofs.DocumentLemmas.{none_beside}
use Rattle.scim_json.proofs.users_files.Taken.accept.Goals as goal

pub returns-clause-none : goal.returns-clause-none
returns-clause-none c = λ cs d kept is none.
    let r = c.in-Some.resource in
    let document = rw c.in-Some.is at c.in_ok-resource.ensures in
    let same : d ≡ stored_data r = search rules in
    none_beside c.args.base.now cs d r (document.0, same) (c.in_ok-add.ensures.clash cs kept (search rules))
