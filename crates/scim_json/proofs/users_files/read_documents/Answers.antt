use Rattle.std.proofs.Common.{rules}
use Rattle.scim_json.proofs.users_files.read_documents.Goals as goal

pub returns-in_err-resource-clause-damaged : goal.returns-in_err-resource-clause-damaged
returns-in_err-resource-clause-damaged c =
    let damaged = c.in_err-resource.ensures.damaged c.args.base.now c.args.text.now c.items.resources.items c.items.invariant in
    let told = c.from_residual-in_err-resource.ensures in
    search rules

pub returns-clause-documents : goal.returns-clause-documents
returns-clause-documents c = c.in_ok-resource.ensures.whole c.args.base.now c.args.text.now c.items.resources.items c.items.invariant (search rules)
