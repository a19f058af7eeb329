use Rattle.std.proofs.Common.{◌∷◌, ◌++◌, [], rules}
use Rattle.scim_json.proofs.users_files.check_documents.Goals as goal

pub returns-in_err-_resource-clause-damaged : goal.returns-in_err-_resource-clause-damaged
returns-in_err-_resource-clause-damaged c =
    let h = c.items.invariant in
    let damaged = c.in_err-_resource.ensures.damaged c.args.base.now c.args.text.now h.0 h.1 in
    let told = c.from_residual-in_err-_resource.ensures in
    search rules

pub items-preserved : goal.items-preserved
items-preserved c =
    let h = c.items.invariant in
    (h.0 ++ c.in-Some._resource ∷ [], rw c.in-Some.is at (c.in_ok-_resource.ensures.more c.args.base.now c.args.text.now h.0 h.1))

pub returns-clause-valid : goal.returns-clause-valid
returns-clause-valid c =
    let h = c.items.invariant in
    (h.0, c.in_ok-_resource.ensures.whole c.args.base.now c.args.text.now h.0 h.1 (search rules))
