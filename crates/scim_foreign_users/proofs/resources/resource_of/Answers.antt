use Rattle.serde_json.specs.Read.{read}
use Rattle.scim_text.specs.Failures.{UnlessMemory}
use Rattle.scim_foreign_users.specs.Resources.{GivesResource}
use Rattle.scim_foreign_users.proofs.ResourceLemmas.{err_given, no_stamp, takes_id, made_is}
use Rattle.scim_foreign_users.proofs.resources.resource_of.Goals as goal

pub returns-in_err-stamp : goal.returns-in_err-stamp
returns-in_err-stamp c =
    let base = c.args.base.now in
    let now = c.args.now in
    let fresh = c.args.fresh in
    let item = read c.args.text.now in
    err_given (UnlessMemory (GivesResource base now fresh item)) c.from_residual.result c.in_err-stamp.field-0.0 c.from_residual.ensures.1
    (no_stamp base now fresh item c.in_err-stamp.field-0.0 c.in_err-stamp.ensures.none)

pub returns-in-Err-Because : goal.returns-in-Err-Because
returns-in-Err-Because c =
    let base = c.args.base.now in
    let now = c.args.now in
    let fresh = c.args.fresh in
    let item = read c.args.text.now in
    let s = c.in_ok-stamp.stamp in
    let is = c.in_ok-stamp.ensures.stamp in
    let invalid = rw c.in-Err-Because.field-0-is at c.in-Err-Because.ensures.invalid in (
      s.id,
      takes_id base now fresh item s is,
      (_, made_is base now fresh item s is c.in_ok-draft.draft c.of-last_modified.result c.in_ok-resource.resource c.in_ok-draft.ensures.body c.of-last_modified.ensures c.in_ok-resource.ensures.value, invalid),
    )
