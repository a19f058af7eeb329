use Rattle.std.proofs.Common.{◌≡◌, ◌<◌, ◌+◌, ◌++◌, ◌∷◌, [], sym, ap, subst, arith, length, take, List, ℕ}
use Rattle.std.specs.Prelude.{Ok, Err}
use Rattle.std.proofs.lemmas.List.{length-append}
use Rattle.serde_json.specs.Read.{read}
use Rattle.scim_text.specs.Failures.{IfBecause, IfFault}
use Rattle.scim_cell.specs.Content.{Content}
use Rattle.scim_foreign_users.specs.Resources.{GivesResource}
use Rattle.scim_foreign_users.specs.UsersFiles.{AreMade, IsRefusedAt}
use Rattle.scim_foreign_users.proofs.ListLemmas.{made_more, refused_at}
use Rattle.scim_foreign_users.proofs.ResourceLemmas.{err_given}
use Rattle.scim_foreign_users.proofs.users_files.resources_of.Goals as goal

pub returns-in_err-resource-clause-refused : goal.returns-in_err-resource-clause-refused
returns-in_err-resource-clause-refused c =
    let base = c.args.base.now in
    let now = c.args.now in
    let items = c.args.items.now in
    let ids = c.args.ids.now in
    let loop = c.loop-index.invariant in
    let i = c.loop-index.index in
    let item = c.index-items-index.result in
    let fresh = c.index-ids-index.result in
    let fault = c.in_err-resource.field-0.0 in
    let low : i < length items = omega arith in
    let below : i < length ids = omega arith in
    let refused = subst (λ (t : List ℕ). IfBecause (λ r. (r.number ≡ i + 1) × GivesResource base now fresh (read t) (Err r.fault)) fault) c.as_str.ensures.value c.in_err-resource.ensures.refused in
    err_given (λ r. IfFault r (IsRefusedAt base now items ids)) c.from_residual.result fault c.from_residual.ensures.1
    (refused_at base now items ids c.loop-index.resources.items i item fresh fault loop.count low below c.index-items-index.is c.index-ids-index.is loop.made refused)

pub loop-index-preserved : goal.loop-index-preserved
loop-index-preserved c =
    let base = c.args.base.now in
    let now = c.args.now in
    let items = c.args.items.now in
    let ids = c.args.ids.now in
    let loop = c.loop-index.invariant in
    let i = c.loop-index.index in
    let made = c.loop-index.resources.items in
    let item = c.index-items-index.result in
    let fresh = c.index-ids-index.result in
    let own = c.in_ok-resource.resource in
    let low : i < length items = omega arith in
    let below : i < length ids = omega arith in
    let pushed : c.push.new.values.items ≡ made ++ own ∷ [] = c.in_ok-push.ensures.items in
    let one = subst (λ (t : List ℕ). GivesResource base now fresh (read t) (Ok own)) c.as_str.ensures.value c.in_ok-resource.ensures.made in
    record {
      count = omega (arith, ap length pushed, length-append {A = Content}, loop.count);
      made = subst (λ (cs : List Content). AreMade base now (take (i + 1) items) (take (i + 1) ids) cs) (sym pushed)
          (made_more base now items ids made i item fresh own low below c.index-items-index.is c.index-ids-index.is loop.made one);
    }
