use Rattle.std.proofs.Common.{subst}
use Rattle.scim_shelf.specs.declared.kind_ids.KindIds.{KindIds}
use Rattle.scim_shelf.specs.KindIds.{IsRemovedIf}
use Rattle.scim_shelf.proofs.KindLemmas.{ids_back}
use Rattle.scim_shelf.proofs.collections.Collection.insert.Goals as goal

pub returns-in-Err-clause-err_kinds : goal.returns-in-Err-clause-err_kinds
returns-in-Err-clause-err_kinds c =
    let kind = c.kind-kind.result in
    let id = c.id-id.result in
    let added = c.in_ok-added.added in
    let last = c.take_back.new.self in
    let inserted = c.in_ok-added.ensures in
    ids_back kind id added c.args.self.now.kinds c.insert.new.self last inserted.added inserted.inserted inserted.unchanged
    (subst (λ (ks : KindIds). IsRemovedIf added kind id ks last) c.insert_noted.ensures.kinds c.take_back.ensures)
