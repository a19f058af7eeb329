use Rattle.std.proofs.Common.{ℕ}
use Rattle.scim_shelf.specs.Stores.{Store}
use Rattle.scim_shelf_watch.specs.declared.watched.WatchedShelf.{WatchedShelf}
use Rattle.scim_shelf_watch.specs.Watched.{Represents, lower_of}
use Rattle.scim_admin.specs.declared.watching.ServerWatch.{ServerWatch}
use Rattle.scim_admin.specs.contracts.watching.ServerWatchWatcher.TheImpl as watcher
use Rattle.scim_hub.specs.HubSetting.{with_hub_shelf}
use Rattle.scim_admin.proofs.AnswerLemmas.{tells_all, tells_rows}
use Rattle.scim_admin.proofs.answers.carry_out.Goals as goal

pub returns-in-Audit-clause-tells : goal.returns-in-Audit-clause-tells
returns-in-Audit-clause-tells g c =
    let S : Type 0 = WatchedShelf g.row.S.Denot (ServerWatch g.row.H.Denot) in
    let Stands : S → Store → Type 0 = λ shelf store. Represents g.S.Shelf.stands ((watcher.ghosts g.row.H g.H.Host g.H.Host-dict).told) shelf store in
    let IsHonest : S → Type 0 = λ shelf. g.S.Shelf.is_honest (lower_of shelf) in
    let failures : S → ℕ = λ shelf. shelf.failures in
    let new = with_hub_shelf c.args.hub.now c.list.new.shelf in
    tells_rows Stands IsHonest failures c.args.hub.now new c.args.standing.now.is_exporting c.args.closes c.args.request c.list.result
    c.shelf_mut-in-Audit.result.now c.shelf_mut-in-Audit.ensures.shows c.in-Audit.query c.in-Audit.is c.list.ensures.tells

pub returns-in-Export-clause-tells : goal.returns-in-Export-clause-tells
returns-in-Export-clause-tells g c =
    let S : Type 0 = WatchedShelf g.row.S.Denot (ServerWatch g.row.H.Denot) in
    let Stands : S → Store → Type 0 = λ shelf store. Represents g.S.Shelf.stands ((watcher.ghosts g.row.H g.H.Host g.H.Host-dict).told) shelf store in
    let IsHonest : S → Type 0 = λ shelf. g.S.Shelf.is_honest (lower_of shelf) in
    let failures : S → ℕ = λ shelf. shelf.failures in
    let new = with_hub_shelf c.args.hub.now c.export.new.shelf in
    tells_all Stands IsHonest failures c.args.hub.now new c.args.standing.now.is_exporting c.args.closes c.args.request c.export.result
    c.shelf_mut-in-Export.result.now c.shelf_mut-in-Export.ensures.shows c.in-Export.is c.export.ensures.tells
