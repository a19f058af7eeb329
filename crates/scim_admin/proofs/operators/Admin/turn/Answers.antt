use Rattle.std.proofs.Common.{subst}
use Rattle.scim_shelf.specs.Shelves.{Round}
use Rattle.scim_shelf.specs.Stores.{Store}
use Rattle.scim_hub.specs.declared.hubs.Hub.{Hub}
use Rattle.scim_hub.specs.HubSetting.{hub_shelf, with_hub_shelf}
use Rattle.scim_shelf_watch.specs.declared.watched.WatchedShelf.{WatchedShelf}
use Rattle.scim_shelf_watch.specs.Watched.{IsInRound, Represents, lower_of}
use Rattle.scim_admin.specs.declared.watching.ServerWatch.{ServerWatch}
use Rattle.scim_admin.specs.contracts.watching.ServerWatchWatcher.TheImpl as watcher
use Rattle.scim_admin_streams.specs.Shelves.{KeepsShelf}
use Rattle.scim_admin.proofs.KeepingLemmas.{hub_with_shelf, reload_then}
use Rattle.scim_admin.proofs.operators.Admin.turn.Goals as goal

pub returns-in-Err-clause-reloads : goal.returns-in-Err-clause-reloads
returns-in-Err-clause-reloads g c =
    let S : Type 0 = WatchedShelf g.row.S.Denot (ServerWatch g.row.H.Denot) in
    let old : Hub S = c.args.hub.now in
    let mid : Hub S = c.step.new.hub in
    let shelf : S = c.log.new.shelf in
    let stands : S → Store → Type 0 = λ shelf store. Represents g.S.Shelf.stands ((watcher.ghosts g.row.H g.H.Host g.H.Host-dict).told) shelf store in
    let honest : S → Type 0 = λ shelf. g.S.Shelf.is_honest (lower_of shelf) in
    let round : S → Round → Type 0 = λ shelf own. IsInRound g.S.Shelf.has_round ((watcher.ghosts g.row.H g.H.Host g.H.Host-dict).told) shelf own in
    let keeps : KeepsShelf stands honest round (hub_shelf mid) shelf = subst (λ (s : S). KeepsShelf stands honest round s shelf) c.shelf_mut.ensures.shows c.log.ensures.keeps in
    reload_then stands honest round g.H.Host.gives old mid (with_hub_shelf mid shelf) c.step.ensures.reloads (hub_with_shelf stands honest round mid shelf keeps)
