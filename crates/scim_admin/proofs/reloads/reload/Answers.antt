use Rattle.std.proofs.Common.{subst, inl}
use Rattle.scim_shelf.specs.Shelves.{Round}
use Rattle.scim_shelf.specs.Stores.{Store}
use Rattle.scim_hub.specs.declared.hubs.Hub.{Hub}
use Rattle.scim_hub.specs.HubSetting.{hub_policy, hub_shelf, hub_tokens, with_hub_shelf}
use Rattle.scim_shelf_watch.specs.declared.watched.WatchedShelf.{WatchedShelf}
use Rattle.scim_shelf_watch.specs.Watched.{IsInRound, Represents, lower_of}
use Rattle.scim_admin.specs.declared.watching.ServerWatch.{ServerWatch}
use Rattle.scim_admin.specs.contracts.watching.ServerWatchWatcher.TheImpl as watcher
use Rattle.scim_admin_streams.specs.Shelves.{KeepsShelf}
use Rattle.scim_admin.specs.Reloads.{IsReloaded}
use Rattle.scim_admin.proofs.KeepingLemmas.{hub_then, hub_with_shelf, no_reload, put_into_force, then_reload}
use Rattle.scim_admin.proofs.reloads.reload.Goals as goal

-- src/reloads.rt
pub returns-in_ok-reply-in-Ok-clause-reloads : goal.returns-in_ok-reply-in-Ok-clause-reloads
returns-in_ok-reply-in-Ok-clause-reloads g c =
    let S : Type 0 = WatchedShelf g.row.S.Denot (ServerWatch g.row.H.Denot) in
    let old : Hub S = c.args.hub.now in
    let first : S = c.read_again.new.shelf in
    let second : S = c.accept.new.shelf in
    let new : Hub S = c.apply.new.hub in
    let mid : Hub S = with_hub_shelf old first in
    let hub : Hub S = with_hub_shelf mid second in
    let stands : S → Store → Type 0 = λ shelf store. Represents g.S.Shelf.stands ((watcher.ghosts g.row.H g.H.Host g.H.Host-dict).told) shelf store in
    let honest : S → Type 0 = λ shelf. g.S.Shelf.is_honest (lower_of shelf) in
    let round : S → Round → Type 0 = λ shelf own. IsInRound g.S.Shelf.has_round ((watcher.ghosts g.row.H g.H.Host g.H.Host-dict).told) shelf own in
    let one : KeepsShelf stands honest round (hub_shelf old) first = subst (λ (s : S). KeepsShelf stands honest round s first) c.shelf_mut.ensures.shows c.in-Ok.ensures.keeps in
    let two : KeepsShelf stands honest round (hub_shelf mid) second = subst (λ (s : S). KeepsShelf stands honest round s second) c.shelf_mut-in-Ok.ensures.shows c.accept.ensures.keeps in
    let given = c.in-Ok.ensures.given in
    then_reload stands honest round g.H.Host.gives old hub new
    (hub_then stands honest round old mid hub (hub_with_shelf stands honest round old first one) (hub_with_shelf stands honest round mid second two))
    (put_into_force stands honest round g.H.Host.gives hub new c.in-Ok.setting given.0 c.apply.ensures.hub c.in-Ok.ensures.known given.1)

-- src/reloads.rt
pub returns-in_ok-reply-in-Ok-clause-tells : goal.returns-in_ok-reply-in-Ok-clause-tells
returns-in_ok-reply-in-Ok-clause-tells g c =
    let given = c.in-Ok.ensures.given in
    let says = c.in_ok-reply-in-Ok.ensures.says in
    let is : IsReloaded g.H.Host.gives c.apply.new.hub = record {
      host = given.0;
      setting = c.in-Ok.setting;
      given = given.1;
      policy = (λ i. hub_policy (c.apply.ensures.hub i));
      tokens = (λ i. hub_tokens (c.apply.ensures.hub i));
    }
    in
    inl (says.0, says.1, is, c.apply.ensures.admins)

-- src/reloads.rt
pub returns-in_err-reply-in-Ok-clause-reloads : goal.returns-in_err-reply-in-Ok-clause-reloads
returns-in_err-reply-in-Ok-clause-reloads g c =
    let S : Type 0 = WatchedShelf g.row.S.Denot (ServerWatch g.row.H.Denot) in
    let old : Hub S = c.args.hub.now in
    let first : S = c.read_again.new.shelf in
    let second : S = c.accept.new.shelf in
    let mid : Hub S = with_hub_shelf old first in
    let hub : Hub S = with_hub_shelf mid second in
    let stands : S → Store → Type 0 = λ shelf store. Represents g.S.Shelf.stands ((watcher.ghosts g.row.H g.H.Host g.H.Host-dict).told) shelf store in
    let honest : S → Type 0 = λ shelf. g.S.Shelf.is_honest (lower_of shelf) in
    let round : S → Round → Type 0 = λ shelf own. IsInRound g.S.Shelf.has_round ((watcher.ghosts g.row.H g.H.Host g.H.Host-dict).told) shelf own in
    let one : KeepsShelf stands honest round (hub_shelf old) first = subst (λ (s : S). KeepsShelf stands honest round s first) c.shelf_mut.ensures.shows c.in-Ok.ensures.keeps in
    let two : KeepsShelf stands honest round (hub_shelf mid) second = subst (λ (s : S). KeepsShelf stands honest round s second) c.shelf_mut-in-Ok.ensures.shows c.accept.ensures.keeps in
    no_reload stands honest round g.H.Host.gives old hub (hub_then stands honest round old mid hub (hub_with_shelf stands honest round old first one) (hub_with_shelf stands honest round mid second two))
