use Rattle.scim_shelf_watch.proofs.WatchedLemmas.{watched_start}
use Rattle.scim_shelf_watch.proofs.watched.WatchedShelf.over.Goals as goal

pub returns-clause-stands : goal.returns-clause-stands
returns-clause-stands g c store stands count told =
    (stands, λ few. watched_start g.W.Watcher.told c.args.watcher c.args.rows store.audit (count few) told)
