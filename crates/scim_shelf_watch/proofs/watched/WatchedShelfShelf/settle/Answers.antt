use Rattle.std.proofs.Common.{rules, ◌≡◌, Ok, refl}
use Rattle.scim_shelf_watch.proofs.KeptLemmas.{lower_settles}
use Rattle.scim_shelf_watch.proofs.WatchedLemmas.{watched_all}
use Rattle.scim_shelf_watch.proofs.watched.WatchedShelfShelf.settle.Goals as goal

pub returns-in-Ok : goal.returns-in-Ok
returns-in-Ok g c =
    let own = c.args.self.now in
    let ok : c.settle.result ≡ Ok c.in-Ok.field-0 = search rules in
    record {
      made = λ store stands. (
        (rw ok at c.settle.ensures.made) store stands.0,
        λ few.
            let is = stands.1 few in
            watched_all g.W.Watcher.told own.watcher c.committed.new.self own.before own.told_rows own.rows store.audit is.count is.part is.within is.told c.committed.ensures,
      );
      back = tt;
      settles = λ round has. (refl, lower_settles g.S.Shelf.has_round g.W.Watcher.told own c.settle.new.self c.settle.ensures.settles round has);
      honest = c.settle.ensures.honest;
      counts = search rules;
    }
