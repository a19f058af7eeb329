use Rattle.std.proofs.Common.{rules, ◌≡◌, refl, ap}
use Rattle.scim_shelf.specs.Stores.{after}
use Rattle.scim_shelf_cache.specs.Caches.{is_ahead}
use Rattle.scim_shelf_cache.specs.declared.caches.Cache.TheVariants.{Filled}
use Rattle.scim_shelf_cache.proofs.RoundLemmas.{alone, filled, none_kept, one_ahead}
use Rattle.scim_shelf_cache.proofs.caches.CachedShelfShelf.commit.Goals as goal

pub returns-in-Ok-clause-ok : goal.returns-in-Ok-clause-ok
returns-in-Ok-clause-ok g c store is keyed can =
    let was = filled g.S.Shelf.stands g.S.Shelf.is_honest c.args.self.now c.in-Some-take_filled.resources store (search rules) is in
    let honest = c.commit_over.ensures.commits.honest in
    alone g.S.Shelf.stands g.S.Shelf.is_honest c.follow.result c.commit_over.new.self (after c.args.change c.args.row store) c.follow.ensures.none
    (c.in-Ok.ensures.ok store was.0 keyed can (λ h. c.old_of-old.ensures store.resources (was.1 (honest h))))
    (λ h. c.follow.ensures.resources store (was.1 (honest h)) can)

pub returns-in-Err-clause-commits : goal.returns-in-Err-clause-commits
returns-in-Err-clause-commits g c =
    let shelf = c.args.self.now in
    let resources = c.in-Some-take_filled.resources in
    let lower = c.commit_over.new.self in
    let cache : shelf.cache ≡ Filled resources = search rules in
    let commits = c.in-Err.ensures.commits in
    record {
      store = λ store is.
          let was = filled g.S.Shelf.stands g.S.Shelf.is_honest shelf resources store cache is in
          alone g.S.Shelf.stands g.S.Shelf.is_honest (Filled resources) lower store refl (commits.store store was.0) (λ h. was.1 (commits.honest h));
      round = none_kept g.S.Shelf.stands g.S.Shelf.has_round shelf (Filled resources) lower (ap is_ahead cache) refl commits.round;
      honest = commits.honest;
      counts = commits.counts;
      full = λ is_full store is. commits.full is_full store (filled g.S.Shelf.stands g.S.Shelf.is_honest shelf resources store cache is).0;
    }

pub returns-in-Some-clause-ok : goal.returns-in-Some-clause-ok
returns-in-Some-clause-ok g c = λ store is keyed can.
    let done = c.commit_ahead-done.new in
    one_ahead g.S.Shelf.stands g.S.Shelf.is_honest c.args.self.now c.in-Some.resources done.resources c.in-Some.commits done.commits c.args.change c.args.row store (search rules)
    c.in_ok-done.ensures.noted c.in_ok-done.ensures.made can is
