use Rattle.std.proofs.Common.{rules, ◌≡◌, refl, false}
use Rattle.scim_shelf_cache.specs.Caches.{is_ahead}
use Rattle.scim_shelf_cache.specs.declared.caches.Cache.TheVariants.{Filled}
use Rattle.scim_shelf_cache.proofs.RoundLemmas.{alone, below_same, none_kept, not_ahead}
use Rattle.scim_shelf_cache.proofs.caches.CachedShelf.fill.Goals as goal

pub returns-clause-anew : goal.returns-clause-anew
returns-clause-anew g c = λ store is. (
  alone g.S.Shelf.stands g.S.Shelf.is_honest (Filled c.in_ok-resources.resources) c.collection_of.new.shelf store refl (c.collection_of.ensures.read.store store is.0)
      (λ honest. c.in_ok-resources.ensures.answer store is.0 honest is.1),
  is.1,
)

pub returns-clause-read : goal.returns-clause-read
returns-clause-read g c =
    let shelf = c.args.self.now in
    let read = c.in_ok-resources.ensures.read in
    let not : is_ahead shelf.cache ≡ false = search rules in
    record {
      store = λ store is.
          let below = below_same g.S.Shelf.stands g.S.Shelf.is_honest shelf store (not_ahead shelf.cache not) is.0 in (
            alone g.S.Shelf.stands g.S.Shelf.is_honest (Filled c.in_ok-resources.resources) c.collection_of.new.shelf store refl (read.store store below)
                (λ honest. c.in_ok-resources.ensures.answer store below honest is.1),
            is.1,
          );
      round = none_kept g.S.Shelf.stands g.S.Shelf.has_round shelf (Filled c.in_ok-resources.resources) c.collection_of.new.shelf not refl read.round;
      honest = read.honest;
      counts = record { ok = read.counts.ok; err = tt };
      not_full = search rules;
    }
