use Rattle.std.proofs.Common.{rules, ◌≡◌, List, refl, sym, subst}
use Rattle.scim_shelf.specs.Shelves.{settled}
use Rattle.scim_shelf_cache.specs.declared.caches.Cache.TheVariants.{Ahead}
use Rattle.scim_shelf_cache.specs.declared.rounds.RoundCommit.{RoundCommit}
use Rattle.scim_shelf_cache.specs.code.Rounds.{AreCommitsOf}
use Rattle.scim_shelf_cache.proofs.RoundLemmas.{lower_settled, round_made}
use Rattle.scim_shelf_cache.proofs.caches.CachedShelfShelf.settle.Goals as goal

pub returns : goal.returns
returns g c =
    let shelf = c.args.self.now in
    let own = c.in-Some.own in
    let cache : shelf.cache ≡ Ahead c.in-Some.resources own = search rules in
    let handed : AreCommitsOf own.items c.as_slice-2.result.now =
    subst (AreCommitsOf own.items) (sym c.as_slice-2.ensures.value)
    (subst (λ (owns : List RoundCommit). AreCommitsOf owns c.in_ok-commits.commits.items) c.as_slice.ensures.value c.in_ok-commits.ensures) in
    record {
      made = λ store is. round_made g.S.Shelf.stands g.S.Shelf.is_honest shelf c.commit_all.new.self c.in-Some.resources own c.as_slice-2.result.now store cache handed
          c.in_ok-commit_all.ensures.ok c.commit_all.ensures.commits.honest is;
      back = tt;
      settles = λ round has. (refl, c.commit_all.ensures.commits.round settled (lower_settled g.S.Shelf.stands g.S.Shelf.has_round shelf round has));
      honest = c.commit_all.ensures.commits.honest;
      counts = search rules;
    }
