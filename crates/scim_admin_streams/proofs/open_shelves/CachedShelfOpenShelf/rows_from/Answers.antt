use Rattle.std.proofs.Common.{rules, ◌≡◌, false}
use Rattle.std.specs.Prelude.{Result, Ok, Err, IfOk}
use Rattle.scim_shelf_cache.specs.Caches.{is_in_round}
use Rattle.scim_shelf_cache.proofs.Facts.{lower_looked, lower_store, round_looked}
use Rattle.scim_admin_streams.proofs.open_shelves.CachedShelfOpenShelf.rows_from.Goals as goal

-- what is so of a value is so of what it stands for
mapped : {T E : Type 0} (r : Result T E) (P Q : T → Type 0) → ((x : T) → P x → Q x) → IfOk r P → IfOk r Q
mapped (Ok x) P Q then is = then x is
mapped (Err e) P Q then is = tt

pub returns-clause-answer : goal.returns-clause-answer
returns-clause-answer g c =
    let shelf = c.args.self.now in
    let outside : is_in_round shelf ≡ false = search rules in
    mapped c.rows_from.result _ _ (λ rows answer store is honest. answer store (lower_store g.S.Shelf.stands g.S.Shelf.is_honest shelf store outside is) honest)
    (rw c.lower_mut.ensures.shows at c.rows_from.ensures.answer)

pub returns-clause-keeps : goal.returns-clause-keeps
returns-clause-keeps g c =
    let shelf = c.args.self.now in
    let lower = c.rows_from.new.self in
    let outside : is_in_round shelf ≡ false = search rules in
    let keeps = rw c.lower_mut.ensures.shows at c.rows_from.ensures.keeps in
    record {
      store = λ store is. (
        lower_looked g.S.Shelf.stands g.S.Shelf.is_honest shelf lower store outside keeps.honest (λ stands. (keeps.store store (stands, is.1)).0) is.0,
        is.1,
      );
      round = round_looked g.S.Shelf.stands g.S.Shelf.has_round shelf lower outside keeps.round;
      honest = keeps.honest;
    }
