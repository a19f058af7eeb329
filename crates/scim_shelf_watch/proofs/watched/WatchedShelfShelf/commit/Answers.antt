use Rattle.std.proofs.Common.{rules, ◌≡◌, true, false, Bool, ℕ, List, ◌+◌, ◌∷◌, [], ◌++◌, subst, sym, arith, length-append}
use Rattle.scim_shelf_watch.specs.Watched.{IsWatched, NumberedRow, numbered_row}
use Rattle.scim_shelf_watch.proofs.WatchedLemmas.{watched_ahead, watched_more}
use Rattle.scim_shelf_watch.proofs.watched.WatchedShelfShelf.commit.Goals as goal

pub returns-then-not-self-clause-ok : goal.returns-then-not-self-clause-ok
returns-then-not-self-clause-ok g c store stands keyed can = (
  search rules,
  λ few.
      let own = c.args.self.now in
      let Told = g.W.Watcher.told in
      let watched = stands.1 (omega (arith, few, length-append store.audit (c.args.row ∷ []))) in
      let number : c.saturating_add-number.result ≡ own.rows + 1 = omega (arith, c.saturating_add-number.ensures, watched.count, few, length-append store.audit (c.args.row ∷ [])) in
      let allowed : c.allows.result ≡ true = search rules in
      let alone : own.in_round ≡ false = search rules in
      let begins : (done begun : List NumberedRow) → Told own.watcher done begun → Told c.begins.new.self done (begun ++ numbered_row (own.rows + 1) c.args.row ∷ []) =
      λ done begun told. subst (λ (n : ℕ). Told c.begins.new.self done (begun ++ numbered_row n c.args.row ∷ [])) number (c.in_ok-begins.ensures.ok done begun (c.allows.ensures.yes allowed done begun told)) in
      let made = watched_more Told own.watcher c.begins.new.self c.committed.new.self own.before own.told_rows own.rows store.audit c.args.row
      (subst (λ (b : Bool). IsWatched Told own.watcher own.before own.told_rows own.rows b store.audit) alone watched) begins c.committed.ensures in
      subst (λ (n : ℕ). IsWatched Told c.committed.new.self own.before n n own.in_round (store.audit ++ c.args.row ∷ [])) (sym number)
      (subst (λ (b : Bool). IsWatched Told c.committed.new.self own.before (own.rows + 1) (own.rows + 1) b (store.audit ++ c.args.row ∷ [])) (sym alone) made),
)

pub returns-else-not-self-clause-ok : goal.returns-else-not-self-clause-ok
returns-else-not-self-clause-ok g c store stands keyed can = (
  search rules,
  λ few.
      let own = c.args.self.now in
      let Told = g.W.Watcher.told in
      let watched = stands.1 (omega (arith, few, length-append store.audit (c.args.row ∷ []))) in
      let number : c.saturating_add-number.result ≡ own.rows + 1 = omega (arith, c.saturating_add-number.ensures, watched.count, few, length-append store.audit (c.args.row ∷ [])) in
      let allowed : c.allows.result ≡ true = search rules in
      let ahead : own.in_round ≡ true = search rules in
      let begins : (done begun : List NumberedRow) → Told own.watcher done begun → Told c.begins.new.self done (begun ++ numbered_row (own.rows + 1) c.args.row ∷ []) =
      λ done begun told. subst (λ (n : ℕ). Told c.begins.new.self done (begun ++ numbered_row n c.args.row ∷ [])) number (c.in_ok-begins.ensures.ok done begun (c.allows.ensures.yes allowed done begun told)) in
      let made = watched_ahead Told own.watcher c.begins.new.self own.before own.told_rows own.rows store.audit c.args.row
      (subst (λ (b : Bool). IsWatched Told own.watcher own.before own.told_rows own.rows b store.audit) ahead watched) begins in
      subst (λ (n : ℕ). IsWatched Told c.begins.new.self own.before own.told_rows n own.in_round (store.audit ++ c.args.row ∷ [])) (sym number)
      (subst (λ (b : Bool). IsWatched Told c.begins.new.self own.before own.told_rows (own.rows + 1) b (store.audit ++ c.args.row ∷ [])) (sym ahead) made),
)

-- by name, so that a body that breaks it is refused at once
pub returns-in-Err-clause-commits : goal.returns-in-Err-clause-commits
returns-in-Err-clause-commits g c = search rules
