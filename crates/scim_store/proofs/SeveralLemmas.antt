-- What several commits in one transaction leave.
use Rattle.std.proofs.Common.{◌≡◌, IsTrue, Result, Ok, Err, ◌∙◌, sym, subst, refl, ap, ℕ, ◌+◌, List, [], ◌∷◌, ◌++◌, length, length-append, arith}
use Rattle.std.specs.Prelude.{OnErr}
use Rattle.std.specs.Option.{option_copied}
use Rattle.sqlite.specs.Effect.{Database}
use Rattle.sqlite.specs.State.{State, Survives}
use Rattle.sqlite.specs.Tree.{Trees}
use Rattle.sqlite.proofs.StateLemmas.{survives_weaker}
use Rattle.scim_shelf.specs.Stores.{Store}
use Rattle.scim_store_tables.specs.Steps.{Became, Undoes, Leaves}
use Rattle.scim_store_rows.specs.Stands.{StandsFor}
use Rattle.scim_shelf.specs.declared.commits.Commit.{Commit}
use Rattle.scim_store.specs.Committing.{HasStore, AreOf, IsDueOver, Changes}
use Rattle.scim_shelf.specs.Commits.{committed, after_all}
use Rattle.scim_shelf.proofs.Facts.{after_more, in_turn_more, rows_after}
use Rattle.scim_store.specs.Commits.{AreDue}

-- ---- one commit behind others

-- before the last of these commits, those before it are due, and it is due behind them
due_more : (cs : List Commit) (c : Commit) (rows number : ℕ) (store : Store) → number ≡ rows + length cs + 1 → AreDue (cs ++ c ∷ []) rows store
    → AreDue cs rows store × IsDueOver (option_copied c.old) c.change.now number (after_all cs store)
due_more cs c rows number store is due =
    let can = in_turn_more committed _ cs c store due.can in
    let were = in_turn_more committed _ cs c store due.were in (
      record { can = can.0; were = were.0; rows_are = due.rows_are },
      record { due = record { can = can.1; next = omega (arith, is, due.rows_are, rows_after cs store) }; was = were.1 },
    )

pub none_changed : (base : List ℕ) (rows : ℕ) (db : Database) → Changes base (after_all []) (AreDue [] rows) db db
none_changed base rows db store stands due = stands

pub more_changed : (base : List ℕ) (cs : List Commit) (c : Commit) (rows number : ℕ) (a b d : Database) → number ≡ rows + length cs + 1 → Changes base (after_all cs) (AreDue cs rows) a b
    → Changes base (committed c) (IsDueOver (option_copied c.old) c.change.now number) b d → Changes base (after_all (cs ++ c ∷ [])) (AreDue (cs ++ c ∷ []) rows) a d
more_changed base cs c rows number a b d is did step store stands due =
    let both = due_more cs c rows number store is due in
    subst (StandsFor base d) (sym (after_more committed cs c store)) (step (after_all cs store) (did store stands both.0) both.1)

-- ---- the whole transaction

module _ (base : List ℕ) (cs : List Commit) (rows : ℕ) (a c : State) (became : Became a c (Changes base (after_all cs) (AreDue cs rows))) where
  pub all_made : (store : Store) → HasStore base a store → AreDue cs rows store → HasStore base c (after_all cs store)
  all_made store has due = record { stands = λ _. became.changed store (has.stands became.was_open) due; settled = λ _. became.settled }

  -- the law is the store's: what a crash leaves of an open one is its last commit
  pub all_last : ((trees : Trees) → IsTrue c.is_open → c.may_leave trees → trees ≡ c.committed.trees)
      → (store : Store) → HasStore base a store → AreDue cs rows store → (trees : Trees) → c.may_leave trees → AreOf base (after_all cs store) trees
  all_last law store has due trees left = (c.now, law trees became.is_open left ∙ ap (λ (db : Database). db.trees) (sym became.settled), (all_made store has due).stands became.is_open)

-- a transaction that is undone keeps the store
pub none_made : {T E : Type 0} (base : List ℕ) (a c : State) (r : Result T E) → OnErr r (Undoes a c) → OnErr r ((store : Store) → HasStore base a store → HasStore base c store)
none_made base a c (Ok x) undoes = tt
none_made base a c (Err e) undoes = λ store has. record {
  stands = λ o. subst (λ (db : Database). StandsFor base db store) (sym (undoes.now o ∙ sym (has.settled (undoes.was_open o)))) (has.stands (undoes.was_open o));
  settled = λ o. undoes.now o ∙ sym (undoes.committed o);
}

-- ---- a single commit

module _ (base : List ℕ) (c : Commit) (rows : ℕ) where
  pub one_due : (store : Store) → IsDueOver (option_copied c.old) c.change.now (rows + 1) store → AreDue (c ∷ []) rows store
  one_due store it = record { can = (it.due.can, tt); were = (it.was, tt); rows_are = omega (arith, it.due.next) }

  pub one_survives : (a b : State) → Survives a b (Leaves (Changes base (after_all (c ∷ [])) (AreDue (c ∷ []) rows)) a.now)
      → Survives a b (Leaves (Changes base (committed c) (IsDueOver (option_copied c.old) c.change.now (rows + 1))) a.now)
  one_survives a b = survives_weaker a b _ _ (λ _ trees leaves. (leaves.0, leaves.1, λ store stands it. leaves.2 store stands (one_due store it)))
