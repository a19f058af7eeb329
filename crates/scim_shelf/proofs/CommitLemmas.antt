-- Several commits, one behind the others.
use Rattle.std.proofs.Common.{◌≡◌, refl, ◌+◌, List, [], ◌∷◌, ◌++◌, length, length-append, arith}
use Rattle.scim_shelf.specs.Stores.{Store}
use Rattle.scim_shelf.specs.Commits.{committed, after_all, after_each, InTurn}
use Rattle.scim_shelf.specs.declared.commits.Commit.{Commit}

module _ {C : Type 0} (step : C → Store → Store) where
  pub after_more : (cs : List C) (c : C) (store : Store) → after_each step (cs ++ c ∷ []) store ≡ step c (after_each step cs store)
  after_more [] c store = refl
  after_more (d ∷ ds) c store = after_more ds c (step d store)

  module _ (P : Store → C → Type 0) where
    pub in_turn_more : (cs : List C) (c : C) (store : Store) → InTurn step P (cs ++ c ∷ []) store → InTurn step P cs store × P (after_each step cs store) c
    in_turn_more [] c store h = (tt, h.0)
    in_turn_more (d ∷ ds) c store h = (let rest = in_turn_more ds c (step d store) h.1 in ((h.0, rest.0), rest.1))

    pub in_turn_and : (cs : List C) (c : C) (store : Store) → InTurn step P cs store → P (after_each step cs store) c → InTurn step P (cs ++ c ∷ []) store
    in_turn_and [] c store h p = (p, tt)
    in_turn_and (d ∷ ds) c store h p = (h.0, in_turn_and ds c (step d store) h.1 p)

    pub in_turn_front : (cs ds : List C) (store : Store) → InTurn step P (cs ++ ds) store → InTurn step P cs store
    in_turn_front [] ds store h = tt
    in_turn_front (c ∷ cs) ds store h = (h.0, in_turn_front cs ds (step c store) h.1)

pub rows_after : (cs : List Commit) (store : Store) → length (after_all cs store).audit ≡ length store.audit + length cs
rows_after [] store = omega arith
rows_after (d ∷ ds) store = omega (arith, rows_after ds (committed d store), length-append store.audit (d.row.now ∷ []))
