-- Changes that are committed together.
use Rattle.std.specs.Prelude.{List, [], ◌∷◌, ⊤}
use Rattle.std.specs.Option.{option_copied}
use Rattle.scim_shelf.specs.Stores.{Store, CanKeep, IsOld, after}
use Rattle.scim_shelf.specs.declared.commits.Commit.{Commit}

-- The store after one commit: after its change, with its audit row.
abbrev pub committed : Commit → Store → Store
committed c store = after c.change.now c.row.now store

-- The store after these steps, in order.
abbrev pub after_each : {C : Type 0} → (C → Store → Store) → List C → Store → Store
after_each step [] store = store
after_each step (c ∷ cs) store = after_each step cs (step c store)

-- Each of these steps satisfies `P` in the store that those before it leave.
abbrev pub InTurn : {C : Type 0} → (C → Store → Store) → (Store → C → Type 0) → List C → Store → Type 0
InTurn step P [] store = ⊤
InTurn step P (c ∷ cs) store = P store c × InTurn step P cs (step c store)

-- The store after these commits, in order.
abbrev pub after_all : List Commit → Store → Store
after_all = after_each committed

-- Each change may be made.
abbrev pub CanKeepAll : List Commit → Store → Type 0
CanKeepAll = InTurn committed (λ store c. CanKeep store c.change.now)

-- Each `old` is the user or group that has the id of its change, if any.
abbrev pub AreOld : List Commit → Store → Type 0
AreOld = InTurn committed (λ store c. IsOld store.resources c.change.now (option_copied c.old))
