-- The open connections by number, and the sum of their weights.
use Rattle.std.specs.Prelude.{◌≡◌, ◌≢◌, ◌≤◌, ◌^◌, ℕ, Option, None, Some, is_some}
use Rattle.std.specs.List.{All, sum_by}
use Rattle.std.specs.Ordering.{nat_cmp}
use Rattle.std.specs.BTreeMap.{BTreeMap, btree_map_len, get, values}
use Rattle.scim_sockets.specs.declared.connection.Connection.{Connection}
use Rattle.scim_sockets.specs.Connections.{IsAtRest, weight_of}

-- the connection with the number n, if there is one
abbrev pub connection_at : BTreeMap ℕ Connection → ℕ → Option Connection
connection_at by_number n = get nat_cmp by_number n

-- the sum of the weights of the connections
abbrev pub total_weight : BTreeMap ℕ Connection → ℕ
total_weight by_number = sum_by weight_of (values by_number)

-- all connections other than n are as before
abbrev pub KeepsOthers : ℕ → BTreeMap ℕ Connection → BTreeMap ℕ Connection → Type 0
KeepsOthers n old new = (m : ℕ) → n ≢ m → connection_at new m ≡ connection_at old m

-- all connections that aren't at rest are as before
abbrev pub KeepsBusy : BTreeMap ℕ Connection → BTreeMap ℕ Connection → Type 0
KeepsBusy old new = (m : ℕ) (c : Connection) → connection_at old m ≡ Some c → (IsAtRest c → ⊥) → connection_at new m ≡ Some c

-- at most connection n has changed, and it is still there if it was
pub record ChangesOne (n : ℕ) (old new : BTreeMap ℕ Connection) : Type 0 where
  pub others : KeepsOthers n old new
  pub kept : is_some (connection_at new n) ≡ is_some (connection_at old n)

-- at most 1,024 connections are open, none has a number from `next` on, no weight is too great to be added, and
-- `total` is the sum of the weights
pub record AreCounted (by_number : BTreeMap ℕ Connection) (next total : ℕ) : Type 0 where
  pub few : btree_map_len by_number ≤ 1024
  pub unused : (m : ℕ) → next ≤ m → connection_at by_number m ≡ None
  pub light : All (λ connection. weight_of connection ≤ 2 ^ 34) (values by_number)
  pub summed : total ≡ total_weight by_number
