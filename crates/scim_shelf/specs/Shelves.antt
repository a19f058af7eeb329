-- The postconditions of the operations of a shelf.
use Rattle.std.specs.Prelude.{◌≡◌, ◌≢◌, ◌<◌, ◌+◌, ◌==◌, ◌++◌, if◌then◌else◌, ℕ, List, Result, Err, IfOk, OnOk, IfErr, OnErr, length}
use Rattle.std.specs.List.{FoldsTo}
use Rattle.scim_text.specs.declared.memory.Failed.{Failed}
use Rattle.scim_text.specs.declared.memory.Failed.TheVariants.{Because}
use Rattle.scim_cell.specs.Content.{Content}
use Rattle.scim_shelf.specs.declared.faults.ShelfFault.{ShelfFault}
use Rattle.scim_shelf.specs.declared.faults.ShelfFault.TheVariants.{Device, Full}
use Rattle.scim_shelf.specs.Stores.{Store, IsStore, last_number, window}

-- The count of failures after a call that failed: one more after `Device`, unless the count is at its
-- maximum, 2^64 - 1.
abbrev pub count_after : ℕ → Failed ShelfFault → ℕ
count_after before (Because Device) = if before == 18446744073709551615 then before else before + 1
count_after before _ = before

-- A call that fails with `Device` adds one to the count of failures, unless the count is at its maximum,
-- 2^64 - 1. Any other call leaves the count unchanged.
pub record Counts {T : Type 0} (before now : ℕ) (result : Result T (Failed ShelfFault)) : Type 0 where
  pub ok : OnOk result (now ≡ before)
  pub err : IfErr result (λ fault. now ≡ count_after before fault)

-- The new shelf represents every store that the old one represents.
abbrev pub KeepsStore : {H : Type 0} → (H → Store → Type 0) → H → H → Type 0
KeepsStore Stands old new = (store : Store) → Stands old store → Stands new store

-- The round that a shelf has: none, so that each commit is on the device; or one since this store, which the
-- shelf represents again if the commits of the round can't be put on the device.
pub data Round : Type 0 where
  settled : Round
  since : Store → Round

-- The new shelf has each round that the old one has.
abbrev pub KeepsRound : {H : Type 0} → (H → Round → Type 0) → H → H → Type 0
KeepsRound HasRound old new = (round : Round) → HasRound old round → HasRound new round

-- A call that only reads keeps the store and the round, never makes a dishonest shelf honest, counts failures,
-- and never fails with `Full`.
pub record OnlyReads {H T : Type 0} (Stands : H → Store → Type 0) (IsHonest : H → Type 0) (failures : H → ℕ)
    (HasRound : H → Round → Type 0) (old new : H) (result : Result T (Failed ShelfFault)) : Type 0 where
  pub store : KeepsStore Stands old new
  pub round : KeepsRound HasRound old new
  pub honest : IsHonest new → IsHonest old
  pub counts : Counts (failures old) (failures new) result
  pub not_full : result ≢ Err (Because Full)

-- If the shelf is honest after a call, the result satisfies `Answer` for each store that the shelf
-- represented before the call.
abbrev pub Answers : {H T : Type 0} → (H → Store → Type 0) → (H → Type 0) → H → H → (Store → T → Type 0) → T → Type 0
Answers Stands IsHonest old new Answer x = (store : Store) → Stands old store → IsHonest new → Answer store x

-- If the shelf is honest after a read, the value that the read returns satisfies `Fits` for the store,
-- provided that the store is valid: `IsStore` is true for some base URI.
abbrev pub IsReadFrom : {H T E : Type 0} → (H → Store → Type 0) → (H → Type 0) → H → H → Result T E → (Store → T → Type 0) → Type 0
IsReadFrom Stands IsHonest old new result Fits =
    IfOk result (Answers Stands IsHonest old new (λ store x. (base : List ℕ) → IsStore base store → Fits store x))

-- A visitor took a prefix of the resources, in order.
pub record TookPrefix {V : Type 0} (Takes : V → Content → V → Type 0) (before : V) (cs : List Content) (after : V) : Type 0 where
  pub taken : List Content
  pub left : List Content
  pub whole : taken ++ left ≡ cs
  pub took : FoldsTo Takes before taken after

-- A visitor took the `count` resources after the first `skipped`, in order, and `total` is the number of all of
-- them.
pub record TookWindow {V : Type 0} (Takes : V → Content → V → Type 0) (before : V) (skipped count : ℕ) (cs : List Content) (after : V)
    (total : ℕ) : Type 0 where
  pub number : total ≡ length cs
  pub took : FoldsTo Takes before (window skipped count cs) after

-- If a call that passes resources to a visitor fails with `Device`, and the shelf is honest after the call,
-- the visitor took a prefix of these resources.
abbrev pub ShowsPrefix : {H V T : Type 0} → (H → Store → Type 0) → (H → Type 0) → H → H → Result T (Failed ShelfFault) → (V → Content → V → Type 0) → V → (Store → List Content) → V → Type 0
ShowsPrefix Stands IsHonest old new result Takes before shown after =
    result ≡ Err (Because Device) → (store : Store) → Stands old store → IsHonest new → TookPrefix Takes before (shown store) after

-- A commit that fails keeps the store. A commit keeps the round, never makes a dishonest shelf honest, counts
-- failures, and fails with `Full` only if the last audit number is in use.
pub record Commits {H T : Type 0} (Stands : H → Store → Type 0) (IsHonest : H → Type 0) (failures : H → ℕ)
    (HasRound : H → Round → Type 0) (old new : H) (result : Result T (Failed ShelfFault)) : Type 0 where
  pub store : OnErr result (KeepsStore Stands old new)
  pub round : KeepsRound HasRound old new
  pub honest : IsHonest new → IsHonest old
  pub counts : Counts (failures old) (failures new) result
  pub full : result ≡ Err (Because Full) → (store : Store) → Stands old store → length store.audit ≡ last_number

-- The end of a round keeps the store if it succeeds; if it fails, the shelf represents the store before the round
-- again. Afterwards no round is under way. It never makes a dishonest shelf honest, and counts failures.
pub record Settles {H T : Type 0} (Stands : H → Store → Type 0) (IsHonest : H → Type 0) (failures : H → ℕ)
    (HasRound : H → Round → Type 0) (old new : H) (result : Result T (Failed ShelfFault)) : Type 0 where
  pub made : OnOk result (KeepsStore Stands old new)
  pub back : OnErr result ((store : Store) → HasRound old (since store) → Stands new store)
  pub settles : (round : Round) → HasRound old round → HasRound new settled
  pub honest : IsHonest new → IsHonest old
  pub counts : Counts (failures old) (failures new) result

-- A call that commits `count` changes together keeps the store if it fails. It keeps the round, never makes a
-- dishonest shelf honest, counts failures, and fails with `Full` only if the numbers left aren't enough for the
-- audit rows.
pub record CommitsSome {H T : Type 0} (Stands : H → Store → Type 0) (IsHonest : H → Type 0) (failures : H → ℕ)
    (HasRound : H → Round → Type 0) (count : ℕ) (old new : H) (result : Result T (Failed ShelfFault)) : Type 0 where
  pub store : OnErr result (KeepsStore Stands old new)
  pub round : KeepsRound HasRound old new
  pub honest : IsHonest new → IsHonest old
  pub counts : Counts (failures old) (failures new) result
  pub full : result ≡ Err (Because Full) → (store : Store) → Stands old store → last_number < length store.audit + count
