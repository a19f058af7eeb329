-- The replies of a service to requests, including its failures.
use Rattle.std.specs.Prelude.{◌≡◌, ◌≢◌, ◌⊎◌, ◌<◌, ◌≤◌, ℕ, List, [], ◌∷◌, length, Err}
use Rattle.scim_text.specs.declared.memory.Failed.{Failed}
use Rattle.scim_text.specs.declared.memory.Failed.TheVariants.{Because}
use Rattle.scim_audit.specs.declared.refusals.Refusal.TheVariants.{Store as NoStore}
use Rattle.scim_policy.specs.Rules.{Rule}
use Rattle.scim_shelf.specs.declared.faults.ShelfFault.{ShelfFault}
use Rattle.scim_shelf.specs.declared.faults.ShelfFault.TheVariants.{Device, Full}
use Rattle.scim_shelf.specs.Stores.{Store, last_number}
use Rattle.scim_service.specs.declared.requests.Turn.{Turn}
use Rattle.scim_service.specs.declared.replies.Reply.{Reply}
use Rattle.scim_service.specs.declared.replies.Reply.TheVariants.{Refused, Failed as Failure}
use Rattle.scim_service.specs.Step.{plan, next_store}

-- The fault is a possible cause of a failed request: `Device`, if the device's count of failures rose or was
-- at its maximum; `Full`, if the last audit number is in use; or lack of memory.
pub record IsCause (before now : ℕ) (store : Store) (fault : Failed ShelfFault) : Type 0 where
  pub device : fault ≡ Because Device → (before < now) ⊎ (before ≡ 18446744073709551615)
  pub full : fault ≡ Because Full → length store.audit ≡ last_number

-- The reply is the planned one, and the planned change and audit row are in the store.
abbrev pub IsDone : List Rule → List ℕ → Turn → Store → Reply → Store → Type 0
IsDone policy base turn store reply next = (reply ≡ (plan policy base turn store).reply) × (next ≡ next_store policy base turn store)

-- The request failed with a fault that satisfies `Cause`, and the store is unchanged.
abbrev pub HasFailed : (Failed ShelfFault → Type 0) → Store → Reply → Store → Type 0
HasFailed Cause store reply next = (fault : Failed ShelfFault) × (reply ≡ Failure fault) × Cause fault × (next ≡ store)

-- Memory ran out before the request could be read. The reply is the refusal `Store`, and no audit row is
-- added.
abbrev pub WasNotTold : Turn → Store → Reply → Store → Type 0
WasNotTold turn store reply next = (turn.request.ask ≡ Err NoStore) × (reply ≡ Refused NoStore) × (next ≡ store)

-- Memory didn't run out before the request could be read. The request was carried out, or it failed.
abbrev pub WasTold : List Rule → List ℕ → (Failed ShelfFault → Type 0) → Turn → Store → Reply → Store → Type 0
WasTold policy base Cause turn store reply next =
    (turn.request.ask ≢ Err NoStore) × (IsDone policy base turn store reply next ⊎ HasFailed Cause store reply next)

-- `reply` is a correct reply to the request, and `next` is the store after the request.
abbrev pub Answered : List Rule → List ℕ → (Failed ShelfFault → Type 0) → Turn → Store → Reply → Store → Type 0
Answered policy base Cause turn store reply next = WasNotTold turn store reply next ⊎ WasTold policy base Cause turn store reply next

-- `replies` are correct replies to the requests in order, one for each, and `next` is the store after the
-- last request. `before` and `now` are the device's counts of failures before the first request and after the
-- last.
abbrev pub Runs : List Rule → List ℕ → ℕ → Store → List Turn → List Reply → ℕ → Store → Type 0
Runs policy base before store [] replies now next = (replies ≡ []) × (now ≡ before) × (next ≡ store)
Runs policy base before store (turn ∷ turns) replies now next =
    (reply : Reply) × (rest : List Reply) × (count : ℕ) × (mid : Store)
    × (replies ≡ reply ∷ rest) × (before ≤ count) × Answered policy base (IsCause before count store) turn store reply mid
    × Runs policy base count mid turns rest now next
