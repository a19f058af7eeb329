-- Lists of requests of several clients, and changes that are quiet for a client.
use Rattle.std.specs.Prelude.{◌≡◌, ⊤, ◌⊎◌, ℕ, Bool, true, false, List, [], ◌∷◌, ◌++◌, flat_map, nat_eq, All, Contains, if◌then◌else◌}
use Rattle.std.specs.Cmp.Lexicographic.{pointwise}
use Rattle.scim_cell.specs.Content.{Content}
use Rattle.scim_value.specs.Uniqueness.{Name}
use Rattle.scim_policy.specs.Rules.{Rule}
use Rattle.scim_policy.specs.Control.{control}
use Rattle.scim_view.specs.View.{Viewer, sees, visible}
use Rattle.scim_shelf.specs.Stores.{Store, keep, without}
use Rattle.scim_service.specs.declared.requests.Turn.{Turn}
use Rattle.scim_service.specs.declared.replies.Reply.{Reply}
use Rattle.scim_service.specs.Step.{plan, next_store}
use Rattle.scim_noninterference.specs.Alike.{IsAlike, is_in_use}
use Rattle.scim_service.specs.Requests.{IsTurn, IsFree}

-- Whether a request is from this client.
abbrev pub is_of : List ℕ → Turn → Bool
is_of client turn = pointwise nat_eq turn.request.client client

-- The store after all requests of a list.
abbrev pub run : List Rule → List ℕ → Store → List Turn → Store
run policy base store [] = store
run policy base store (turn ∷ more) = run policy base (next_store policy base turn store) more

-- The replies to the requests of one client in a list.
abbrev pub replies_to : List Rule → List ℕ → List ℕ → Store → List Turn → List Reply
replies_to policy base client store [] = []
replies_to policy base client store (turn ∷ more) =
    (if is_of client turn then (plan policy base turn store).reply ∷ [] else []) ++ replies_to policy base client (next_store policy base turn store) more

-- Each request is valid. If a request is from the client and creates a resource, the id for the new resource
-- is unused before the request.
abbrev pub AreTurns : List Rule → List ℕ → List ℕ → Store → List Turn → Type 0
AreTurns policy base client store [] = ⊤
AreTurns policy base client store (turn ∷ more) =
    IsTurn turn × (is_of client turn ≡ true → IsFree store.resources turn) × AreTurns policy base client (next_store policy base turn store) more

-- ---- two lists with the same requests of a client

-- One request of the client, `own`, and the requests of other clients just before it: `first` in the first
-- list, `second` in the second list.
pub record Round : Type 0 where
  pub first : List Turn
  pub second : List Turn
  pub own : Turn

-- The first list of requests: for each round the requests in `first`, then the client's own request; after
-- all rounds, the requests in `last`.
abbrev pub first_list : List Round → List Turn → List Turn
first_list rounds last = flat_map (λ (r : Round). r.first ++ r.own ∷ []) rounds ++ last

-- The second list of requests: for each round the requests in `second`, then the client's own request; after
-- all rounds, the requests in `last`.
abbrev pub second_list : List Round → List Turn → List Turn
second_list rounds last = flat_map (λ (r : Round). r.second ++ r.own ∷ []) rounds ++ last

-- No request is from the client.
abbrev pub AreOthers : List ℕ → List Turn → Type 0
AreOthers client turns = All (λ turn. is_of client turn ≡ false) turns

-- The round's `own` request is from the client, and the requests before it are from other clients.
pub record IsRound (client : List ℕ) (r : Round) : Type 0 where
  pub own : is_of client r.own ≡ true
  pub first : AreOthers client r.first
  pub second : AreOthers client r.second

-- The requests of other clients keep the two stores alike for the viewer. That is, if the two stores are
-- alike before the other clients' requests of a round, or before those at the end, they are alike after them.
abbrev pub LeadAlike : Viewer → Store → Store → List Round → List Turn → List Turn → Type 0
LeadAlike v s t [] first second = IsAlike v s.resources t.resources → IsAlike v (run v.policy v.base s first).resources (run v.policy v.base t second).resources
LeadAlike v s t (r ∷ rounds) first second =
    (IsAlike v s.resources t.resources → IsAlike v (run v.policy v.base s r.first).resources (run v.policy v.base t r.second).resources)
    × LeadAlike v (next_store v.policy v.base r.own (run v.policy v.base s r.first)) (next_store v.policy v.base r.own (run v.policy v.base t r.second)) rounds first second

-- ---- changes that are quiet for a client

-- One resource is created, changed or removed. The viewer sees it neither before nor after the change, and
-- the same unique names are in use before and after the change.
pub record IsUnseen (v : Viewer) (before after : List Content) : Type 0 where
  pub id : List ℕ
  pub others : without id before ≡ without id after
  pub unseen_before : All (λ c. c.id ≡ id → sees v c ≡ false) before
  pub unseen_after : All (λ c. c.id ≡ id → sees v c ≡ false) after
  pub names : (name : Name) → is_in_use before name ≡ is_in_use after name

-- One resource is changed. The values that the viewer sees are unchanged, and so are the values that the
-- policy's targets name or that must be unique.
pub record IsHidden (v : Viewer) (before after : List Content) : Type 0 where
  pub old : Content
  pub new : Content
  pub there : Contains before old
  pub kept : keep new before ≡ after
  pub same_kind : old.kind ≡ new.kind
  pub same_id : old.id ≡ new.id
  pub same_visible : visible v old ≡ visible v new
  pub same_control : control v.policy old ≡ control v.policy new

-- A change is quiet for a viewer: nothing changes; or a resource that the viewer doesn't see is created,
-- changed or removed (`IsUnseen`); or only values that the viewer doesn't see are changed in one resource
-- (`IsHidden`).
abbrev pub IsQuiet : Viewer → List Content → List Content → Type 0
IsQuiet v before after = (before ≡ after) ⊎ (IsUnseen v before after ⊎ IsHidden v before after)

-- The change that each request of another client makes is quiet for the viewer.
abbrev pub AreQuiet : Viewer → Store → List Turn → Type 0
AreQuiet v store [] = ⊤
AreQuiet v store (turn ∷ more) =
    (is_of v.client turn ≡ false → IsQuiet v store.resources (next_store v.policy v.base turn store).resources) × AreQuiet v (next_store v.policy v.base turn store) more
