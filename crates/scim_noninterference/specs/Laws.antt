-- The laws of noninterference: if two stores are alike for a client, the client's requests get equal replies
-- from both, and the stores stay alike.
use Rattle.std.specs.Prelude.{◌≡◌, ℕ, List, filter, All, Contains}
use Rattle.scim_schema.specs.declared.Leaf.{Leaf}
use Rattle.scim_cell.specs.Content.{Content}
use Rattle.scim_value.specs.Resource.{IsResource}
use Rattle.scim_policy.specs.Rules.{Rule}
use Rattle.scim_view.specs.View.{Viewer}
use Rattle.scim_shelf.specs.Stores.{Store, IsStore, keep}
use Rattle.scim_service.specs.declared.requests.Turn.{Turn}
use Rattle.scim_service.specs.Step.{viewer_at, plan, next_store}
use Rattle.scim_noninterference.specs.Alike.{IsAlike}
use Rattle.scim_noninterference.specs.Cells.{IsHiddenAt}
use Rattle.scim_service.specs.Requests.{IsTurn, IsFree}
use Rattle.scim_noninterference.specs.Lists.{is_of, run, replies_to, AreTurns, Round, first_list, second_list, AreOthers, IsRound, LeadAlike, IsQuiet, AreQuiet}

-- If two stores are alike for a client, a request of the client gets equal replies from both, and the stores
-- are alike afterwards.
abbrev pub OneRequest : Type 0
OneRequest =
    (policy : List Rule) (base : List ℕ) (turn : Turn) (s t : Store)
    → IsStore base s → IsStore base t → IsAlike (viewer_at policy base turn) s.resources t.resources → IsTurn turn → IsFree s.resources turn → IsFree t.resources turn
    → ((plan policy base turn s).reply ≡ (plan policy base turn t).reply)
    × IsAlike (viewer_at policy base turn) (next_store policy base turn s).resources (next_store policy base turn t).resources

-- Two lists of requests have the same requests of one client, and are run on two stores that are alike for
-- this client. Then the client gets equal replies, and the final stores are alike for it. The requests of
-- other clients must keep the two stores alike at each point.
abbrev pub TwoLists : Type 0
TwoLists =
    (v : Viewer) (s t : Store) (rounds : List Round) (first second : List Turn)
    → IsStore v.base s → IsStore v.base t → IsAlike v s.resources t.resources
    → All (IsRound v.client) rounds → AreOthers v.client first → AreOthers v.client second
    → AreTurns v.policy v.base v.client s (first_list rounds first) → AreTurns v.policy v.base v.client t (second_list rounds second)
    → LeadAlike v s t rounds first second
    → (replies_to v.policy v.base v.client s (first_list rounds first) ≡ replies_to v.policy v.base v.client t (second_list rounds second))
    × IsAlike v (run v.policy v.base s (first_list rounds first)).resources (run v.policy v.base t (second_list rounds second)).resources

-- If all changes by other clients are quiet for a client, the client gets the replies that it would get
-- without the requests of other clients.
abbrev pub QuietOthers : Type 0
QuietOthers =
    (v : Viewer) (store : Store) (turns : List Turn)
    → IsStore v.base store → AreTurns v.policy v.base v.client store turns → AreTurns v.policy v.base v.client store (filter (is_of v.client) turns) → AreQuiet v store turns
    → replies_to v.policy v.base v.client store turns ≡ replies_to v.policy v.base v.client store (filter (is_of v.client) turns)

-- If a store is valid before a valid request, it is valid after the request.
abbrev pub TurnsLeaveStores : Type 0
TurnsLeaveStores = (policy : List Rule) (base : List ℕ) (turn : Turn) (store : Store) → IsStore base store → IsTurn turn → IsStore base (next_store policy base turn store)

-- A change of a resource is quiet for a viewer if it affects only cells that the viewer may not read, that no
-- target of the policy names, that no value filter of the policy is on, and whose values needn't be unique.
abbrev pub HiddenCellsAreQuiet : Type 0
HiddenCellsAreQuiet =
    (v : Viewer) (before after : List Content) (old new : Content)
    → Contains before old → keep new before ≡ after → IsResource old → IsResource new → old.kind ≡ new.kind → old.id ≡ new.id
    → ((l : Leaf) (k : ℕ) → IsHiddenAt v old new l k) → IsQuiet v before after
