-- What hubs hear: outputs of one event, and runs through two lists of events.
use Rattle.std.proofs.Common.{◌≡◌, refl, sym, ◌∙◌, ap, subst, ℕ, Bool, true, false, List, [], ◌∷◌, ◌++◌, inl, inr}
use Rattle.std.specs.Prelude.{Ok, Err, if◌then◌else◌}
use Rattle.std.specs.List.{AllByRecursion}
use Rattle.std.proofs.lemmas.List.Elements.{All-from_recursion}
use Rattle.scim_policy.specs.Rules.{Rule}
use Rattle.scim_token.specs.TokenFile.{Entry}
use Rattle.scim_hub.specs.declared.events.Stamp.{Stamp}
use Rattle.scim_hub.specs.declared.events.HubFault.{HubFault}
use Rattle.scim_hub.specs.Events.{HubEvent, HubEventKind, joining, sending, leaving, HubOutput, shutting, HubState, Connection, absent, joined, shut, hub_outputs, Joins, Leaves, Takes, Meets, Runs}
use Rattle.scim_headline.specs.Connections.{HubResult, connection_of, OutputsAreForTheirConnection, RunsInParts}

-- ---- outputs

abbrev AreFor : ℕ → List HubOutput → Type 0
AreFor n outputs = AllByRecursion (λ output. connection_of output ≡ n) outputs

shut_for : (n : ℕ) (closed : Bool) → AreFor n (if closed then shutting n ∷ [] else [])
shut_for n true = (refl, tt)
shut_for n false = tt

texts_for : (n : ℕ) (texts : List (List ℕ)) (closed : Bool) → AreFor n (hub_outputs n texts closed)
texts_for n [] closed = shut_for n closed
texts_for n (text ∷ texts) closed = (refl, texts_for n texts closed)

-- the outputs of a result, if it is one
abbrev IsFor : ℕ → HubResult → Type 0
IsFor n (Ok outputs) = AreFor n outputs
IsFor n (Err fault) = Unit {0}

ok_for : (n : ℕ) (result : HubResult) (outputs : List HubOutput) → result ≡ Ok outputs → AreFor n outputs → IsFor n result
ok_for n result outputs e h = subst (IsFor n) (sym e) h

err_for : (n : ℕ) (result : HubResult) (fault : HubFault) → result ≡ Err fault → IsFor n result
err_for n result fault e = subst (IsFor n) (sym e) tt

module _ (policy : List Rule) (base : List ℕ) (entries : List Entry) (stamp : Stamp) (n : ℕ) (state : HubState) (result : HubResult) (next : HubState) where
  joins_for : (c : Connection) → Joins c n state result next → IsFor n result
  joins_for absent (inl (e, same)) = ok_for n result [] e tt
  joins_for absent (inr (e, same)) = err_for n result _ e
  joins_for (joined stream items) (e, same) = err_for n result _ e
  joins_for shut (e, same) = err_for n result _ e

  leaves_for : (c : Connection) → Leaves c n state result next → IsFor n result
  leaves_for absent (e, same) = err_for n result _ e
  leaves_for (joined stream items) (e, same) = ok_for n result [] e tt
  leaves_for shut (e, same) = ok_for n result [] e tt

  takes_for : (c : Connection) (bytes : List ℕ) → Takes policy base entries c stamp n bytes state result next → IsFor n result
  takes_for absent bytes (e, same) = err_for n result _ e
  takes_for shut bytes (e, same) = err_for n result _ e
  takes_for (joined stream items) bytes (inl taken) = ok_for n result _ taken.result_is (texts_for n taken.texts taken.closed)
  takes_for (joined stream items) bytes (inr cut) = err_for n result _ cut.result_is

  meets_for : (kind : HubEventKind) → Meets policy base entries kind stamp n state result next → IsFor n result
  meets_for joining meets = joins_for (state.connections n) meets
  meets_for (sending bytes) meets = takes_for (state.connections n) bytes meets
  meets_for leaving meets = leaves_for (state.connections n) meets

pub outputs_are_for_their_connection : OutputsAreForTheirConnection
outputs_are_for_their_connection v entries event state next outputs hears =
    All-from_recursion (λ output. connection_of output ≡ event.connection) outputs
    (meets_for v.policy v.base entries event.stamp event.connection state (Ok outputs) next event.kind hears)

-- ---- runs

module _ (policy : List Rule) (base : List ℕ) (entries : List Entry) (next : HubState) (after : List HubEvent) where
  abbrev Parts : HubState → List HubEvent → List HubResult → Type 0
  Parts state before results =
      (mid : HubState) × (first : List HubResult) × (rest : List HubResult)
      × (results ≡ first ++ rest) × Runs policy base entries state before first mid × Runs policy base entries mid after rest next

  parts : (before : List HubEvent) (state : HubState) (results : List HubResult) → Runs policy base entries state (before ++ after) results next
      → Parts state before results
  parts [] state results runs = (state, [], results, refl, (refl, refl), runs)
  parts (event ∷ before) state results (result, step, rest, split, hears, runs) = more (parts before step rest runs)
    where
      more : Parts step before rest → Parts state (event ∷ before) results
      more (mid, first, last, e, begins, ends) =
          (mid, result ∷ first, last, split ∙ ap (λ (rs : List HubResult). result ∷ rs) e, (result, step, first, refl, hears, begins), ends)

pub runs_in_parts : RunsInParts
runs_in_parts policy base entries state next before after results runs = parts policy base entries next after before state results runs
