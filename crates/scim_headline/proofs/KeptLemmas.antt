-- The promise is kept for each request that the service runs.
use Rattle.std.proofs.Common.{◌≡◌, ◌≢◌, ◌⊎◌, refl, sym, ◌∙◌, ap, subst, subst₂, ℕ, Bool, true, false, List, [], ◌∷◌, ◌++◌, length, length-append, inl, inr, arith}
use Rattle.std.specs.Prelude.{All, Option, None, Some, is_none, if◌then◌else◌}
use Rattle.std.proofs.lemmas.List.{append_cancel_left}
use Rattle.std.proofs.lemmas.List.Elements.{All-head, All-tail, All-weaker}
use Rattle.scim_cell.specs.Content.{Content, IsPart}
use Rattle.scim_audit.specs.declared.audit_rows.AuditRow.{AuditRow}
use Rattle.scim_audit.specs.declared.audit_rows.Decided.TheVariants.{Deny, Hidden}
use Rattle.scim_audit.specs.declared.refusals.Refusal.{Refusal}
use Rattle.scim_text.specs.declared.memory.Failed.{Failed}
use Rattle.scim_value.specs.Resource.{IsResource, HasBase}
use Rattle.scim_policy.specs.Rules.{Rule}
use Rattle.scim_view.specs.View.{Viewer}
use Rattle.scim_shelf.specs.declared.changes.Change.{Change}
use Rattle.scim_shelf.specs.declared.faults.ShelfFault.{ShelfFault}
use Rattle.scim_shelf.specs.Stores.{Store, IsStore, changed as after_change}
use Rattle.scim_service.specs.declared.requests.Turn.{Turn}
use Rattle.scim_service.specs.declared.replies.Reply.{Reply}
use Rattle.scim_service.specs.declared.replies.Reply.TheVariants.{Shown, Created, Done, Refused, Failed as Failure}
use Rattle.scim_service.specs.Replies.{refusal_of}
use Rattle.scim_service.specs.Requests.{IsTurn}
use Rattle.scim_service.specs.Answers.{IsCause, Answered, Runs}
use Rattle.scim_service.specs.Step.{request_plan, viewer_at, plan, next_store}
use Rattle.scim_service.proofs.Facts.{next_is_store}
use Rattle.scim_noninterference.specs.Lists.{run}
use Rattle.scim_headline.specs.Headline.{Shows, IsDenial, IsKept, AreKept, granted, PromisesAreKept}
use Rattle.scim_headline.proofs.ShownLemmas.{AreParts}
use Rattle.scim_headline.proofs.PlanLemmas.{ShowsReply}
use Rattle.scim_headline.proofs.ChangeLemmas.{planned}

-- a reply that shows what the request asks for
shows_asked : (v : Viewer) (cs : List Content) (turn : Turn) (reply : Reply) → ShowsReply v cs turn turn.request.ask reply → Shows v cs turn reply
shows_asked v cs turn (Shown text) h = h
shows_asked v cs turn (Created location (Some text)) h = h
shows_asked v cs turn (Created location None) h = tt
shows_asked v cs turn Done h = tt
shows_asked v cs turn (Refused refusal) h = tt
shows_asked v cs turn (Failure cause) h = tt

-- no row is added where the rows stay the same
no_longer : (rows : List AuditRow) (row : AuditRow) → rows ≡ rows ++ row ∷ [] → ⊥
no_longer rows row e = omega (arith, ap length e, length-append rows (row ∷ []))

-- the row that was added is the one that was planned
same_row : (rows : List AuditRow) (a b : AuditRow) → rows ++ a ∷ [] ≡ rows ++ b ∷ [] → a ≡ b
same_row rows a b e = let rest : a ∷ [] ≡ b ∷ [] = append_cancel_left rows (a ∷ []) (b ∷ []) e in cc

-- ---- one request

module _ (policy : List Rule) (base : List ℕ) (turn : Turn) (store : Store) where
  -- a request that leaves the store as it is, and shows nothing
  left_kept : (reply : Reply) → Shows (viewer_at policy base turn) store.resources turn reply → IsKept policy base turn store reply store
  left_kept reply shows = record { shows = shows; refused = λ some. refl; denied = λ row e denies. absurd (no_longer store.audit row e) }

  -- a request that is carried out
  done_kept : IsStore base store → IsTurn turn → IsKept policy base turn store (plan policy base turn store).reply (next_store policy base turn store)
  done_kept is asked =
      let v = viewer_at policy base turn in
      let p = request_plan v turn store.resources turn.request.ask in
      let good = planned v turn store.resources is.keyed.ascending turn.request.ask in
      let next = next_is_store policy base turn store is asked in
      let parts : AreParts (after_change p.change store.resources)
      = All-weaker (λ c. IsResource c × HasBase base c) IsPart (λ c h. h.0.part) (after_change p.change store.resources) next.sound in
      record {
        shows = shows_asked v (after_change p.change store.resources) turn p.reply (good.shows parts);
        refused = λ some. ap (λ (change : Change). after_change change store.resources) (good.refused some);
        denied = λ row e denies.
            (let own : p.row ≡ row = same_row store.audit p.row row e in
            subst (IsDenial policy turn.request.client turn store.resources (after_change p.change store.resources)) own
            (good.denied (subst (λ (r : AuditRow). (r.decided ≡ Deny) ⊎ (r.decided ≡ Hidden)) (sym own) denies)));
      }

  module _ (Cause : Failed ShelfFault → Type 0) (reply : Reply) (mid : Store) where
    -- however it was answered, the promise is kept, and the store stays a store
    answered_kept : IsStore base store → IsTurn turn → Answered policy base Cause turn store reply mid → IsStore base mid × IsKept policy base turn store reply mid
    answered_kept is asked (inl (ask, replied, same)) = (
      subst (IsStore base) (sym same) is,
      subst₂ (IsKept policy base turn store) (sym replied) (sym same) (left_kept _ tt),
    )
    answered_kept is asked (inr (told, inl (replied, same))) = (
      subst (IsStore base) (sym same) (next_is_store policy base turn store is asked),
      subst₂ (IsKept policy base turn store) (sym replied) (sym same) (done_kept is asked),
    )
    answered_kept is asked (inr (told, inr (fault, replied, cause, same))) = (
      subst (IsStore base) (sym same) is,
      subst₂ (IsKept policy base turn store) (sym replied) (sym same) (left_kept (Failure fault) tt),
    )

    -- if it was granted, the resources afterwards are those after the request, over any store with the same resources
    granted_same : (other : Store) → store.resources ≡ other.resources → Answered policy base Cause turn store reply mid → is_none (refusal_of reply) ≡ true
        → mid.resources ≡ (next_store policy base turn other).resources
    granted_same other alike (inl (ask, replied, same)) none =
        absurd (let refused : is_none (refusal_of reply) ≡ false = ap (λ (r : Reply). is_none (refusal_of r)) replied in cc)
    granted_same other alike (inr (told, inl (replied, same))) none =
        ap (λ (s : Store). s.resources) same
        ∙ ap (λ cs. after_change (request_plan (viewer_at policy base turn) turn cs turn.request.ask).change cs) alike
    granted_same other alike (inr (told, inr (fault, replied, cause, same))) none =
        absurd (let refused : is_none (refusal_of reply) ≡ false = ap (λ (r : Reply). is_none (refusal_of r)) replied in cc)

-- an option that isn't none
some_refusal : (o : Option Refusal) → is_none o ≡ false → o ≢ None
some_refusal None e = cc
some_refusal (Some refusal) e = λ none. cc

-- ---- a list of requests

module _ (policy : List Rule) (base : List ℕ) where
  -- the promise is kept for each of them
  all_kept : (before now : ℕ) (store next : Store) (turns : List Turn) (replies : List Reply) → IsStore base store → All IsTurn turns
      → Runs policy base before store turns replies now next → AreKept policy base store turns replies next
  all_kept before now store next [] replies is asked (replied, counted, same) = (replied, same)
  all_kept before now store next (turn ∷ turns) replies is asked (reply, rest, count, mid, replied, up, answered, runs) =
      let here = answered_kept policy base turn store (IsCause before count store) reply mid is (All-head IsTurn turn turns asked) answered in
      (reply, rest, mid, replied, here.1, all_kept count now mid next turns rest here.0 (All-tail IsTurn turn turns asked) runs)

  -- one request more in front of those that were granted
  one_more : (turn : Turn) (turns : List Turn) (other next : Store) (reply : Reply) (rest : List Reply)
      → (is_none (refusal_of reply) ≡ true → next.resources ≡ (run policy base (next_store policy base turn other) (granted turns rest)).resources)
      → (is_none (refusal_of reply) ≡ false → next.resources ≡ (run policy base other (granted turns rest)).resources)
      → next.resources ≡ (run policy base other (granted (turn ∷ turns) (reply ∷ rest))).resources
  one_more turn turns other next reply rest one two = by_grant (is_none (refusal_of reply)) one two
    where
      by_grant : (b : Bool) → (b ≡ true → next.resources ≡ (run policy base (next_store policy base turn other) (granted turns rest)).resources)
          → (b ≡ false → next.resources ≡ (run policy base other (granted turns rest)).resources)
          → next.resources ≡ (run policy base other ((if b then turn ∷ [] else []) ++ granted turns rest)).resources
      by_grant true one two = one refl
      by_grant false one two = two refl

  -- the resources are those of the granted requests, over any store with the same resources
  granted_alone : (before now : ℕ) (store other next : Store) (turns : List Turn) (replies : List Reply) → IsStore base store → All IsTurn turns → store.resources ≡ other.resources
      → Runs policy base before store turns replies now next → next.resources ≡ (run policy base other (granted turns replies)).resources
  granted_alone before now store other next [] replies is asked alike (replied, counted, same) = ap (λ (s : Store). s.resources) same ∙ alike
  granted_alone before now store other next (turn ∷ turns) replies is asked alike (reply, rest, count, mid, replied, up, answered, runs) =
      let here = answered_kept policy base turn store (IsCause before count store) reply mid is (All-head IsTurn turn turns asked) answered in
      let later = All-tail IsTurn turn turns asked in
      subst (λ rs. next.resources ≡ (run policy base other (granted (turn ∷ turns) rs)).resources) (sym replied)
      (one_more turn turns other next reply rest
      (λ none. granted_alone count now mid (next_store policy base turn other) next turns rest here.0 later
      (granted_same policy base turn store (IsCause before count store) reply mid other alike answered none) runs)
      (λ some. granted_alone count now mid other next turns rest here.0 later (here.1.refused (some_refusal (refusal_of reply) some) ∙ alike) runs))

pub promises_are_kept : PromisesAreKept
promises_are_kept policy base before now store next turns replies is asked runs =
    (all_kept policy base before now store next turns replies is asked runs, granted_alone policy base before now store store next turns replies is asked refl runs)
