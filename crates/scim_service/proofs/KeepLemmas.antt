-- After a turn a store is a store.
use Rattle.std.proofs.Common.{◌≡◌, sym, subst, ℕ, Bool, true, false, List, [], ◌∷◌, inl, inr}
use Rattle.std.specs.Prelude.{All, not, find, Option, None, Some, is_none, option_and_then, Result, Ok, Err}
use Rattle.std.proofs.lemmas.Bool.{cases_Bool, and_parts, not-true}
use Rattle.std.proofs.lemmas.List.Elements.{All-head, All-tail, All-weaker}
use denote.Enum.Bare.{sameb, same_true}
use Rattle.scim_schema.specs.contracts.Kind.{the_type as the_kind}
use Rattle.scim_schema.specs.Mutability.{is_fixed}
use Rattle.scim_schema.specs.Units.{units}
use Rattle.scim_cell.specs.Content.{Content}
use Rattle.scim_audit.specs.declared.refusals.Refusal.{Refusal}
use Rattle.scim_body.specs.declared.drafts.UseFor.TheVariants.{Creating}
use Rattle.scim_body.specs.contracts.drafts.UseFor.{the_type as the_use_for}
use Rattle.scim_change.proofs.Facts.{IsSound, created_sound, replaced_sound}
use Rattle.scim_patch_steps.specs.Kept.{patch_of}
use Rattle.scim_patch_steps.proofs.Facts.{applied_sound}
use Rattle.scim_policy.specs.Rules.{Rule}
use Rattle.scim_policy.specs.Access.{forbidding}
use Rattle.scim_view.specs.View.{Viewer}
use Rattle.scim_shelf.specs.Stores.{Store, IsStore, is_at, after}
use Rattle.scim_service.specs.declared.requests.Ask.{Ask}
use Rattle.scim_service.specs.declared.requests.Ask.TheVariants.{Get, Search, Create, Replace, Patch as PatchOne, Remove}
use Rattle.scim_service.specs.declared.requests.Turn.{Turn}
use Rattle.scim_service.specs.Step.{absence_plan, access_to, is_writable, writable, sought_resource, request_plan, viewer_at, next_store}
use Rattle.scim_service.proofs.StepLemmas.{Keeps, KeepsSound, can_keep, planned_change, stays_store}
use Rattle.scim_service.specs.Requests.{IsAsk, IsTurn}
use Rattle.scim_view.proofs.Facts.{passing}

-- what a turn is planned to: the service lends the functions that give it, and not its name
abbrev value_of : {A B : Type 0} → (A → B) → Type 0
value_of {A} {B} f = B

abbrev pub Plan : Type 0
Plan = value_of absence_plan

-- what is found is one of those that were looked through
pub found_holds : (P : Content → Type 0) (p : Content → Bool) (cs : List Content) (c : Content) → All P cs → find p cs ≡ Some c → P c
found_holds P p [] c all e = cc
found_holds P p (d ∷ ds) c all e = elim (cases_Bool (p d)) [
  | inl t ↦ (let some : Some d ≡ Some c = rw t at e in let own : d ≡ c = cc in subst P own (All-head P d ds all))
  | inr n ↦ found_holds P p ds c (All-tail P d ds all) (rw n at e)
]

-- no unit that may be written is fixed
none_fixed : (v : Viewer) (c : Content) → All (λ u. is_fixed c.kind u ≡ false) (writable c.kind (access_to v c))
none_fixed v c =
    All-weaker (λ u. is_writable c.kind (access_to v c) u ≡ true) (λ u. is_fixed c.kind u ≡ false)
    (λ u h. not-true (is_fixed c.kind u) (and_parts (not (is_fixed c.kind u)) (is_none (forbidding c.kind (access_to v c) u)) h).0)
    (writable c.kind (access_to v c)) (passing (is_writable c.kind (access_to v c)) (units c.kind))

module _ (v : Viewer) (turn : Turn) (is : IsTurn turn) (cs : List Content) (sound : All (IsSound v.base) cs) where
  sought_sound : (c : Content) → sought_resource turn cs ≡ Some c → IsSound v.base c
  sought_sound c found = by_id turn.request.id found
    where
      by_id : (id : Option (List ℕ)) → option_and_then (λ (i : List ℕ). find (is_at turn.request.kind i) cs) id ≡ Some c → IsSound v.base c
      by_id None e = cc
      by_id (Some id) e = found_holds (IsSound v.base) (is_at turn.request.kind id) cs c sound e

  -- what is planned to be kept is a resource below the base
  planned_sound : IsAsk turn.request.ask → KeepsSound v.base (request_plan v turn cs turn.request.ask).change
  planned_sound asks = planned_change (KeepsSound v.base) tt (λ kind id. tt) v turn cs turn.request.ask (keeps turn.request.ask asks)
    where
      keeps : (ask : Result Ask Refusal) → IsAsk ask → Keeps (KeepsSound v.base) tt (λ kind id. tt) v turn cs ask
      keeps (Ok (Create d wanted)) asks = λ own free fresh.
          created_sound d asks (same_true the_use_for tt d.use_for Creating (and_parts (sameb the_kind d.kind turn.request.kind) (sameb the_use_for d.use_for Creating) own).1) turn.fresh is.id turn.moment is.moment v.base
      keeps (Ok (Replace d wanted)) asks = λ c found x kinds e free.
          replaced_sound d asks (writable c.kind (access_to v c)) c kinds (none_fixed v c) turn.moment is.moment v.base (sought_sound c (sym found)) x e
      keeps (Ok (PatchOne patch wanted)) asks = λ c found x changed kinds e free.
          applied_sound (patch_of patch) asks turn.moment is.moment v.base c (sym kinds) (sought_sound c (sym found)) x changed e
      keeps (Ok (Get wanted)) asks = tt
      keeps (Ok (Search query)) asks = tt
      keeps (Ok Remove) asks = tt
      keeps (Err refusal) asks = tt

-- after what is planned a store is one, since what is kept is a resource below the base, and has a place
pub planned_is_store : (v : Viewer) (turn : Turn) (store : Store) → IsStore v.base store → IsTurn turn
    → IsStore v.base (after (request_plan v turn store.resources turn.request.ask).change (request_plan v turn store.resources turn.request.ask).row store)
planned_is_store v turn store is asked =
    stays_store v.base store (request_plan v turn store.resources turn.request.ask).change (request_plan v turn store.resources turn.request.ask).row is
    (planned_sound v turn asked store.resources is.sound asked.ask) (can_keep v turn store turn.request.ask is.keyed)

-- so is one after a turn
pub next_is_store : (policy : List Rule) (base : List ℕ) (turn : Turn) (store : Store) → IsStore base store → IsTurn turn → IsStore base (next_store policy base turn store)
next_is_store policy base turn store is asked = planned_is_store (viewer_at policy base turn) turn store is asked
