-- An event of one connection writes to no other, and shuts no other.
use Rattle.std.proofs.Common.{◌≡◌, ◌∙◌, refl, sym, ap, subst, inl, inr, ℕ, ◌==◌, Bool, true, false, List, [], ◌∷◌, ◌++◌, if◌then◌else◌}
use Rattle.std.specs.Prelude.{◌||◌, Result, Ok, Err}
use Rattle.std.specs.List.{flat_map, list_any}
use Rattle.std.proofs.lemmas.Bool.{eqb-true, ne_eqb}
use Rattle.std.proofs.lemmas.List.{append-nil}
use Rattle.scim_policy.specs.Rules.{Rule}
use Rattle.scim_token.specs.TokenFile.{Entry}
use Rattle.scim_hub.specs.declared.events.HubFault.{HubFault}
use Rattle.scim_hub.specs.declared.events.Stamp.{Stamp}
use Rattle.scim_hub.specs.Events.{HubEventKind, joining, sending, leaving, HubEvent, Connection, absent, joined, shut, HubState, HubOutput, shutting, hub_outputs, Joins, Leaves, Takes, Meets, Hears}
use Rattle.scim_serve.specs.Serving.{text_to, shuts}
use Rattle.scim_serve.specs.code.Levels.{IsNotFor, IsOnlyFor}

none_if : (here : Bool) (text : List ℕ) → (here ≡ true → ⊥) → (if here then text else []) ≡ []
none_if true text apart = absurd (apart refl)
none_if false text apart = refl

shut_text : (n m : ℕ) (closed : Bool) → flat_map (text_to m) (if closed then shutting n ∷ [] else []) ≡ []
shut_text n m true = refl
shut_text n m false = refl

deeds_text : (n m : ℕ) (texts : List (List ℕ)) (closed : Bool) → (n ≡ m → ⊥) → flat_map (text_to m) (hub_outputs n texts closed) ≡ []
deeds_text n m [] closed apart = shut_text n m closed
deeds_text n m (text ∷ texts) closed apart =
    ap (λ (t : List ℕ). t ++ flat_map (text_to m) (hub_outputs n texts closed)) (none_if (n == m) text (λ e. apart (eqb-true n m e)))
    ∙ deeds_text n m texts closed apart

shut_other : (n m : ℕ) (closed : Bool) → (n ≡ m → ⊥) → list_any (shuts m) (if closed then shutting n ∷ [] else []) ≡ false
shut_other n m true apart = ap (λ (b : Bool). b || false) (ne_eqb n m apart)
shut_other n m false apart = refl

deeds_shut : (n m : ℕ) (texts : List (List ℕ)) (closed : Bool) → (n ≡ m → ⊥) → list_any (shuts m) (hub_outputs n texts closed) ≡ false
deeds_shut n m [] closed apart = shut_other n m closed apart
deeds_shut n m (text ∷ texts) closed apart = deeds_shut n m texts closed apart

-- outputs that shut their connection
pub deeds_end : (n m : ℕ) (texts : List (List ℕ)) → (n == m) ≡ true → list_any (shuts m) (hub_outputs n texts true) ≡ true
deeds_end n m [] here = ap (λ (b : Bool). b || false) here
deeds_end n m (text ∷ texts) here = deeds_end n m texts here

-- the result has no outputs
pub none_for : (m : ℕ) (result : Result (List HubOutput) HubFault) → result ≡ Ok [] → IsNotFor m result
none_for m result is = subst (IsNotFor m) (sym is) (refl, refl)

-- the result is a fault
pub fault_for : (m : ℕ) (fault : HubFault) (result : Result (List HubOutput) HubFault) → result ≡ Err fault → IsNotFor m result
fault_for m fault result is = subst (IsNotFor m) (sym is) (refl, refl)

joins_for : (c : Connection) (n m : ℕ) (state : HubState) (result : Result (List HubOutput) HubFault) (next : HubState) → Joins c n state result next → IsNotFor m result
joins_for absent n m state result next (inl is) = none_for m result is.0
joins_for absent n m state result next (inr is) = fault_for m _ result is.0
joins_for (joined stream items) n m state result next is = fault_for m _ result is.0
joins_for shut n m state result next is = fault_for m _ result is.0

leaves_for : (c : Connection) (n m : ℕ) (state : HubState) (result : Result (List HubOutput) HubFault) (next : HubState) → Leaves c n state result next → IsNotFor m result
leaves_for absent n m state result next is = fault_for m _ result is.0
leaves_for (joined stream items) n m state result next is = none_for m result is.0
leaves_for shut n m state result next is = none_for m result is.0

module _ (policy : List Rule) (base : List ℕ) (entries : List Entry) where
  takes_for : (c : Connection) (stamp : Stamp) (n m : ℕ) (bytes : List ℕ) (state : HubState) (result : Result (List HubOutput) HubFault) (next : HubState)
      → Takes policy base entries c stamp n bytes state result next → (n ≡ m → ⊥) → IsNotFor m result
  takes_for absent stamp n m bytes state result next is apart = fault_for m _ result is.0
  takes_for shut stamp n m bytes state result next is apart = fault_for m _ result is.0
  takes_for (joined stream items) stamp n m bytes state result next (inl taken) apart =
      subst (IsNotFor m) (sym taken.result_is) (deeds_text n m taken.texts taken.closed apart, deeds_shut n m taken.texts taken.closed apart)
  takes_for (joined stream items) stamp n m bytes state result next (inr cut) apart = fault_for m _ result cut.result_is

  meets_for : (kind : HubEventKind) (stamp : Stamp) (n m : ℕ) (state : HubState) (result : Result (List HubOutput) HubFault) (next : HubState)
      → Meets policy base entries kind stamp n state result next → (n ≡ m → ⊥) → IsNotFor m result
  meets_for joining stamp n m state result next meets apart = joins_for (state.connections n) n m state result next meets
  meets_for (sending bytes) stamp n m state result next meets apart = takes_for (state.connections n) stamp n m bytes state result next meets apart
  meets_for leaving stamp n m state result next meets apart = leaves_for (state.connections n) n m state result next meets

  pub hears_only : (seen : HubEvent) (state : HubState) (result : Result (List HubOutput) HubFault) (next : HubState) → Hears policy base entries seen state result next → IsOnlyFor seen.connection result
  hears_only seen state result next meets = λ m apart. meets_for seen.kind seen.stamp seen.connection m state result next meets apart

-- where nothing was told, the same was seen
pub nothing_told : (seen told seen_then : List HubEvent) → seen_then ≡ seen ++ told → told ≡ [] → seen_then ≡ seen
nothing_told seen told seen_then is none = is ∙ ap (λ (t : List HubEvent). seen ++ t) none ∙ append-nil seen
