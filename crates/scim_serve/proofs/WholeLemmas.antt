-- Connections that take all are given all, and closed if they were shut.
use Rattle.std.proofs.Common.{◌≡◌, ◌∙◌, refl, sym, ap, subst, inl, inr, ℕ, ◌==◌, ◌⊎◌, Bool, true, false, List, [], ◌∷◌, ◌++◌, append_assoc}
use Rattle.std.specs.Prelude.{◌≢◌, Option, None, Some, IsSome, IfSome, Result, Err, ◌||◌}
use Rattle.std.proofs.Math.Bool.{or-false}
use Rattle.std.proofs.lemmas.Bool.{both_ways, or_left, or_right, true_from_ne_false}
use Rattle.std.proofs.lemmas.List.{append-nil, append_cancel_left}
use Rattle.scim_policy.specs.Rules.{Rule}
use Rattle.scim_token.specs.TokenFile.{Entry}
use Rattle.scim_hub.specs.declared.events.HubFault.{HubFault}
use Rattle.scim_hub.specs.declared.events.HubFault.TheVariants.{NoMemory}
use Rattle.scim_hub.specs.Events.{joining, HubEvent, Connection, absent, shut, HubState, HubOutput, Hears}
use Rattle.scim_serve.specs.declared.pending_bytes.Waiting.{Waiting}
use Rattle.scim_serve.specs.Serving.{IsFront, due_for, due, shut_for, is_shut, leaves, has_left}
use Rattle.scim_serve.specs.code.Rests.{Rest, finished}
use Rattle.scim_serve.specs.code.Waiting.{waiting_for}
use Rattle.scim_serve.specs.code.Levels.{Fits, Keeps, Grows, IsLevel, IsNotFor}
use Rattle.scim_serve.specs.code.Wholes.{AllTaken, StaysOpen, IsAway, IsWhole}
use Rattle.scim_serve.specs.code.Closings.{IsClosing}
use Rattle.scim_serve.proofs.AbsentLemmas.{Ends, left_more, hears_absent, hears_left, hears_shut}
use Rattle.scim_serve.proofs.EventLemmas.{hears_only}
use Rattle.scim_serve.proofs.FitLemmas.{fits_gone, none_of_both}
use Rattle.scim_serve.proofs.LevelLemmas.{due_more}
use Rattle.scim_serve.proofs.ClosingLemmas.{is_finished, shut_more}

-- where less was written than is due, the same or less was written afterwards, and the same is due
unwritten_still : (written written_then due : List ℕ) → IsFront written due → IsFront written_then written → written ≢ due → written_then ≢ due
unwritten_still written written_then due front less unwritten e =
    let none = none_of_both less.0 front.0 (append_cancel_left written_then (less.0 ++ front.0) []
    (sym (append_assoc written_then less.0 front.0) ∙ ap (λ (t : List ℕ). t ++ front.0) less.1 ∙ front.1 ∙ sym e ∙ sym (append-nil written_then))) in
    unwritten (sym (append-nil written) ∙ ap (λ (t : List ℕ). written ++ t) (sym none.1) ∙ front.1)

-- a connection that is to be closed and can be written to hasn't taken all
never_kept : (rest : Option Rest) (written due : List ℕ) → Fits rest written due → IsSome rest → IfSome rest (λ r. r.closing ≡ true) → rest ≢ Some finished → written ≢ due
never_kept None written due fits here marked unfinished all = absurd (let h = here in cc)
never_kept (Some rest) written due fits here marked unfinished all =
    unfinished (ap Some (is_finished rest (append_cancel_left written rest.bytes [] (fits ∙ sym all ∙ sym (append-nil written))) marked))

-- before anything happened
pub whole_first : (first : HubState) (written : ℕ → List ℕ) (takes closed : ℕ → Bool) (waiting : Waiting) → ((m : ℕ) → waiting_for waiting m ≡ None)
    → IsWhole first first [] written takes closed waiting (λ m. due m []) (λ m. is_shut m [])
whole_first first written takes closed waiting none = record {
  taken = λ m. subst (λ (o : Option Rest). AllTaken o (takes m)) (sym (none m)) tt;
  open_to = λ m away unclosed. inr (away, (λ left. refl), (λ shuts. absurd (let s = shuts in cc)));
  ended = λ m away unclosed ends. absurd (let e = sym away ∙ ends in cc);
}

taken_still : (rest : Option Rest) (takes takes_then : Bool) → (takes_then ≡ true → takes ≡ true) → AllTaken rest takes → AllTaken rest takes_then
taken_still None takes takes_then still taken = tt
taken_still (Some rest) takes takes_then still taken = λ all. taken (still all)

-- the same is told of the connections
pub whole_same : (first state : HubState) (seen : List HubEvent) (written written_then : ℕ → List ℕ) (takes takes_then closed closed_then : ℕ → Bool) (waiting : Waiting) (due : ℕ → List ℕ)
    (was_shut : ℕ → Bool) → ((m : ℕ) → written_then m ≡ written m) → ((m : ℕ) → takes_then m ≡ true → takes m ≡ true) → ((m : ℕ) → closed_then m ≡ closed m)
    → IsWhole first state seen written takes closed waiting due was_shut → IsWhole first state seen written_then takes_then closed_then waiting due was_shut
whole_same first state seen written written_then takes takes_then closed closed_then waiting due was_shut same same_takes same_closed whole = record {
  taken = λ m. taken_still (waiting_for waiting m) (takes m) (takes_then m) (same_takes m) (whole.taken m);
  open_to = λ m away unclosed.
      subst (λ (w : List ℕ). IsSome (waiting_for waiting m) ⊎ IsAway (state.connections m) (has_left m seen) w (due m) (was_shut m)) (sym (same m))
      (whole.open_to m away (sym (same_closed m) ∙ unclosed));
  ended = λ m away unclosed. whole.ended m away (sym (same_closed m) ∙ unclosed);
}

-- where a connection can't be written to, nothing is written
silent : (old new : Waiting) (written written_then : ℕ → List ℕ) (m : ℕ) (more : List ℕ)
    → ((due : List ℕ) → Fits (waiting_for old m) (written m) due → Fits (waiting_for new m) (written_then m) (due ++ more)) → waiting_for old m ≡ None → more ≡ []
    → IsFront (written_then m) (written m)
silent old new written written_then m more grows gone none =
    subst (IsFront (written_then m)) (ap (λ (t : List ℕ). written m ++ t) none ∙ append-nil (written m))
    (fits_gone (waiting_for new m) (written_then m) (written m ++ more)
    (grows (written m) (subst (λ (o : Option Rest). Fits o (written m) (written m)) (sym gone) ([], append-nil (written m)))))

-- connections stay open
pub whole_kept : (first state : HubState) (seen : List HubEvent) (written written_then : ℕ → List ℕ) (takes takes_then closed closed_then : ℕ → Bool) (old new : Waiting) (due : ℕ → List ℕ)
    (was_shut : ℕ → Bool) → Keeps written old written_then new
    → ((m : ℕ) → AllTaken (waiting_for old m) (takes m) → AllTaken (waiting_for new m) (takes_then m))
    → ((m : ℕ) → StaysOpen (waiting_for old m) (closed m) (waiting_for new m) (closed_then m)) → IsLevel written old due
    → IsWhole first state seen written takes closed old due was_shut → IsWhole first state seen written_then takes_then closed_then new due was_shut
whole_kept first state seen written written_then takes takes_then closed closed_then old new due was_shut keeps taken stays level whole = record {
  taken = λ m. taken m (whole.taken m);
  open_to = λ m away unclosed. let s = stays m unclosed in kept m (waiting_for old m) refl s.1 (whole.open_to m away s.0);
  ended = λ m away unclosed. whole.ended m away (stays m unclosed).0;
} where
  kept : (m : ℕ) (o : Option Rest) → waiting_for old m ≡ o → (IsSome (waiting_for old m) → IsSome (waiting_for new m))
      → IsSome (waiting_for old m) ⊎ IsAway (state.connections m) (has_left m seen) (written m) (due m) (was_shut m)
      → IsSome (waiting_for new m) ⊎ IsAway (state.connections m) (has_left m seen) (written_then m) (due m) (was_shut m)
  kept m o here some (inl before) = inl (some before)
  kept m (Some rest) here some (inr is) = inl (some (subst (λ (x : Option Rest). IsSome x) (sym here) refl))
  kept m None here some (inr is) = inr (
    is.0,
    is.1,
    λ shuts. unwritten_still (written m) (written_then m) (due m) (fits_gone (waiting_for old m) (written m) (due m) (level.fits m))
        (silent old new written written_then m [] (λ d fits. subst (Fits (waiting_for new m) (written_then m)) (sym (append-nil d)) (keeps m d fits)) here refl) (is.2 shuts),
  )

module _ (policy : List Rule) (base : List ℕ) (entries : List Entry) where
  -- after an event
  pub whole_on : (first state next : HubState) (seen : List HubEvent) (event : HubEvent) (result : Result (List HubOutput) HubFault)
      (written written_mid written_then : ℕ → List ℕ) (takes takes_mid takes_then closed closed_mid closed_then : ℕ → Bool) (old mid new : Waiting) (due : ℕ → List ℕ) (was_shut : ℕ → Bool)
      → ((m : ℕ) → AllTaken (waiting_for old m) (takes m) → AllTaken (waiting_for mid m) (takes_mid m))
      → ((m : ℕ) → leaves m event ≡ false → StaysOpen (waiting_for old m) (closed m) (waiting_for mid m) (closed_mid m))
      → ((m : ℕ) → leaves m event ≡ true → (waiting_for mid m ≡ None) × (closed_mid m ≡ closed m))
      → (event.kind ≡ joining → closed_mid event.connection ≡ false → IsSome (waiting_for mid event.connection))
      → ((m : ℕ) → written_mid m ≡ written m)
      → ((m : ℕ) → ((event.connection ≡ m → ⊥) → due_for m result ≡ []) → AllTaken (waiting_for mid m) (takes_mid m) → AllTaken (waiting_for new m) (takes_then m))
      → ((m : ℕ) → StaysOpen (waiting_for mid m) (closed_mid m) (waiting_for new m) (closed_then m))
      → Grows (λ m. due_for m result) written_mid mid written_then new
      → (result ≡ Err NoMemory → closed_then event.connection ≡ true)
      → Hears policy base entries event state result next → IsLevel written old due → IsClosing old was_shut → IsWhole first state seen written takes closed old due was_shut
      → IsWhole first next (seen ++ event ∷ []) written_then takes_then closed_then new (λ m. due m ++ due_for m result) (λ m. was_shut m || shut_for m result)
  whole_on first state next seen event result written written_mid written_then takes takes_mid takes_then closed closed_mid closed_then old mid new due was_shut
      taken stays leaving entered same taken_then stays_then grows lost hears level closing whole = record {
        taken = λ m. taken_then m (λ apart. (hears_only policy base entries event state result next hears m apart).0) (taken m (whole.taken m));
        open_to = λ m away unclosed. let later = stays_then m unclosed in go m away later.0 later.1 (leaves m event) refl;
        ended = λ m away unclosed ends.
            ended_by m unclosed (whole.ended m away (before m (stays_then m unclosed).0 (leaves m event) refl))
            (hears_shut policy base entries event m state result next (event.connection == m) hears refl ends);
      } where
        before : (m : ℕ) → closed_mid m ≡ false → (left : Bool) → leaves m event ≡ left → closed m ≡ false
        before m unclosed false e = (stays m e unclosed).0
        before m unclosed true e = sym (leaving m e).1 ∙ unclosed

        ended_by : (m : ℕ) → closed_then m ≡ false → (state.connections m ≡ shut → was_shut m ≡ true) → Ends event.connection m state result → (was_shut m || shut_for m result) ≡ true
        ended_by m unclosed known (inl ends) = or_left (was_shut m) (shut_for m result) (known ends)
        ended_by m unclosed known (inr (inl shuts)) = or_right (was_shut m) (shut_for m result) shuts
        ended_by m unclosed known (inr (inr none)) =
            absurd (both_ways (closed_then m) unclosed (subst (λ (k : ℕ). closed_then k ≡ true) none.1 (lost none.0)))

        settled : (m : ℕ) (o : Option Rest) → waiting_for mid m ≡ o → (IsSome (waiting_for mid m) → IsSome (waiting_for new m)) → next.connections m ≡ absent
            → (has_left m (seen ++ event ∷ []) ≡ false → due m ≡ []) → (was_shut m ≡ true → written m ≢ due m) → IsNotFor m result
            → IsSome (waiting_for new m)
            ⊎ IsAway (next.connections m) (has_left m (seen ++ event ∷ [])) (written_then m) (due m ++ due_for m result) (was_shut m || shut_for m result)
        settled m (Some rest) here some away none unwritten spared = inl (some (subst (λ (x : Option Rest). IsSome x) (sym here) refl))
        settled m None here some away none unwritten spared = inr (
          away,
          λ left. ap (λ (t : List ℕ). t ++ due_for m result) (none left) ∙ spared.0,
          λ shuts.
              subst (λ (t : List ℕ). written_then m ≢ t) (sym (ap (λ (t : List ℕ). due m ++ t) spared.0 ∙ append-nil (due m)))
              (unwritten_still (written m) (written_then m) (due m) (fits_gone (waiting_for old m) (written m) (due m) (level.fits m))
              (subst (IsFront (written_then m)) (same m) (silent mid new written_mid written_then m (due_for m result) (grows m) here spared.0))
              (unwritten (sym (ap (λ (b : Bool). was_shut m || b) spared.1 ∙ or-false (was_shut m)) ∙ shuts))),
        )

        unwritten_at : (m : ℕ) → IsSome (waiting_for old m) ⊎ IsAway (state.connections m) (has_left m seen) (written m) (due m) (was_shut m) → was_shut m ≡ true → written m ≢ due m
        unwritten_at m (inl here) shuts = never_kept (waiting_for old m) (written m) (due m) (level.fits m) here (closing.marked m shuts) (closing.unfinished m)
        unwritten_at m (inr is) shuts = is.2 shuts

        staying : (m : ℕ) → leaves m event ≡ false → closed_mid m ≡ false → (IsSome (waiting_for old m) → IsSome (waiting_for mid m)) → (IsSome (waiting_for mid m) → IsSome (waiting_for new m))
            → IsSome (waiting_for old m) ⊎ IsAway (state.connections m) (has_left m seen) (written m) (due m) (was_shut m)
            → IsSome (waiting_for new m)
            ⊎ IsAway (next.connections m) (has_left m (seen ++ event ∷ [])) (written_then m) (due m ++ due_for m result) (was_shut m || shut_for m result)
        staying m left unclosed first_some some (inl here) = inl (some (first_some here))
        staying m left unclosed first_some some (inr is) = after
            (hears_absent policy base entries event m state result next (IsSome (waiting_for mid m)) (event.connection == m) hears is.0 left refl
            (λ e joins. subst (λ (k : ℕ). IsSome (waiting_for mid k)) e (entered joins (ap closed_mid e ∙ unclosed))))
          where
            after : IsSome (waiting_for mid m) ⊎ ((next.connections m ≡ state.connections m) × IsNotFor m result)
                → IsSome (waiting_for new m)
                ⊎ IsAway (next.connections m) (has_left m (seen ++ event ∷ [])) (written_then m) (due m ++ due_for m result) (was_shut m || shut_for m result)
            after (inl here) = inl (some here)
            after (inr stayed) = settled m (waiting_for mid m) refl some (stayed.0 ∙ is.0) (λ h. is.1 (left_more m seen event h).0) is.2 stayed.1

        go : (m : ℕ) → first.connections m ≡ absent → closed_mid m ≡ false → (IsSome (waiting_for mid m) → IsSome (waiting_for new m))
            → (left : Bool) → leaves m event ≡ left
            → IsSome (waiting_for new m)
            ⊎ IsAway (next.connections m) (has_left m (seen ++ event ∷ [])) (written_then m) (due m ++ due_for m result) (was_shut m || shut_for m result)
        go m away unclosed some false e =
            let s = stays m e unclosed in
            staying m e unclosed s.1 some (whole.open_to m away s.0)
        go m away unclosed some true e =
            let free = hears_left policy base entries event m state result next hears e in
            settled m (waiting_for mid m) refl some free.0 (λ h. absurd (let l = (left_more m seen event h).1 in let t = e in cc))
            (unwritten_at m (whole.open_to m away (before m unclosed true e))) free.1

-- what is due after one more event
pub whole_more : (first state : HubState) (seen : List HubEvent) (written : ℕ → List ℕ) (takes closed : ℕ → Bool) (waiting : Waiting) (results : List (Result (List HubOutput) HubFault))
    (result : Result (List HubOutput) HubFault) → IsWhole first state seen written takes closed waiting (λ m. due m results ++ due_for m result) (λ m. is_shut m results || shut_for m result)
    → IsWhole first state seen written takes closed waiting (λ m. due m (results ++ result ∷ [])) (λ m. is_shut m (results ++ result ∷ []))
whole_more first state seen written takes closed waiting results result whole = record {
  taken = whole.taken;
  open_to = λ m away unclosed.
      subst (λ (b : Bool). IsSome (waiting_for waiting m) ⊎ IsAway (state.connections m) (has_left m seen) (written m) (due m (results ++ result ∷ [])) b) (sym (shut_more m results result))
      (subst (λ (t : List ℕ). IsSome (waiting_for waiting m) ⊎ IsAway (state.connections m) (has_left m seen) (written m) t (is_shut m results || shut_for m result))
      (sym (due_more m results result)) (whole.open_to m away unclosed));
  ended = λ m away unclosed ends. shut_more m results result ∙ whole.ended m away unclosed ends;
}

all_written : (state : Connection) (rest : Option Rest) (takes : Bool) (written all : List ℕ) (shuts : Bool) → Fits rest written all → AllTaken rest takes → takes ≡ true
    → IsSome rest ⊎ IsAway state false written all shuts → written ≡ all
all_written state None takes written whole shuts fits taken on (inl here) = absurd (let h = here in cc)
all_written state None takes written whole shuts fits taken on (inr is) = (none_of_both written fits.0 (fits.1 ∙ is.1 refl)).0 ∙ sym (is.1 refl)
all_written state (Some rest) takes written whole shuts fits taken on here =
    sym (append-nil written) ∙ ap (λ (t : List ℕ). written ++ t) (sym (taken on)) ∙ fits

-- a connection that takes all was given all that is due to it
pub whole_written : (first state : HubState) (seen : List HubEvent) (written : ℕ → List ℕ) (takes closed : ℕ → Bool) (waiting : Waiting) (due : ℕ → List ℕ) (was_shut : ℕ → Bool)
    → IsLevel written waiting due → IsWhole first state seen written takes closed waiting due was_shut
    → (m : ℕ) → first.connections m ≡ absent → has_left m seen ≡ false → closed m ≡ false → takes m ≡ true → written m ≡ due m
whole_written first state seen written takes closed waiting due was_shut level whole m away here unclosed all =
    all_written (state.connections m) (waiting_for waiting m) (takes m) (written m) (due m) (was_shut m) (level.fits m) (whole.taken m) all
    (subst (λ (b : Bool). IsSome (waiting_for waiting m) ⊎ IsAway (state.connections m) b (written m) (due m) (was_shut m)) here (whole.open_to m away unclosed))

-- a connection that was shut and has taken all that is due to it is closed
pub whole_closed : (first state : HubState) (seen : List HubEvent) (written : ℕ → List ℕ) (takes closed : ℕ → Bool) (waiting : Waiting) (due : ℕ → List ℕ) (was_shut : ℕ → Bool)
    → IsLevel written waiting due → IsClosing waiting was_shut → IsWhole first state seen written takes closed waiting due was_shut
    → (m : ℕ) → first.connections m ≡ absent → was_shut m ≡ true → written m ≡ due m → closed m ≡ true
whole_closed first state seen written takes closed waiting due was_shut level closing whole m away shuts all =
    true_from_ne_false (closed m) (λ unclosed. never (whole.open_to m away unclosed))
  where
    never : IsSome (waiting_for waiting m) ⊎ IsAway (state.connections m) (has_left m seen) (written m) (due m) (was_shut m) → ⊥
    never (inl some) = never_kept (waiting_for waiting m) (written m) (due m) (level.fits m) some (closing.marked m shuts) (closing.unfinished m) all
    never (inr is) = is.2 shuts all

-- a connection that the hub shut without an output is closed
pub whole_ended : (first state : HubState) (seen : List HubEvent) (written : ℕ → List ℕ) (takes closed : ℕ → Bool) (waiting : Waiting) (due : ℕ → List ℕ) (was_shut : ℕ → Bool)
    → IsWhole first state seen written takes closed waiting due was_shut
    → (m : ℕ) → first.connections m ≡ absent → state.connections m ≡ shut → was_shut m ≡ false → closed m ≡ true
whole_ended first state seen written takes closed waiting due was_shut whole m away ends silent =
    true_from_ne_false (closed m) (λ unclosed. both_ways (was_shut m) silent (whole.ended m away unclosed ends))
