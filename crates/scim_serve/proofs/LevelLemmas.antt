-- What was written and what waits are what is due, after a change.
use Rattle.std.proofs.Common.{◌≡◌, ◌∙◌, refl, sym, ap, subst, ℕ, ◌<◌, ◌≤◌, ◌==◌, Bool, true, false, if◌then◌else◌, List, [], ◌∷◌, ◌++◌, arith}
use Rattle.std.specs.Prelude.{Option, None, Some, Result}
use Rattle.std.proofs.lemmas.Bool.{eqb-true}
use Rattle.std.proofs.lemmas.List.{append-nil}
use Rattle.std.proofs.lemmas.Grind.{flat_map-append}
use Rattle.scim_hub.specs.declared.events.HubFault.{HubFault}
use Rattle.scim_hub.specs.Events.{HubOutput}
use Rattle.scim_serve.specs.declared.pending_bytes.Waiting.{Waiting}
use Rattle.scim_serve.specs.Serving.{IsFront, due_for, due}
use Rattle.scim_serve.specs.code.Rests.{Rest, no_rest}
use Rattle.scim_serve.specs.code.Waiting.{waiting_for, Becomes}
use Rattle.scim_serve.specs.code.Levels.{Fits, Keeps, Grows, IsLevel, IsOnlyFor}
use Rattle.scim_serve.proofs.FitLemmas.{fits_gone, none_of_both}

-- at the start nobody was written to
pub level_first : (written : ℕ → List ℕ) (waiting : Waiting) → ((m : ℕ) → written m ≡ []) → ((m : ℕ) → waiting_for waiting m ≡ None) → IsLevel written waiting (λ m. due m [])
level_first written waiting unwritten none = record {
  fits = λ m. subst (λ (o : Option Rest). Fits o (written m) []) (sym (none m)) ([], ap (λ (t : List ℕ). t ++ []) (unwritten m));
  fresh = λ m above. refl;
}

-- the same was written
pub level_same : (written written_then : ℕ → List ℕ) (waiting : Waiting) (due : ℕ → List ℕ) → ((m : ℕ) → written_then m ≡ written m) → IsLevel written waiting due → IsLevel written_then waiting due
level_same written written_then waiting due same level = record {
  fits = λ m. subst (λ (w : List ℕ). Fits (waiting_for waiting m) w (due m)) (sym (same m)) (level.fits m);
  fresh = level.fresh;
}

-- what fitted still fits
pub level_kept : (written written_then : ℕ → List ℕ) (old new : Waiting) (due : ℕ → List ℕ) → Keeps written old written_then new → new.next ≡ old.next → IsLevel written old due
    → IsLevel written_then new due
level_kept written written_then old new due keeps next level = record {
  fits = λ m. keeps m (due m) (level.fits m);
  fresh = λ m above. level.fresh m (omega (arith, next, above));
}

entered_if : (here : Bool) (o : Option Rest) (written all : List ℕ) → Fits o written all → (here ≡ true → all ≡ []) → Fits (if here then Some no_rest else o) written all
entered_if true o written all fits none =
    let front = fits_gone o written all fits in
    append-nil written ∙ (none_of_both written front.0 (front.1 ∙ none refl)).0 ∙ sym (none refl)
entered_if false o written all fits none = fits

-- a connection whose number wasn't had may be written to
pub level_entered : (written : ℕ → List ℕ) (old mid new : Waiting) (due : ℕ → List ℕ) (n : ℕ) → old.next ≤ n → ((m : ℕ) → waiting_for mid m ≡ waiting_for old m) → old.next ≤ mid.next
    → Becomes n (Some no_rest) mid new → IsLevel written old due → IsLevel written new due
level_entered written old mid new due n fresh same higher becomes level = record {
  fits = λ m. subst (λ (o : Option Rest). Fits o (written m) (due m)) (sym (becomes.waits m))
      (entered_if (n == m) (waiting_for mid m) (written m) (due m) (subst (λ (o : Option Rest). Fits o (written m) (due m)) (sym (same m)) (level.fits m))
      (λ e. let is = eqb-true n m e in level.fresh m (omega (arith, fresh, is))));
  fresh = λ m above. level.fresh m (omega (arith, higher, above, becomes.next));
}

-- an event of a connection whose number was had
pub level_on : (written written_then : ℕ → List ℕ) (old new : Waiting) (due : ℕ → List ℕ) (n : ℕ) (result : Result (List HubOutput) HubFault)
    → Grows (λ m. due_for m result) written old written_then new → new.next ≡ old.next → n < old.next → IsOnlyFor n result → IsLevel written old due
    → IsLevel written_then new (λ m. due m ++ due_for m result)
level_on written written_then old new due n result grows next noted only level = record {
  fits = λ m. grows m (due m) (level.fits m);
  fresh = λ m above.
      ap (λ (t : List ℕ). t ++ due_for m result) (level.fresh m (omega (arith, next, above)))
      ∙ (only m (λ (e : n ≡ m). absurd (omega (arith, next, above, noted, e)))).0;
}

-- what is due after one more event
pub due_more : (m : ℕ) (results : List (Result (List HubOutput) HubFault)) (result : Result (List HubOutput) HubFault) → due m (results ++ result ∷ []) ≡ due m results ++ due_for m result
due_more m results result = flat_map-append (due_for m) results (result ∷ []) ∙ ap (λ (t : List ℕ). due m results ++ t) (append-nil (due_for m result))

pub level_more : (written : ℕ → List ℕ) (waiting : Waiting) (results : List (Result (List HubOutput) HubFault)) (result : Result (List HubOutput) HubFault)
    → IsLevel written waiting (λ m. due m results ++ due_for m result) → IsLevel written waiting (λ m. due m (results ++ result ∷ []))
level_more written waiting results result level = record {
  fits = λ m. subst (Fits (waiting_for waiting m) (written m)) (sym (due_more m results result)) (level.fits m);
  fresh = λ m above. due_more m results result ∙ level.fresh m above;
}

-- each was written the first of what is due to it
pub level_fronts : (written : ℕ → List ℕ) (waiting : Waiting) (due : ℕ → List ℕ) → IsLevel written waiting due → (m : ℕ) → IsFront (written m) (due m)
level_fronts written waiting due level m = fits_gone (waiting_for waiting m) (written m) (due m) (level.fits m)
