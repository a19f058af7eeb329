-- What fits after a change.
use Rattle.std.proofs.Common.{◌≡◌, ◌∙◌, refl, sym, ap, subst, ℕ, ◌+◌, ◌==◌, Bool, true, false, List, [], ◌∷◌, ◌++◌, map, take, append_assoc, if◌then◌else◌}
use Rattle.std.specs.Prelude.{Option, None, Some}
use Rattle.std.specs.Option.{option_map}
use Rattle.std.specs.List.{flat_map}
use Rattle.std.proofs.lemmas.Bool.{eqb-true}
use Rattle.std.proofs.lemmas.List.{append-nil, map-append}
use Rattle.std.proofs.lemmas.Grind.{flat_map-append}
use Rattle.scim_hub.specs.declared.events.Output.{Output}
use Rattle.scim_hub.specs.HubStates.{output_of}
use Rattle.scim_serve.specs.declared.pending_bytes.Waiting.{Waiting}
use Rattle.scim_serve.specs.Serving.{IsFront, text_to}
use Rattle.scim_serve.specs.code.Rests.{Rest, finished, with_more}
use Rattle.scim_serve.specs.code.Waiting.{waiting_for, Becomes}
use Rattle.scim_serve.specs.code.Levels.{Fits}

-- the first of all are the first of more
front_grows : (written due more : List ℕ) → IsFront written due → IsFront written (due ++ more)
front_grows written due more (rest, is) = (rest ++ more, sym (append_assoc written rest more) ∙ ap (λ (t : List ℕ). t ++ more) is)

-- more waits
fits_more : (rest : Option Rest) (written due more : List ℕ) → Fits rest written due → Fits (option_map (with_more more) rest) written (due ++ more)
fits_more None written due more fits = front_grows written due more fits
fits_more (Some rest) written due more fits = sym (append_assoc written rest.bytes more) ∙ ap (λ (t : List ℕ). t ++ more) fits

-- where it isn't written to any more
pub fits_gone : (rest : Option Rest) (written due : List ℕ) → Fits rest written due → IsFront written due
fits_gone None written due fits = fits
fits_gone (Some rest) written due fits = (rest.bytes, fits)

lost_if : (here : Bool) (rest : Option Rest) (written due text : List ℕ) → (here ≡ true → rest ≡ None) → Fits rest written due → Fits rest written (due ++ (if here then text else []))
lost_if true rest written due text gone fits =
    subst (λ (o : Option Rest). Fits o written (due ++ text)) (sym (gone refl)) (front_grows written due text (fits_gone rest written due fits))
lost_if false rest written due text gone fits = subst (λ (d : List ℕ). Fits rest written d) (sym (append-nil due)) fits

-- text for one connection, to which nothing is written any more
pub text_lost : (n m : ℕ) (waiting : Waiting) (written due text : List ℕ) → waiting_for waiting n ≡ None → Fits (waiting_for waiting m) written due
    → Fits (waiting_for waiting m) written (due ++ (if n == m then text else []))
text_lost n m waiting written due text gone fits =
    lost_if (n == m) (waiting_for waiting m) written due text (λ e. ap (waiting_for waiting) (sym (eqb-true n m e)) ∙ gone) fits

added_if : (here : Bool) (a o : Option Rest) (written due text : List ℕ) → (here ≡ true → a ≡ o) → Fits o written due
    → Fits (if here then option_map (with_more text) a else o) written (due ++ (if here then text else []))
added_if true a o written due text same fits =
    subst (λ (x : Option Rest). Fits (option_map (with_more text) x) written (due ++ text)) (sym (same refl)) (fits_more o written due text fits)
added_if false a o written due text same fits = subst (λ (d : List ℕ). Fits o written d) (sym (append-nil due)) fits

-- text for one connection, which waits now
pub text_added : (n m : ℕ) (old new : Waiting) (written due text : List ℕ) → Becomes n (option_map (with_more text) (waiting_for old n)) old new
    → Fits (waiting_for old m) written due → Fits (waiting_for new m) written (due ++ (if n == m then text else []))
text_added n m old new written due text becomes fits =
    subst (λ (o : Option Rest). Fits o written (due ++ (if n == m then text else []))) (sym (becomes.waits m))
    (added_if (n == m) (waiting_for old n) (waiting_for old m) written due text (λ e. ap (waiting_for old) (eqb-true n m e)) fits)

-- the texts of outputs up to one, and of that one
pub texts_more : (m i : ℕ) (outputs : List Output) (output : Output) → take (i + 1) outputs ≡ take i outputs ++ output ∷ []
    → flat_map (text_to m) (map output_of (take (i + 1) outputs)) ≡ flat_map (text_to m) (map output_of (take i outputs)) ++ text_to m (output_of output)
texts_more m i outputs output more =
    ap (λ (xs : List Output). flat_map (text_to m) (map output_of xs)) more
    ∙ ap (flat_map (text_to m)) (map-append output_of (take i outputs) (output ∷ []))
    ∙ flat_map-append (text_to m) (map output_of (take i outputs)) (output_of output ∷ [])
    ∙ ap (λ (t : List ℕ). flat_map (text_to m) (map output_of (take i outputs)) ++ t) (append-nil (text_to m (output_of output)))

-- two texts are none only if each is
pub none_of_both : (xs ys : List ℕ) → xs ++ ys ≡ [] → (xs ≡ []) × (ys ≡ [])
none_of_both [] ys e = (refl, e)
none_of_both (x ∷ xs) ys e = absurd (let h = e in cc)

-- all was written where nothing waits
pub fits_whole : (rest : Option Rest) (written due : List ℕ) → rest ≡ Some finished → Fits rest written due → written ≡ due
fits_whole rest written due none fits = sym (append-nil written) ∙ subst (λ (o : Option Rest). Fits o written due) none fits
