-- Texts without a mark at their start.
use Rattle.std.proofs.Common.{◌≡◌, ◌≢◌, refl, sym, ap, ℕ, ◌==◌, List, [], ◌∷◌, Bor, true, false, Bool}
use Rattle.std.specs.Prelude.{Option, None, Some, MatchOption, unwrap_or}
use Rattle.std.proofs.lemmas.Bool.{eqb-true}
use Rattle.scim_audit_listing.specs.RefusalNames.{without_mark}

-- by whether a test passes
by_test : {P : Type 0} (b : Bool) → (b ≡ true → P) → (b ≡ false → P) → P
by_test true pass fail = pass refl
by_test false pass fail = fail refl

-- a text that begins with neither letter has no mark
unmarked : (text : List ℕ) → ((rest : List ℕ) → text ≢ 70 ∷ rest) → ((rest : List ℕ) → text ≢ 102 ∷ rest) → text ≡ without_mark text
unmarked [] large small = refl
unmarked (b ∷ rest) large small =
    by_test (b == 70)
    (λ is. absurd (large rest (ap (λ (x : ℕ). x ∷ rest) (eqb-true b 70 is))))
    (λ not_large. by_test (b == 102)
    (λ is. absurd (small rest (ap (λ (x : ℕ). x ∷ rest) (eqb-true b 102 is))))
    (λ not_small. rw (not_large, not_small) refl))

-- a text that doesn't begin with `F`, after an `f` at its start, if any, is removed, has no mark
pub stripped : (text : Bor (List ℕ)) (r : Option (Bor (List ℕ))) → ((rest : List ℕ) → text.now ≢ 70 ∷ rest)
    → MatchOption r ((rest : List ℕ) → text.now ≢ 102 ∷ rest) (λ x. text.now ≡ 102 ∷ x.now)
    → (unwrap_or r text).now ≡ without_mark text.now
stripped text None large small = unmarked text.now large small
stripped text (Some x) large small = sym (ap without_mark small)
