-- Slashes at the ends of paths.
use Rattle.std.proofs.Common.{◌≡◌, ◌≢◌, refl, sym, ◌∙◌, ap, ℕ, List, [], ◌∷◌, ◌++◌, Bor}
use Rattle.std.proofs.lemmas.Bool.{eqb-true}
use Rattle.std.specs.Prelude.{Option, None, Some, MatchOption, unwrap_or}
use Rattle.scim_route.specs.Targets.{is_slash}
use Rattle.scim_route.specs.Endpoints.{without_last_slash, place_of}
use Rattle.scim_route.proofs.PositionLemmas.{by_bool}

-- the slash behind a text is taken off
pub takes_off : (text : List ℕ) → without_last_slash (text ++ 47 ∷ []) ≡ text
unfolding without_last_slash
takes_off [] = refl
takes_off (b ∷ []) = refl
takes_off (b ∷ c ∷ rest) = ap (λ (bs : List ℕ). b ∷ bs) (takes_off (c ∷ rest))

-- a text with none there stays
pub keeps : (text : List ℕ) → ((front : List ℕ) → text ≢ front ++ 47 ∷ []) → without_last_slash text ≡ text
unfolding without_last_slash
keeps [] none = refl
keeps (b ∷ []) none = by_bool (is_slash b) (λ t. absurd (none [] (ap (λ (x : ℕ). x ∷ []) (eqb-true b 47 t)))) (λ f. rw f refl)
keeps (b ∷ c ∷ rest) none = ap (λ (bs : List ℕ). b ∷ bs) (keeps (c ∷ rest) (λ front e. none (b ∷ front) (ap (λ (bs : List ℕ). b ∷ bs) e)))

-- so `strip_suffix` gives the text without one
pub stripped : (text : Bor (List ℕ)) (r : Option (Bor (List ℕ))) → MatchOption r ((front : List ℕ) → text.now ≢ front ++ 47 ∷ []) (λ x. text.now ≡ x.now ++ 47 ∷ [])
    → (unwrap_or r text).now ≡ without_last_slash text.now
stripped text None none = sym (keeps text.now none)
stripped text (Some x) e = sym (ap without_last_slash e ∙ takes_off x.now)

-- a path begins with a slash
pub no_place : (path : List ℕ) → ((rest : List ℕ) → path ≢ 47 ∷ rest) → place_of path ≡ None
no_place [] none = refl
no_place (b ∷ rest) none = by_bool (is_slash b) (λ t. absurd (none rest (ap (λ (x : ℕ). x ∷ rest) (eqb-true b 47 t)))) (λ f. rw f refl)
