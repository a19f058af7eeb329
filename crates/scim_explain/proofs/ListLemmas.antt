-- The elements before the first that passes a test.
use Rattle.std.proofs.Common.{◌≡◌, refl, sym, ◌∙◌, subst, ℕ, ◌+◌, Bool, true, false, List, [], ◌∷◌, inl, inr, arith}
use Rattle.std.specs.Prelude.{All, not, filter}
use Rattle.std.specs.List.{before_first, enumerate_from}
use Rattle.std.proofs.lemmas.Bool.{cases_Bool}
use Rattle.std.proofs.lemmas.List.Elements.{All-cons}
use Rattle.std.proofs.lemmas.List.Sums.{take_while-cons}

-- none before an element that passes; one that doesn't is among them
pub front_passes : {X : Type 0} (p : X → Bool) (x : X) (xs : List X) → p x ≡ true → before_first p (x ∷ xs) ≡ []
front_passes p x xs passes = take_while-cons (λ z. not (p z)) x xs ∙ rw passes refl

pub front_fails : {X : Type 0} (p : X → Bool) (x : X) (xs : List X) → p x ≡ false → before_first p (x ∷ xs) ≡ x ∷ before_first p xs
front_fails p x xs fails = take_while-cons (λ z. not (p z)) x xs ∙ rw fails refl

-- one that doesn't pass is left out of the numbered ones that do
pub left_out : {X : Type 0} (p : X → Bool) (n : ℕ) (x : X) (xs : List X) → p x ≡ false → filter (λ (numbered : ℕ × X). p numbered.1) (enumerate_from n (x ∷ xs)) ≡ filter (λ (numbered : ℕ × X). p numbered.1) (enumerate_from (n + 1) xs)
left_out p n x xs fails = rw fails refl

-- one that passes is the first of them
pub kept_first : {X : Type 0} (p : X → Bool) (n : ℕ) (x : X) (xs : List X) → p x ≡ true → filter (λ (numbered : ℕ × X). p numbered.1) (enumerate_from n (x ∷ xs)) ≡ (n, x) ∷ filter (λ (numbered : ℕ × X). p numbered.1) (enumerate_from (n + 1) xs)
kept_first p n x xs passes = rw passes refl

-- none of them passes
pub none_passes : {X : Type 0} (p : X → Bool) (xs : List X) → All (λ x. p x ≡ false) (before_first p xs)
none_passes p [] = λ k d less. absurd (omega (arith, less))
none_passes p (x ∷ xs) = elim (cases_Bool (p x)) [
  | inl t ↦ subst (All (λ z. p z ≡ false)) (sym (front_passes p x xs t)) (λ k d less. absurd (omega (arith, less)))
  | inr f ↦ subst (All (λ z. p z ≡ false)) (sym (front_fails p x xs f)) (All-cons (λ z. p z ≡ false) x (before_first p xs) f (none_passes p xs))
]
