-- Prefixes of texts, and bytes that no text begins with.
use Rattle.std.specs.Prelude.{◌≡◌, ℕ, List, [], ◌∷◌, ◌++◌}

-- the bytes are a proper prefix of a text with this property
abbrev pub IsFrontOf : (List ℕ → Type 0) → List ℕ → Type 0
IsFrontOf Is bytes = (next : ℕ) × (more : List ℕ) × Is (bytes ++ next ∷ more)

-- no text with this property begins with these bytes
abbrev pub CanNotBegin : (List ℕ → Type 0) → List ℕ → Type 0
CanNotBegin Is bytes = (more : List ℕ) → ¬ (Is (bytes ++ more))

-- no text with this property begins with these bytes, but a text with this property begins with all of them
-- except the last
pub record IsDeadEnd (Is : List ℕ → Type 0) (bytes : List ℕ) : Type 0 where
  pub before : List ℕ
  pub last : ℕ
  pub split : bytes ≡ before ++ last ∷ []
  pub could : IsFrontOf Is before
  pub can_not : CanNotBegin Is bytes
