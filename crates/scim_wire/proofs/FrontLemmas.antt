-- Fronts of lists, and texts of which none is the front of another.
use Rattle.std.proofs.Common.{◌≡◌, ℕ, ◌⊎◌, List, [], ◌∷◌, ◌++◌, length, refl, sym, ap, ◌∙◌, arith, inl, inr, subst}
use Rattle.std.specs.Prelude.{All}
use Rattle.std.proofs.lemmas.List.{append-nil, append_assoc, length-append}
use Rattle.std.proofs.lemmas.List.Elements.{All-nil, All-cons, All-head, All-tail}
use Rattle.scim_wire.specs.Fronts.{IsFrontOf, IsDeadEnd}

-- of two fronts of one list, one is a front of the other
pub two_fronts : (a x b y : List ℕ) → a ++ x ≡ b ++ y
    → ((m : List ℕ) × (b ≡ a ++ m) × (x ≡ m ++ y)) ⊎ ((m : List ℕ) × (a ≡ b ++ m) × (y ≡ m ++ x))
two_fronts [] x b y e = inl (b, refl, e)
two_fronts (c ∷ a) x [] y e = inr (c ∷ a, refl, sym e)
two_fronts (c ∷ a) x (d ∷ b) y e = longer (two_fronts a x b y cc)
  where
    longer : ((m : List ℕ) × (b ≡ a ++ m) × (x ≡ m ++ y)) ⊎ ((m : List ℕ) × (a ≡ b ++ m) × (y ≡ m ++ x))
        → ((m : List ℕ) × (d ∷ b ≡ c ∷ (a ++ m)) × (x ≡ m ++ y)) ⊎ ((m : List ℕ) × (c ∷ a ≡ d ∷ (b ++ m)) × (y ≡ m ++ x))
    longer (inl (m, s, t)) = inl (m, cc, t)
    longer (inr (m, s, t)) = inr (m, cc, t)

-- what holds of each of a list holds of each of a front, and of one in the middle
pub All-front : (P : ℕ → Type 0) (xs ys zs : List ℕ) → zs ≡ xs ++ ys → All P zs → All P xs
All-front P [] ys zs e all = All-nil P
All-front P (x ∷ xs) ys [] e all = cc
All-front P (x ∷ xs) ys (z ∷ zs) e all =
    let same : z ≡ x = cc in
    All-cons P x xs (subst P same (All-head P z zs all)) (All-front P xs ys zs (cc) (All-tail P z zs all))

pub All-at : {X : Type 0} (P : X → Type 0) (xs : List X) (y : X) (ys zs : List X) → zs ≡ xs ++ y ∷ ys → All P zs → P y
All-at P xs y ys [] e all = absurd (omega (arith, ap length e, length-append xs (y ∷ ys)))
All-at P [] y ys (z ∷ zs) e all = let same : z ≡ y = cc in subst P same (All-head P z zs all)
All-at P (x ∷ xs) y ys (z ∷ zs) e all = All-at P xs y ys zs (cc) (All-tail P z zs all)

-- no such text is the front of another
abbrev pub NoneIsFront : (List ℕ → Type 0) → Type 0
NoneIsFront Is = (a m : List ℕ) → Is a → Is (a ++ m) → m ≡ []

-- such a text and one that goes on are one
pub whole_whole : (Is : List ℕ → Type 0) → NoneIsFront Is → (a b x y : List ℕ) → Is a → Is b → a ++ x ≡ b ++ y → (a ≡ b) × (x ≡ y)
whole_whole Is none a b x y is_a is_b e = by_fronts (two_fronts a x b y e)
  where
    by_fronts : ((m : List ℕ) × (b ≡ a ++ m) × (x ≡ m ++ y)) ⊎ ((m : List ℕ) × (a ≡ b ++ m) × (y ≡ m ++ x)) → (a ≡ b) × (x ≡ y)
    by_fronts (inl (m, longer, rest)) =
        let nothing : m ≡ [] = none a m is_a (subst Is longer is_b) in
        (sym (longer ∙ ap (λ t. a ++ t) nothing ∙ append-nil a), rest ∙ ap (λ t. t ++ y) nothing)
    by_fronts (inr (m, longer, rest)) =
        let nothing : m ≡ [] = none b m is_b (subst Is longer is_a) in
        (longer ∙ ap (λ t. b ++ t) nothing ∙ append-nil b, sym (rest ∙ ap (λ t. t ++ x) nothing))

-- a whole text is no front of one
pub whole_front : (Is : List ℕ → Type 0) → NoneIsFront Is → (a x : List ℕ) → Is a → IsFrontOf Is (a ++ x) → ⊥
whole_front Is none a x is (next, more, longer) =
    let nothing = none a (x ++ next ∷ more) is (subst Is (append_assoc a x (next ∷ more)) longer) in
    omega (arith, ap length nothing, length-append x (next ∷ more))

-- a front of one byte more, with a byte after it, is a front of what was there
within : (xs : List ℕ) (x : ℕ) (front : List ℕ) (c : ℕ) (back : List ℕ) → xs ++ x ∷ [] ≡ front ++ c ∷ back → (mid : List ℕ) × (xs ≡ front ++ mid)
within xs x front c back e = by_fronts (two_fronts xs (x ∷ []) front (c ∷ back) e)
  where
    by_fronts : ((m : List ℕ) × (front ≡ xs ++ m) × (x ∷ [] ≡ m ++ c ∷ back)) ⊎ ((m : List ℕ) × (xs ≡ front ++ m) × (c ∷ back ≡ m ++ x ∷ []))
        → (mid : List ℕ) × (xs ≡ front ++ mid)
    by_fronts (inl ([], longer, rest)) = ([], sym (append-nil front ∙ longer ∙ append-nil xs))
    by_fronts (inl (d ∷ m, longer, rest)) = absurd (omega (arith, ap length rest, length-append m (c ∷ back)))
    by_fronts (inr (m, longer, rest)) = (m, longer)

-- what begins with a dead end is no front of such a text
pub dead_front : (Is : List ℕ → Type 0) → (a x : List ℕ) → IsDeadEnd Is a → IsFrontOf Is (a ++ x) → ⊥
dead_front Is a x dead (next, more, longer) = dead.can_not (x ++ next ∷ more) (subst Is (append_assoc a x (next ∷ more)) longer)

-- a front of the bytes before a dead end is none
front_dead : (Is : List ℕ → Type 0) → (a : List ℕ) (c : ℕ) (m : List ℕ) → IsDeadEnd Is (a ++ c ∷ m) → IsFrontOf Is a
front_dead Is a c m dead =
    let found = within dead.before dead.last a c m (sym dead.split) in
    by_rest found.0 (subst (IsFrontOf Is) found.1 dead.could)
  where
    by_rest : (mid : List ℕ) → IsFrontOf Is (a ++ mid) → IsFrontOf Is a
    by_rest [] (next, more, longer) = (next, more, subst Is (ap (λ t. t ++ next ∷ more) (append-nil a)) longer)
    by_rest (d ∷ mid) (next, more, longer) = (d, mid ++ next ∷ more, subst Is (append_assoc a (d ∷ mid) (next ∷ more)) longer)

-- no bytes go on both to a whole text and to a dead end
pub whole_dead : (Is : List ℕ → Type 0) → NoneIsFront Is → (a b x y : List ℕ) → Is a → IsDeadEnd Is b → a ++ x ≡ b ++ y → ⊥
whole_dead Is none a b x y is dead e = by_fronts (two_fronts a x b y e)
  where
    by_fronts : ((m : List ℕ) × (b ≡ a ++ m) × (x ≡ m ++ y)) ⊎ ((m : List ℕ) × (a ≡ b ++ m) × (y ≡ m ++ x)) → ⊥
    by_fronts (inr (m, longer, rest)) = dead.can_not m (subst Is longer is)
    by_fronts (inl ([], longer, rest)) = dead.can_not [] (subst Is (sym (append-nil b ∙ longer ∙ append-nil a)) is)
    by_fronts (inl (c ∷ m, longer, rest)) =
        whole_front Is none a [] is (subst (IsFrontOf Is) (sym (append-nil a)) (front_dead Is a c m (subst (IsDeadEnd Is) longer dead)))

-- two dead ends on the same bytes are one
pub dead_dead : (Is : List ℕ → Type 0) → (a b x y : List ℕ) → IsDeadEnd Is a → IsDeadEnd Is b → a ++ x ≡ b ++ y → a ≡ b
dead_dead Is a b x y dead_a dead_b e = by_fronts (two_fronts a x b y e)
  where
    shorter : (a b m : List ℕ) → IsDeadEnd Is a → IsDeadEnd Is b → b ≡ a ++ m → a ≡ b
    shorter a b [] dead_a dead_b longer = sym (longer ∙ append-nil a)
    shorter a b (c ∷ m) dead_a dead_b longer =
        absurd (dead_front Is a [] dead_a (subst (IsFrontOf Is) (sym (append-nil a)) (front_dead Is a c m (subst (IsDeadEnd Is) longer dead_b))))

    by_fronts : ((m : List ℕ) × (b ≡ a ++ m) × (x ≡ m ++ y)) ⊎ ((m : List ℕ) × (a ≡ b ++ m) × (y ≡ m ++ x)) → a ≡ b
    by_fronts (inl (m, longer, rest)) = shorter a b m dead_a dead_b longer
    by_fronts (inr (m, longer, rest)) = sym (shorter b a m dead_b dead_a longer)
