-- The least id at which something fails, of ids in order.
use Rattle.std.proofs.Common.{◌≡◌, ℕ, refl, sym, ◌∙◌, ap, subst, Bool, true, false, ◌||◌, List, [], ◌∷◌, ◌++◌}
use Rattle.std.specs.Prelude.{All}
use Rattle.std.specs.List.{list_any, AllByRecursion}
use Rattle.std.specs.List.Sorted.{IsStrictlySortedBy}
use Rattle.std.specs.Ordering.{nat_cmp, is_eq}
use Rattle.std.specs.declared.cmp.Ordering.{Ordering}
use Rattle.std.specs.declared.cmp.Ordering.TheVariants.{Less, Equal, Greater}
use Rattle.std.specs.Cmp.Lexicographic.{slice_cmp}
use Rattle.std.proofs.lemmas.Cmp.{nat_list_cmp_total}
use Rattle.std.proofs.lemmas.List.Elements.{All-head, All-tail}
use Rattle.std.proofs.lemmas.List.Folds.{list_any-append}
use Rattle.std.proofs.lemmas.Map.Keys.{sorted_head, sorted_tail}
use Rattle.std.proofs.lemmas.Map.Lookups.{exact_bytes}

-- whether an id is among these
abbrev among : List ℕ → List (List ℕ) → Bool
among x ks = list_any (λ k. is_eq (slice_cmp nat_cmp x k)) ks

tie : (o : Ordering) → is_eq o ≡ true → o ≡ Equal
tie Less h = absurd cc
tie Equal h = refl
tie Greater h = absurd cc

pub among_all : (P : List ℕ → Type 0) (x : List ℕ) (ks : List (List ℕ)) → All P ks → among x ks ≡ true → P x
among_all P x [] all at = absurd cc
among_all P x (k ∷ ks) all at = go (is_eq (slice_cmp nat_cmp x k)) refl at (among_all P x ks (All-tail P k ks all))
  where
    go : (b : Bool) → is_eq (slice_cmp nat_cmp x k) ≡ b → (b || among x ks) ≡ true → (among x ks ≡ true → P x) → P x
    go true e h rest = subst P (sym (exact_bytes x k (tie (slice_cmp nat_cmp x k) e))) (All-head P k ks all)
    go false e h rest = rest h

none_among : (x : List ℕ) (ks : List (List ℕ)) → AllByRecursion (λ k. slice_cmp nat_cmp x k ≡ Less) ks → among x ks ≡ false
none_among x [] up = refl
none_among x (k ∷ ks) up = (let rest = none_among x ks up.1 in (λ i. is_eq (up.0 i) || rest i))

under : (x id : List ℕ) (ks : List (List ℕ)) → slice_cmp nat_cmp x id ≡ Less → AllByRecursion (λ k. slice_cmp nat_cmp id k ≡ Less) ks → AllByRecursion (λ k. slice_cmp nat_cmp x k ≡ Less) ks
under x id [] low up = tt
under x id (k ∷ ks) low up = (nat_list_cmp_total.trans x id k low up.0, under x id ks low up.1)

behind : (xs ys : List (List ℕ)) → IsStrictlySortedBy (slice_cmp nat_cmp) (xs ++ ys) → IsStrictlySortedBy (slice_cmp nat_cmp) ys
behind [] ys up = up
behind (x ∷ xs) ys up = behind xs ys (sorted_tail (slice_cmp nat_cmp) x (xs ++ ys) up)

or_none : (a b : Bool) → (a || b) ≡ true → b ≡ false → a ≡ true
or_none true b h f = refl
or_none false b h f = (let c : true ≡ false = sym h ∙ f in absurd cc)

-- what holds of all in front of an id holds of each that is below it
pub below_least : (P : List ℕ → Type 0) (keys done rest : List (List ℕ)) (id x : List ℕ) → keys ≡ done ++ id ∷ rest → IsStrictlySortedBy (slice_cmp nat_cmp) keys → All P done → slice_cmp nat_cmp x id ≡ Less → among x keys ≡ true → P x
below_least P keys done rest id x is up all low at =
    (let later = sorted_head (slice_cmp nat_cmp) id rest (behind done (id ∷ rest) (subst (IsStrictlySortedBy (slice_cmp nat_cmp)) is up)) in
    let none : among x (id ∷ rest) ≡ false = none_among x (id ∷ rest) (low, under x id rest low later) in
    among_all P x done all (or_none (among x done) (among x (id ∷ rest)) (sym (list_any-append (λ k. is_eq (slice_cmp nat_cmp x k)) done (id ∷ rest)) ∙ ap (among x) (sym is) ∙ at) none))
