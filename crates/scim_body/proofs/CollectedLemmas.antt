-- What is read of some things in turn: what holds of each part of it, and of each two.
use Rattle.std.proofs.Common.{◌≡◌, ◌≢◌, ◌<◌, ◌≤◌, ◌∙◌, ℕ, zero, suc, Bool, true, false, ◌&&◌, List, [], ◌∷◌, ◌++◌, Option, None, Some, option_map, length, get_or, map, filter, refl, ap, sym, subst, append-nil, inl, inr, arith}
use Rattle.std.specs.Prelude.{All, AllPairs, option_and_then, nat_lt, not, if◌then◌else◌}
use Rattle.std.specs.List.{flat_map, list_all, list_any}
use Rattle.std.proofs.lemmas.Bool.{cases_Bool, and_parts, or_parts, ltb-true}
use Rattle.std.proofs.lemmas.Option.{same_Some}
use Rattle.std.proofs.lemmas.List.Concat.{flat_map-append}
use Rattle.std.proofs.lemmas.List.Elements.{All-nil, All-cons, All-head, All-tail, All-same, All-append, All-map, All-weaker, filter-append}
use Rattle.std.proofs.lemmas.List.Kept.{AllPairs-cons}
use Rattle.serde_json.specs.Data.{Data}
use Rattle.scim_body.specs.BodyValues.{collected, if_given}

-- ---- options

-- what is mapped was there
pub mapped : {A B : Type 0} (f : A → B) (o : Option A) (y : B) → option_map f o ≡ Some y → (x : A) × (o ≡ Some x) × (f x ≡ y)
mapped f None y h = absurd (cc h)
mapped f (Some x) y h = (x, refl, same_Some (f x) y h)

-- what comes of two steps came of the first and then of the second
pub chained : {A B : Type 0} (f : A → Option B) (o : Option A) (y : B) → option_and_then f o ≡ Some y → (x : A) × (o ≡ Some x) × (f x ≡ Some y)
chained f None y h = absurd (cc h)
chained f (Some x) y h = (x, refl, h)

-- where a value that isn't refused is there, the test was false
pub not_refused : {A : Type 0} (b : Bool) (x y : A) → (if b then None else Some x) ≡ Some y → (b ≡ false) × (x ≡ y)
not_refused true x y h = absurd (cc h)
not_refused false x y h = (refl, same_Some x y h)

-- what holds of nothing, and of what is read where a test is false
pub unless : {X : Type 0} (P : List X → Type 0) (b : Bool) (o : Option (List X)) (xs : List X) → P [] → (b ≡ false → o ≡ Some xs → P xs)
    → (if b then Some [] else o) ≡ Some xs → P xs
unless P true o xs none read h = subst P (same_Some [] xs h) none
unless P false o xs none read h = read refl h

-- what holds of nothing, and of what is read of a value
pub where_given : {X : Type 0} (P : List X → Type 0) (read : Data → Option (List X)) (o : Option Data) (xs : List X) → P []
    → ((d : Data) → read d ≡ Some xs → P xs) → if_given read o ≡ Some xs → P xs
where_given P read None xs none each h = subst P (same_Some [] xs h) none
where_given P read (Some d) xs none each h = each d h

-- ---- lists

-- each element passes a test that all pass
pub all_passes : {X : Type 0} (p : X → Bool) (xs : List X) → list_all p xs ≡ true → All (λ x. p x ≡ true) xs
all_passes p [] h = All-nil (λ x. p x ≡ true)
all_passes p (x ∷ xs) h = let t = and_parts (p x) (list_all p xs) h in All-cons (λ y. p y ≡ true) x xs t.0 (all_passes p xs t.1)

-- none passes a test that not any passes
pub none_passes : {X : Type 0} (p : X → Bool) (xs : List X) → list_any p xs ≡ false → All (λ x. p x ≡ false) xs
none_passes p [] h = All-nil (λ x. p x ≡ false)
none_passes p (x ∷ xs) h = let t = or_parts (p x) (list_any p xs) h in All-cons (λ y. p y ≡ false) x xs t.0 (none_passes p xs t.1)

-- nothing is kept where none passes
pub filter_none : {X : Type 0} (p : X → Bool) (xs : List X) → All (λ x. p x ≡ false) xs → filter p xs ≡ []
filter_none p [] h = refl
filter_none p (x ∷ xs) h = let n : p x ≡ false = All-head (λ y. p y ≡ false) x xs h in rw n (filter_none p xs (All-tail (λ y. p y ≡ false) x xs h))

-- one element for each that a test doesn't pass
pub kept_map : {X Y : Type 0} (p : X → Bool) (f : X → Y) (xs : List X) → flat_map (λ x. if p x then [] else f x ∷ []) xs ≡ map f (filter (λ x. not (p x)) xs)
kept_map p f [] = refl
kept_map p f (x ∷ xs) =
    elim (cases_Bool (p x)) [
      | inl t ↦ rw t (kept_map p f xs)
      | inr n ↦ rw n (ap (λ ys. f x ∷ ys) (kept_map p f xs))
    ]

-- no two stand in a list of one
pub one_pair : {X : Type 0} (R : X → X → Type 0) (xs : List X) → length xs ≤ 1 → AllPairs R xs
one_pair R xs h = λ i j d l m. absurd (omega arith)

-- what holds of each two holds of the first and each later one
head_pairs : {X : Type 0} (R : X → X → Type 0) (x : X) (xs : List X) → AllPairs R (x ∷ xs) → All (R x) xs
head_pairs R x xs h k d l = h zero (suc k) d (omega arith) (omega arith)

-- and of each two later ones
tail_pairs : {X : Type 0} (R : X → X → Type 0) (x : X) (xs : List X) → AllPairs R (x ∷ xs) → AllPairs R xs
tail_pairs R x xs h i j d l m = h (suc i) (suc j) d (omega arith) (omega arith)

-- what holds of each two of a list, of each two of another, and of one and the other
pairs_append : {X : Type 0} (R : X → X → Type 0) (xs ys : List X) → AllPairs R xs → AllPairs R ys → All (λ x. All (R x) ys) xs → AllPairs R (xs ++ ys)
pairs_append R [] ys a b c = b
pairs_append R (x ∷ xs) ys a b c =
    AllPairs-cons R x (xs ++ ys) (All-append (R x) xs ys (head_pairs R x xs a) (All-head (λ z. All (R z) ys) x xs c))
    (pairs_append R xs ys (tail_pairs R x xs a) b (All-tail (λ z. All (R z) ys) x xs c))

-- what holds of what two are made of holds of the two
pub pairs_map : {X Y : Type 0} (R : Y → Y → Type 0) (f : X → Y) (xs : List X) → AllPairs (λ x y. R (f x) (f y)) xs → AllPairs R (map f xs)
pairs_map R f [] h = λ i j d l m. absurd (omega arith)
pairs_map R f (x ∷ xs) h =
    AllPairs-cons R (f x) (map f xs) (All-map (R (f x)) f xs (head_pairs (λ y z. R (f y) (f z)) x xs h)) (pairs_map R f xs (tail_pairs (λ y z. R (f y) (f z)) x xs h))

-- ---- what is read of each of some things

-- what is read of the first, and of the rest
pub record AreRead {X : Type 0} (one rest : Option (List X)) (all : List X) : Type 0 where
  pub first : List X
  pub more : List X
  pub one_is : one ≡ Some first
  pub rest_is : rest ≡ Some more
  pub joined : first ++ more ≡ all

-- what is read of all is what is read of both
pub are_read : {X : Type 0} (one rest : Option (List X)) (all : List X) → option_and_then (λ xs. option_map (λ ys. xs ++ ys) rest) one ≡ Some all → AreRead one rest all
are_read None rest all h = absurd (cc h)
are_read (Some xs) None all h = absurd (cc h)
are_read (Some xs) (Some ys) all h = record { first = xs; more = ys; one_is = refl; rest_is = refl; joined = same_Some (xs ++ ys) all h }

-- what holds of all that is read of each
pub collected_all : {K X : Type 0} (Q : K → Type 0) (P : X → Type 0) (read : K → Option (List X)) → ((k : K) (xs : List X) → Q k → read k ≡ Some xs → All P xs)
    → (ks : List K) → All Q ks → (xs : List X) → collected read ks ≡ Some xs → All P xs
collected_all Q P read each [] q xs h = All-same P xs [] (sym (same_Some [] xs h)) (All-nil P)
collected_all Q P read each (k ∷ ks) q xs h =
    let r = are_read (read k) (collected read ks) xs h in
    All-same P xs (r.first ++ r.more) (sym r.joined)
    (All-append P r.first r.more (each k r.first (All-head Q k ks q) r.one_is) (collected_all Q P read each ks (All-tail Q k ks q) r.more r.rest_is))

-- whether the numbers of things rise
abbrev pub is_rising : {K : Type 0} → (K → ℕ) → List K → Bool
is_rising number [] = true
is_rising number (k ∷ ks) = list_all (λ l. nat_lt (number k) (number l)) ks && is_rising number ks

-- then the first has the least
pub first_least : {K : Type 0} (number : K → ℕ) (k : K) (ks : List K) → is_rising number (k ∷ ks) ≡ true → All (λ l. number k < number l) ks
first_least number k ks h =
    let t = and_parts (list_all (λ l. nat_lt (number k) (number l)) ks) (is_rising number ks) h in
    All-weaker (λ l. nat_lt (number k) (number l) ≡ true) (λ l. number k < number l) (λ l e. ltb-true (number k) (number l) e) ks
    (all_passes (λ l. nat_lt (number k) (number l)) ks t.0)

-- and the rest rise
pub rest_rise : {K : Type 0} (number : K → ℕ) (k : K) (ks : List K) → is_rising number (k ∷ ks) ≡ true → is_rising number ks ≡ true
rest_rise number k ks h = (and_parts (list_all (λ l. nat_lt (number k) (number l)) ks) (is_rising number ks) h).1

-- an element is of a thing with a higher number
abbrev IsLater : {K X : Type 0} → (K → ℕ) → (K → X → Type 0) → K → X → Type 0
IsLater {K} number IsOf k x = (l : K) × (number k < number l) × IsOf l x

-- what is read of the rest is
later : {K X : Type 0} (number : K → ℕ) (Q : K → Type 0) (IsOf : K → X → Type 0) (read : K → Option (List X))
    → ((k : K) (xs : List X) → Q k → read k ≡ Some xs → All (IsOf k) xs)
    → (k : K) (ks : List K) → All (λ l. number k < number l) ks → All Q ks → (xs : List X) → collected read ks ≡ Some xs → All (IsLater number IsOf k) xs
later number Q IsOf read of_key k ks low q xs h =
    collected_all (λ l. Q l × (number k < number l)) (IsLater number IsOf k) read
    (λ l ys both e. All-weaker (IsOf l) (IsLater number IsOf k) (λ y o. (l, both.1, o)) ys (of_key l ys both.0 e)) ks (λ i d m. (q i d m, low i d m)) xs h

-- what holds of each two that are read of one thing, and of one of a thing and one of a later thing, holds of each two
pub collected_pairs : {K X : Type 0} (number : K → ℕ) (Q : K → Type 0) (IsOf : K → X → Type 0) (R : X → X → Type 0) (read : K → Option (List X))
    → ((k : K) (xs : List X) → Q k → read k ≡ Some xs → All (IsOf k) xs) → ((k : K) (xs : List X) → Q k → read k ≡ Some xs → AllPairs R xs)
    → ((k l : K) (x y : X) → number k < number l → IsOf k x → IsOf l y → R x y)
    → (ks : List K) → is_rising number ks ≡ true → All Q ks → (xs : List X) → collected read ks ≡ Some xs → AllPairs R xs
collected_pairs number Q IsOf R read of_key pairs apart [] rising q xs h =
    subst (λ ys. AllPairs R ys) (same_Some [] xs h) (λ i j d l m. absurd (omega arith))
collected_pairs number Q IsOf R read of_key pairs apart (k ∷ ks) rising q xs h =
    let r = are_read (read k) (collected read ks) xs h in
    let here = All-head Q k ks q in
    let rest = All-tail Q k ks q in
    let high = later number Q IsOf read of_key k ks (first_least number k ks rising) rest r.more r.rest_is in
    subst (λ ys. AllPairs R ys) r.joined
    (pairs_append R r.first r.more (pairs k r.first here r.one_is)
    (collected_pairs number Q IsOf R read of_key pairs apart ks (rest_rise number k ks rising) rest r.more r.rest_is)
    (All-weaker (IsOf k) (λ x. All (R x) r.more) (λ x o. All-weaker (IsLater number IsOf k) (R x) (λ y p. apart k p.0 x y p.1 o p.2) r.more high) r.first (of_key k r.first here r.one_is)))

-- a test that only what is read of one thing passes keeps all that it keeps of that
pub collected_values : {K X : Type 0} (number : K → ℕ) (Q : K → Type 0) (IsOf : K → X → Type 0) (test : K → X → Bool) (W : K → List X → Type 0) (read : K → Option (List X))
    → ((k : K) (xs : List X) → Q k → read k ≡ Some xs → All (IsOf k) xs) → ((k : K) (xs : List X) → Q k → read k ≡ Some xs → W k (filter (test k) xs))
    → ((k l : K) (x : X) → number k ≢ number l → IsOf k x → test l x ≡ false)
    → (ks : List K) → is_rising number ks ≡ true → All Q ks → (xs : List X) → collected read ks ≡ Some xs → All (λ k. W k (filter (test k) xs)) ks
collected_values number Q IsOf test W read of_key own apart [] rising q xs h = All-nil (λ k. W k (filter (test k) xs))
collected_values {K} {X} number Q IsOf test W read of_key own apart (k ∷ ks) rising q xs h =
    let r = are_read (read k) (collected read ks) xs h in
    let here = All-head Q k ks q in
    let rest = All-tail Q k ks q in
    let low = first_least number k ks rising in
    let high = later number Q IsOf read of_key k ks low rest r.more r.rest_is in
    let parts : (l : K) → filter (test l) r.first ++ filter (test l) r.more ≡ filter (test l) xs
    = λ l. sym (filter-append (test l) r.first r.more) ∙ ap (filter (test l)) r.joined in
    let none : filter (test k) r.more ≡ []
    = filter_none (test k) r.more (All-weaker (IsLater number IsOf k) (λ x. test k x ≡ false) (λ x p. apart p.0 k x (λ e. absurd (omega (arith, e, p.1))) p.2) r.more high) in
    let first : filter (test k) r.first ≡ filter (test k) xs
    = sym (append-nil (filter (test k) r.first)) ∙ ap (λ ys. filter (test k) r.first ++ ys) (sym none) ∙ parts k in
    let tail = collected_values number Q IsOf test W read of_key own apart ks (rest_rise number k ks rising) rest r.more r.rest_is in
    All-cons (λ l. W l (filter (test l) xs)) k ks (subst (λ ys. W k ys) first (own k r.first here r.one_is))
    (λ i d m.
    let l = get_or ks i d in
    let nothing : filter (test l) r.first ≡ []
    = filter_none (test l) r.first (All-weaker (IsOf k) (λ x. test l x ≡ false) (λ x o. apart k l x (λ e. absurd (omega (arith, e, low i d m))) o) r.first (of_key k r.first here r.one_is)) in
    subst (λ ys. W l ys) (ap (λ ys. ys ++ filter (test l) r.more) (sym nothing) ∙ parts l) (tail i d m))

-- what is made of all that is read is made of what is read of each
pub collected_flat_map : {K X Y : Type 0} (f : X → List Y) (read : K → Option (List X)) (ks : List K) (xs : List X) → collected read ks ≡ Some xs
    → collected (λ k. option_map (flat_map f) (read k)) ks ≡ Some (flat_map f xs)
collected_flat_map f read [] xs h = ap (λ ys. Some (flat_map f ys)) (same_Some [] xs h)
collected_flat_map f read (k ∷ ks) xs h =
    let r = are_read (read k) (collected read ks) xs h in
    let rest = collected_flat_map f read ks r.more r.rest_is in
    rw (r.one_is, rest) (ap Some (sym (flat_map-append f r.first r.more) ∙ ap (flat_map f) r.joined))
