-- Rows that go and come.
use Rattle.std.proofs.Common.{◌≡◌, ℕ, ◌+◌, ◌<◌, List, [], ◌∷◌, ◌++◌, map, take, get_or, filter, not, ◌||◌, Bool, true, false, cond, length, refl, sym, ap, ◌∙◌}
use Rattle.std.specs.Prelude.{IsPermutation}
use Rattle.std.specs.List.{list_any}
use Rattle.std.proofs.lemmas.List.Folds.{list_any-append}
use Rattle.std.proofs.lemmas.List.Sorted.{IsPermutation-middle, IsPermutation-trans, IsPermutation-sym}
use Rattle.sqlite_trees.proofs.ListLemmas.{IsPermutation-same}
use Rattle.std.proofs.lemmas.List.{take_more, map-append, append_assoc}
use Rattle.sqlite.specs.Order.{Row}
use Rattle.sqlite.specs.Effect.{Database}
use Rattle.scim_store_tables.specs.Lists.{Lists, Are, IsTableOf, without}

-- the same rows in another order
other_order : (shows : Row → Row) (rows values others : List Row) → IsTableOf shows rows values → IsPermutation values others → IsTableOf shows rows others
other_order shows rows values others of same = record { keys = of.keys; same = IsPermutation-trans _ _ _ of.same same }

pub reordered : (db : Database) (a b : Lists) → Are db a → IsPermutation a.resources b.resources → IsPermutation a.taken b.taken → IsPermutation a.member b.member → IsPermutation a.audit b.audit → IsPermutation a.secret b.secret → Are db b
reordered db a b are r t m u s = record {
  schema = are.schema;
  version = are.version;
  resources = other_order _ _ _ _ are.resources r;
  taken = other_order _ _ _ _ are.taken t;
  member = other_order _ _ _ _ are.member m;
  audit = IsPermutation-trans _ _ _ are.audit u;
  secret = other_order _ _ _ _ are.secret s;
}

-- none goes
pub without_none : (rows : List Row) → filter (λ r. true) rows ≡ rows
without_none [] = refl
without_none (r ∷ rows) = ap (λ (l : List Row). r ∷ l) (without_none rows)

-- what passes neither test is left where one test takes rows out and then the other
without_both : (p q : Row → Bool) (rows : List Row) → without p (without q rows) ≡ without (λ r. q r || p r) rows
without_both p q [] = refl
without_both p q (r ∷ rows) = go (q r) (p r) refl (without_both p q rows)
  where
    go : (a b : Bool) → p r ≡ b → without p (without q rows) ≡ without (λ r. q r || p r) rows
        → without p (cond (not a) (r ∷ without q rows) (without q rows)) ≡ cond (not (a || b)) (r ∷ without (λ r. q r || p r) rows) (without (λ r. q r || p r) rows)
    go true b e rest = rest
    go false true e rest = rw e rest
    go false false e rest = rw e (ap (λ (l : List Row). r ∷ l) rest)

-- one more of the things whose rows go
pub without_more : {X : Type 0} (test : X → Row → Bool) (xs : List X) (i : ℕ) (x : X) (rows : List Row) → i < length xs → x ≡ get_or xs i x
    → without (test x) (without (λ r. list_any (λ y. test y r) (take i xs)) rows) ≡ without (λ r. list_any (λ y. test y r) (take (i + 1) xs)) rows
without_more test xs i x rows low is =
    let taken : take (i + 1) xs ≡ take i xs ++ x ∷ [] = take_more xs i x low ∙ ap (λ y. take i xs ++ y ∷ []) (sym is) in
    without_both (test x) (λ r. list_any (λ y. test y r) (take i xs)) rows
    ∙ (λ k. filter (λ r. not (sym (last r) k)) rows)
    ∙ ap (λ ys. without (λ r. list_any (λ y. test y r) ys) rows) (sym taken)
  where
    or_false : (b : Bool) → (b || false) ≡ b
    or_false true = refl
    or_false false = refl

    last : (r : Row) → list_any (λ y. test y r) (take i xs ++ x ∷ []) ≡ (list_any (λ y. test y r) (take i xs) || test x r)
    last r = list_any-append (λ y. test y r) (take i xs) (x ∷ []) ∙ ap (λ b. list_any (λ y. test y r) (take i xs) || b) (or_false (test x r))

-- one more of the things whose rows come
pub more_rows : {X : Type 0} (f : X → Row) (xs : List X) (i : ℕ) (x : X) (rest : List Row) → i < length xs → x ≡ get_or xs i x → IsPermutation (f x ∷ map f (take i xs) ++ rest) (map f (take (i + 1) xs) ++ rest)
more_rows f xs i x rest low is =
    let taken : take (i + 1) xs ≡ take i xs ++ x ∷ [] = take_more xs i x low ∙ ap (λ y. take i xs ++ y ∷ []) (sym is) in
    let rows : map f (take (i + 1) xs) ++ rest ≡ map f (take i xs) ++ f x ∷ rest = ap (λ l. map f l ++ rest) taken ∙ ap (λ l. l ++ rest) (map-append f (take i xs) (x ∷ [])) ∙ append_assoc (map f (take i xs)) (f x ∷ []) rest in
    IsPermutation-trans _ _ _ (IsPermutation-sym _ _ (IsPermutation-middle (map f (take i xs)) (f x) rest)) (IsPermutation-same _ _ (sym rows))
