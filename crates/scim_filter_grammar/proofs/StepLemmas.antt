-- One step of each reader that goes on behind a keyword.
use Rattle.std.proofs.Common.{◌≡◌, ℕ, zero, suc, ◌<◌, ◌≤◌, List, length, Option, Some, None, Ok, Err, refl, sym, ◌-◌, ap, arith}
use Rattle.std.specs.Prelude.{codes}
use Rattle.scim_filter_grammar.specs.Tree.{Tree, Or, And}
use Rattle.scim_filter_grammar.specs.declared.tree.Scope.{Scope}
use Rattle.scim_filter_grammar.specs.Reading.{TooDeep}
use Rattle.scim_filter_grammar.specs.code.Cuts.{past_join}
use Rattle.scim_filter_grammar.specs.Reading.{◌>>=◌, Reader, mapped, term_at, joined_at, chain_at, conjunction_at, disjunction_at, filter_at}
use Rattle.scim_filter_grammar.proofs.FrontLemmas.{bind_same, join_shorter}
use Rattle.scim_filter_grammar.proofs.TakeLemmas.{term_shrinks, conjunction_shrinks}

module _ (item : Reader) (keyword : List ℕ) (join : Tree → Tree → Tree)
    (shrinks : (bytes : List ℕ) (x : Tree × List ℕ) → item bytes ≡ Ok x → length x.1 ≤ length bytes) where
  joined_same : (f g : Reader) (x : Tree × List ℕ) (o : Option (List ℕ)) → ((rest : List ℕ) → o ≡ Some rest → f rest ≡ g rest) → joined_at f join x o ≡ joined_at g join x o
  joined_same f g x None h = refl
  joined_same f g x (Some rest) h = ap (mapped (join x.0)) (h rest refl)

  -- more than the bytes is enough
  enough : (m n : ℕ) (bytes : List ℕ) → length bytes < m → length bytes < n → chain_at m item keyword join bytes ≡ chain_at n item keyword join bytes
  enough zero n bytes h k = absurd (omega arith)
  enough (suc m) zero bytes h k = absurd (omega arith)
  enough (suc m) (suc n) bytes h k =
      bind_same (item bytes) (λ x. joined_at (chain_at m item keyword join) join x (past_join keyword x.1)) (λ x. joined_at (chain_at n item keyword join) join x (past_join keyword x.1))
      (λ x e. joined_same (chain_at m item keyword join) (chain_at n item keyword join) x (past_join keyword x.1)
      (λ rest f. let shorter = join_shorter keyword x.1 rest f in let fits = shrinks bytes x e in enough m n rest (omega arith) (omega arith)))

  chain-step : (bytes : List ℕ) → chain_at (suc (length bytes)) item keyword join bytes ≡ (item bytes >>= λ x. joined_at (λ rest. chain_at (suc (length rest)) item keyword join rest) join x (past_join keyword x.1))
  chain-step bytes =
      bind_same (item bytes) (λ x. joined_at (chain_at (length bytes) item keyword join) join x (past_join keyword x.1)) (λ x. joined_at (λ rest. chain_at (suc (length rest)) item keyword join rest) join x (past_join keyword x.1))
      (λ x e. joined_same (chain_at (length bytes) item keyword join) (λ rest. chain_at (suc (length rest)) item keyword join rest) x (past_join keyword x.1)
      (λ rest f. let shorter = join_shorter keyword x.1 rest f in let fits = shrinks bytes x e in enough (length bytes) (suc (length rest)) rest (omega arith) (omega arith)))

pub conjunction-step : (n : ℕ) (i : Scope) (bytes : List ℕ) → conjunction_at (filter_at n) i bytes ≡ (term_at (filter_at n) i bytes >>= λ x. joined_at (conjunction_at (filter_at n) i) And x (past_join (codes "and") x.1))
unfolding conjunction_at
conjunction-step n i bytes = chain-step (term_at (filter_at n) i) (codes "and") And (term_shrinks n i) bytes

pub disjunction-step : (n : ℕ) (i : Scope) (bytes : List ℕ) → disjunction_at (filter_at n) i bytes ≡ (conjunction_at (filter_at n) i bytes >>= λ x. joined_at (disjunction_at (filter_at n) i) Or x (past_join (codes "or") x.1))
unfolding disjunction_at
disjunction-step n i bytes = chain-step (conjunction_at (filter_at n) i) (codes "or") Or (conjunction_shrinks n i) bytes

pub filter-none : (n : ℕ) (i : Scope) (bytes : List ℕ) → n ≡ 0 → filter_at n i bytes ≡ Err TooDeep
unfolding filter_at
filter-none zero i bytes h = refl
filter-none (suc n) i bytes h = absurd (omega arith)

pub filter-step : (n : ℕ) (i : Scope) (bytes : List ℕ) → 0 < n → filter_at n i bytes ≡ disjunction_at (filter_at (n - 1)) i bytes
unfolding filter_at
filter-step zero i bytes h = absurd (omega arith)
filter-step (suc n) i bytes h = let e : suc n - 1 ≡ n = omega arith in ap (λ k. disjunction_at (filter_at k) i bytes) (sym e)
