-- What the answer of a query on one table has.
use Rattle.std.proofs.Common.{◌≡◌, ℕ, List, [], ◌∷◌, ◌++◌, map, filter, Bool, true, false, cond, refl, sym, ap, subst, ◌∙◌}
use Rattle.std.specs.Prelude.{IsPermutation, None, unwrap_or}
use Rattle.std.specs.List.{list_all, flat_map}
use Rattle.std.proofs.lemmas.List.Sorted.{IsPermutation-map}
use Rattle.sqlite_trees.proofs.ListLemmas.{map-map}
use Rattle.sqlite.specs.declared.types.Value.TheVariants.{Null}
use Rattle.sqlite_value.specs.declared.keys.Key.{Key}
use Rattle.sqlite.specs.Order.{Row}
use Rattle.sqlite.specs.Query.{Query, end, IsAnswer, matches_as, output, Output}
use Rattle.sqlite.specs.Term.{Term, holds, eval_all}
use Rattle.sqlite.specs.Tree.{Trees}
use Rattle.sqlite.specs.Program.{overlay}
use Rattle.scim_store_tables.specs.Queries.{one_table}

pick : (b : Bool) (x : List Row) → unwrap_or (cond b None None) x ≡ x
pick true x = refl
pick false x = refl

-- a tree that no table of WITH hides
pub no_lets : (trees : Trees) (t : ℕ) → overlay trees [] t ≡ trees t
no_lets trees t = pick _ (trees t)

module _ (t : ℕ) (test : List Term) (project : List Term) (order : List (Term × Key)) where
  abbrev query : Query
  query = one_table t test project order

  abbrev pub passes : Row → Row → Bool
  passes params r = list_all (holds (params ∷ r ∷ [])) test

  matched : (params : Row) (rows : List Row) → flat_map (λ r. matches_as Null (λ _. []) test end (params ∷ r ∷ [])) rows ≡ map (λ r. params ∷ r ∷ []) (filter (passes params) rows)
  matched params [] = refl
  matched params (r ∷ rows) =
      elim (passes params r) as (λ b. cond b ((params ∷ r ∷ []) ∷ []) [] ++ flat_map (λ r. matches_as Null (λ _. []) test end (params ∷ r ∷ [])) rows ≡ map (λ r. params ∷ r ∷ []) (cond b (r ∷ filter (passes params) rows) (filter (passes params) rows)))
      [ true ↦ ap (λ l. (params ∷ r ∷ []) ∷ l) (matched params rows) | false ↦ matched params rows ]

  -- what the answer is ordered from
  pub outputs : (db : Trees) (params : Row) (rows : List Row) (a : IsAnswer query db params rows) → IsPermutation (map (λ r. output query (params ∷ r ∷ [])) (filter (passes params) (db t))) a.ordered
  outputs db params rows a =
      let found = filter (passes params) (db t) in
      let staged : a.staged ≡ map (λ r. params ∷ r ∷ []) found = a.grouped ∙ matched params (db t) in
      let kept : a.kept ≡ map (λ r. output query (params ∷ r ∷ [])) found = a.distinct ∙ ap (map (output query)) staged ∙ map-map _ _ _ in
      subst (λ xs. IsPermutation xs a.ordered) kept a.same

  -- the rows of the answer are those of the table that pass, in some order, and each shows its columns
  pub selected : (db : Trees) (params : Row) (rows : List Row) → IsAnswer query db params rows → IsPermutation (map (λ r. eval_all project (params ∷ r ∷ [])) (filter (passes params) (db t))) rows
  selected db params rows a =
      let shown = λ (r : Row). eval_all project (params ∷ r ∷ []) in
      let found = filter (passes params) (db t) in
      let staged : a.staged ≡ map (λ r. params ∷ r ∷ []) found = a.grouped ∙ matched params (db t) in
      let kept : a.kept ≡ map (output query) (map (λ r. params ∷ r ∷ []) found) = a.distinct ∙ ap (map (output query)) staged in
      let firsts : map (λ (o : Output). o.1) a.kept ≡ map shown found = ap (map (λ (o : Output). o.1)) kept ∙ map-map _ _ _ ∙ map-map _ _ _ in
      subst (λ xs. IsPermutation (map shown found) xs) (sym a.shown) (subst (λ xs. IsPermutation xs (map (λ (o : Output). o.1) a.ordered)) firsts (IsPermutation-map (λ (o : Output). o.1) a.kept a.ordered a.same))
