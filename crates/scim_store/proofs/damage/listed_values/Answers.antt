use Rattle.std.proofs.Common.{rules, ◌≡◌, ◌∙◌, ap, sym, subst, ◌++◌, List, ℕ, [], Bor}
use Rattle.std.specs.Ordering.{nat_cmp}
use Rattle.std.specs.Cmp.Lexicographic.{slice_cmp}
use Rattle.std.specs.List.Sorted.{IsStrictlySortedBy}
use Rattle.std.specs.Map.Iter.{deref}
use Rattle.std.proofs.lemmas.List.{append-nil}
use Rattle.std.proofs.lemmas.Map.Iter.{rest_all}
use Rattle.scim_store_rows.specs.Stands.{is_among}
use Rattle.scim_store.proofs.ValueLemmas.{texts_of, among_texts}
use Rattle.scim_store.proofs.DamageLemmas.{texts_rise}
use Rattle.scim_store.proofs.damage.listed_values.Goals as goal

pub returns-clause-listed : goal.returns-clause-listed
returns-clause-listed c = λ v.
    (let listed = c.loop-value.listed.items in
    let keys = c.in_ok-values.values.keys in
    let none : c.loop-value.value-iterator ≡ [] = rest_all deref c.loop-value.value-iterator c.next.new.self c.next.result c.in-None.is c.next.ensures.steps in
    let all : listed ≡ texts_of keys = sym (append-nil listed) ∙ ap (λ (ts : List (Bor (List ℕ))). listed ++ texts_of ts) (sym none) ∙ c.loop-value.invariant ∙ ap texts_of (search rules) in
    ap (is_among v) all ∙ sym (among_texts v keys) ∙ c.in_ok-values.ensures v)

pub returns-clause-rising : goal.returns-clause-rising
returns-clause-rising c =
    let listed = c.loop-value.listed.items in
    let keys = c.in_ok-values.values.keys in
    let none : c.loop-value.value-iterator ≡ [] = rest_all deref c.loop-value.value-iterator c.next.new.self c.next.result c.in-None.is c.next.ensures.steps in
    let all : listed ≡ texts_of keys = sym (append-nil listed) ∙ ap (λ (ts : List (Bor (List ℕ))). listed ++ texts_of ts) (sym none) ∙ c.loop-value.invariant ∙ ap texts_of (search rules) in
    subst (IsStrictlySortedBy (slice_cmp nat_cmp)) (sym all) (texts_rise keys (search rules))
