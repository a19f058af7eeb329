use Rattle.std.proofs.Common.{◌≡◌, ◌≢◌, ◌∙◌, ap, sym, subst, ◌++◌, List, ℕ, [], Bor}
use Rattle.std.specs.Prelude.{AllPairs}
use Rattle.std.proofs.lemmas.List.{append-nil}
use Rattle.scim_store_rows.specs.Stands.{is_among}
use Rattle.scim_store.proofs.ValueLemmas.{texts_of, among_texts, once_each}
use Rattle.scim_store.proofs.changes.copies_of.Goals as goal

pub returns-clause-listed : goal.returns-clause-listed
returns-clause-listed c = λ v.
    let copies = c.loop-text.copies.items in
    let none : c.loop-text.text-iterator ≡ [] = c.in-None.ensures.steps.0 in
    let all = sym (append-nil copies) ∙ ap (λ (ts : List (Bor (List ℕ))). copies ++ texts_of ts) (sym none) ∙ c.loop-text.invariant in
    ap (is_among v) all ∙ sym (among_texts v c.args.texts.now.keys)

pub returns-clause-once : goal.returns-clause-once
returns-clause-once c =
    let copies = c.loop-text.copies.items in
    let none : c.loop-text.text-iterator ≡ [] = c.in-None.ensures.steps.0 in
    let all = sym (append-nil copies) ∙ ap (λ (ts : List (Bor (List ℕ))). copies ++ texts_of ts) (sym none) ∙ c.loop-text.invariant in
    subst (λ (xs : List (List ℕ)). AllPairs (λ v w. v ≢ w) xs) (sym all) (once_each c.args.texts.now.keys c.into_iter-text-iterator.ensures.into_iter_gives.4)
