use Rattle.std.proofs.Common.{◌≡◌, sym, ◌∙◌, subst, ◌&&◌, true, false, cond, List, ℕ}
use Rattle.scim_value.specs.declared.uniqueness.UniqueName.{UniqueName}
use Rattle.scim_shelf.specs.Owners.{is_among}
use Rattle.scim_shelf.specs.TextIndex.{is_same, is_noted, IsUnnoted}
use Rattle.scim_shelf.proofs.NotedLemmas.{taken_back}
use Rattle.scim_shelf.proofs.OwnerLemmas.{on_err}
use Rattle.scim_shelf.proofs.collections.Collection.insert_noted.Goals as goal

pub returns-in_err-note-clause-err_noted : goal.returns-in_err-note-clause-err_noted
returns-in_err-note-clause-err_noted c = on_err c.from_residual.result (λ unnoted.
    c.in_err-note.ensures.err (subst (IsUnnoted c.args.self.now.texts c.args.come.now) (sym c.id-id.ensures) unnoted))

pub returns-clause-err_noted : goal.returns-clause-err_noted
returns-clause-err_noted c = λ unnoted.
    let old = c.args.self.now.texts in
    let mid = c.note.new.self in
    let come = c.args.come.now in
    let id = c.args.resource.id in
    let same : c.id-id.result ≡ id = c.id-id.ensures in
    let others = λ (q : UniqueName) (i : List ℕ) (other : (is_among q come && is_same id i) ≡ false).
    c.in_ok-note.ensures.ok q i ∙ (λ j. cond (is_among q come && is_same (same j) i) true (is_noted old q i)) ∙ (λ j. cond (other j) true (is_noted old q i)) in
    let left = λ (q : UniqueName) (i : List ℕ). c.forget.ensures q i ∙ (λ j. cond (is_among q come && is_same (same j) i) false (is_noted mid q i)) in
    taken_back old mid c.forget.new.self come id unnoted others left
