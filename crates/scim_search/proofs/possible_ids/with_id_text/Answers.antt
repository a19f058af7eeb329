use Rattle.std.proofs.Common.{◌≡◌, sym, ◌∙◌, subst, ℕ, List, true}
use Rattle.std.proofs.lemmas.Bool.{false≢true}
use Rattle.scim_cell.specs.Ids.{IsIdText}
use Rattle.scim_cell.proofs.Facts.{IsIdText-id_text, id_text-injective}
use Rattle.scim_search.specs.PossibleIds.{has_id}
use Rattle.scim_search.proofs.PossibleIdLemmas.{added}
use Rattle.scim_search.proofs.possible_ids.with_id_text.Goals as goal

pub returns-in_default-clause-own : goal.returns-in_default-clause-own
returns-in_default-clause-own c id valid same = absurd (false≢true (c.in_default.ensures.form.1 (subst IsIdText (sym same) (IsIdText-id_text id))))

pub returns-clause-kept : goal.returns-clause-kept
returns-clause-kept c id valid has = (added c.in-Some.id c.args.ids c.insert.new.self c.in_ok-insert.ensures.updates.0).0 id has

pub returns-clause-own : goal.returns-clause-own
returns-clause-own c id valid same =
    subst (λ (i : List ℕ). has_id c.insert.new.self i ≡ true) (id_text-injective c.in-Some.id id c.in-Some.ensures.id valid (sym c.in-Some.ensures.value ∙ same))
    (added c.in-Some.id c.args.ids c.insert.new.self c.in_ok-insert.ensures.updates.0).1
