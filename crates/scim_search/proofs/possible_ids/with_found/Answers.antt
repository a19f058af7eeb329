use Rattle.std.proofs.Common.{◌≡◌, sym, subst, ℕ, List, true}
use Rattle.scim_search.specs.PossibleIds.{has_id, HasFound}
use Rattle.scim_search.proofs.PossibleIdLemmas.{added}
use Rattle.scim_search.proofs.possible_ids.with_found.Goals as goal

pub returns-clause-kept : goal.returns-clause-kept
returns-clause-kept c id valid has = (added c.id.result c.args.ids c.insert.new.self c.in_ok-insert.ensures.updates.0).0 id has

pub returns-clause-own : goal.returns-clause-own
returns-clause-own c =
    subst (HasFound c.insert.new.self) (sym c.in-Some.is)
    (subst (λ (i : List ℕ). has_id c.insert.new.self i ≡ true) c.id.ensures (added c.id.result c.args.ids c.insert.new.self c.in_ok-insert.ensures.updates.0).1)
