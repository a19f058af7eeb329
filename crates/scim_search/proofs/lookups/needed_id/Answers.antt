use Rattle.std.proofs.Common.{sym, subst, ℕ, List}
use Rattle.scim_schema.specs.declared.Leaf.{Leaf}
use Rattle.scim_query.specs.Needed.{NeedsText}
use Rattle.scim_search.proofs.LookupLemmas.{only_with_id}
use Rattle.scim_search.proofs.lookups.needed_id.Goals as goal

pub returns : goal.returns
returns c =
    let filter = c.args.query.now.filter in
    let text = c.as_str.result.now in
    let given : NeedsText filter c.simple.result text = subst (λ (t : List ℕ). NeedsText filter c.simple.result t) (sym c.as_str.ensures) c.in_ok-text.ensures in
    only_with_id filter text c.read.result (subst (λ (l : Leaf). NeedsText filter l text) c.simple.ensures given) c.read.ensures.value c.read.ensures.id
