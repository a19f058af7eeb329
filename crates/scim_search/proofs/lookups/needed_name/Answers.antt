use Rattle.std.proofs.Common.{rules, sym, subst, List}
use Rattle.std.specs.Prelude.{All}
use Rattle.scim_schema.specs.declared.Leaf.{Leaf}
use Rattle.scim_value.specs.Uniqueness.{Name}
use Rattle.scim_shelf.specs.Stores.{has_name}
use Rattle.scim_search.specs.Lookups.{OnlyThose}
use Rattle.scim_search.proofs.NameLemmas.{NamesByText, names_by_text}
use Rattle.scim_search.proofs.lookups.needed_name.Goals as goal

pub returns-in-Some : goal.returns-in-Some
returns-in-Some c =
    let all : All (NamesByText c.args.kind) c.unique_leaves-leaf-items.result.now = subst (λ (ls : List Leaf). All (NamesByText c.args.kind) ls) (sym c.loop-leaf.invariant) (names_by_text c.args.kind) in
    let name = c.in_ok-known_name.ensures in
    subst (λ (n : Name). OnlyThose c.args.kind c.args.query.now.filter (has_name n)) (λ i. record { leaf = sym name.leaf i; text = sym name.text i })
    (all c.loop-leaf.leaf-index _ (search rules) c.args.query.now.filter c.in-Some.text.now c.in-Some.ensures)
