use Rattle.std.proofs.Common.{◌≡◌, true, false, sym, ◌∙◌}
use Rattle.scim_store_rows.proofs.BackLemmas.{no_leaf_named}
use Rattle.scim_store_rows.proofs.leaf_paths.leaf_of_path.Goals as goal

pub returns-else-is_any_leaf : goal.returns-else-is_any_leaf
returns-else-is_any_leaf c = no_leaf_named c.args.path.now c.in_ok-leaf.leaf c.in_ok-leaf.ensures.1 (λ known. (let both : false ≡ true = sym c.if-is_any_leaf.false ∙ c.is_any_leaf.ensures.1 known in cc))
