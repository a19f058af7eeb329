use Rattle.std.specs.List.{list_any}
use Rattle.std.proofs.lemmas.Bool.Decides.{same_from_decides}
use Rattle.std.proofs.lemmas.List.Elements.{contains_decides, Decides-contains}
use Rattle.std.proofs.lemmas.Map.Made.{is_member-Decides}
use Rattle.scim_schema.specs.Units.{is_same_leaf}
use Rattle.scim_schema.proofs.Facts.{is_same_leaf-Decides}
use Rattle.scim_search.proofs.possible_ids.is_among.Goals as goal

pub returns : goal.returns
returns c =
    let leaf = c.args.leaf in
    let leaves = c.args.leaves.now in
    same_from_decides c.contains.result (list_any (is_same_leaf leaf) leaves)
    (Decides-contains leaves leaf c.contains.result (contains_decides is_same_leaf is_same_leaf-Decides leaves leaf c.contains.result c.contains.ensures.cases))
    (is_member-Decides is_same_leaf-Decides leaves leaf)
