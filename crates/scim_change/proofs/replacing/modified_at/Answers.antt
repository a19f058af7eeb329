use Rattle.scim_change.proofs.ReplaceLemmas.{modified_fits}
use Rattle.scim_change.proofs.replacing.modified_at.Goals as goal

pub put-requires : goal.put-requires
put-requires c =
    rw (c.in_ok-push.ensures.items, c.in_ok-values.ensures.items, c.in_ok-last_modified.ensures.row, c.unit_of.ensures, c.of-leaf.ensures)
    (modified_fits c.args.part.kind c.args.moment c.in_ok-last_modified.ensures.bound)
