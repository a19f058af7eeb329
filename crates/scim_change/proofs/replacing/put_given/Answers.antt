use Rattle.scim_change.proofs.PutLemmas.{values_fit}
use Rattle.scim_change.proofs.replacing.put_given.Goals as goal

pub put-requires : goal.put-requires
put-requires c =
    rw (c.in_ok-values.ensures, c.values_among.ensures) (values_fit c.args.part.kind c.args.unit c.args.given.now c.requires)
