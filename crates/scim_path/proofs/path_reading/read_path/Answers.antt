use Rattle.scim_path.proofs.TargetLemmas.{named_is}
use Rattle.scim_path.proofs.path_reading.read_path.Goals as goal

pub returns-clause-target : goal.returns-clause-target
returns-clause-target c = named_is c.texts_name_one_thing.ensures c.args.kind c.args.text.now c.path_named.result c.path_named.ensures
