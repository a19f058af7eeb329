use Rattle.std.proofs.Common.{◌∙◌, sym, refl}
use Rattle.scim_query.proofs.KeyLemmas.{none_left}
use Rattle.scim_query.proofs.sort_keys.is_left.Goals as goal

pub returns-else-may_keep : goal.returns-else-may_keep
returns-else-may_keep g c =
    c.if-may_keep.false ∙ sym (none_left (g.T.RowTest.keeps c.args.test.now c.args.value.now) c.args.value.now.fields (c.if-may_keep.ensures refl))
