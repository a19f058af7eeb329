use Rattle.std.proofs.Common.{sym, ◌∙◌, subst}
use Rattle.std.specs.Option.{option_copied}
use Rattle.scim_shelf.specs.declared.changes.Change.{Change}
use Rattle.scim_shelf.specs.Stores.{IsOld}
use Rattle.scim_shelf.proofs.NameLemmas.{found_of_id}
use Rattle.scim_shelf.proofs.collections.Collection.old_of.Goals as goal

pub returns-in-Keep : goal.returns-in-Keep
returns-in-Keep c = λ cs are. subst (λ (change : Change). IsOld cs change (option_copied c.with_id.result)) (sym c.in-Keep.is) (sym (found_of_id c.in-Keep.resource.id cs) ∙ sym (rw (c.id.ensures) at (c.with_id.ensures cs are)))

pub returns-in-Remove : goal.returns-in-Remove
returns-in-Remove c = λ cs are. subst (λ (change : Change). IsOld cs change (option_copied c.with_id-in-Remove.result)) (sym c.in-Remove.is) (sym (found_of_id c.in-Remove.id cs) ∙ sym (c.with_id-in-Remove.ensures cs are))
