use Rattle.std.proofs.Common.{sym, subst}
use Rattle.scim_patch_steps.specs.code.Groups.{IsTaken}
use Rattle.scim_patch_steps.proofs.GroupLemmas.{searchable, taken_none, taken_one}
use Rattle.scim_patch_steps.proofs.unit_rows.taken.Goals as goal

pub returns-in-Ok : goal.returns-in-Ok
returns-in-Ok c =
    let range = rw c.as_slice.ensures.value at c.in-Ok.ensures.range in
    let ties = rw c.as_slice.ensures.value at c.in-Ok.ensures.searched in
    taken_one c.args.unit c.args.groups.now.items c.in-Ok.index c.remove-rows.result c.remove-rows.new.self.items c.requires range ties c.remove-rows.ensures.value c.remove-rows.ensures.items

pub returns-in-Err : goal.returns-in-Err
returns-in-Err c =
    let range = rw c.as_slice.ensures.value at c.in-Err.ensures.range in
    let searched = rw c.as_slice.ensures.value at c.in-Err.ensures.searched in
    subst (λ own. IsTaken c.args.unit c.args.groups.now.items c.in-Err.index own c.args.groups.now.items) (sym c.new.ensures.items)
    (taken_none c.args.unit c.args.groups.now.items c.in-Err.index c.requires range (searched (searchable c.args.unit c.args.groups.now.items c.requires)))
