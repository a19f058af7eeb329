use Rattle.std.proofs.Common.{refl, sym, subst, Option, None, Some}
use Rattle.std.specs.Option.{option_copied}
use Rattle.scim_cell.specs.Content.{Content}
use Rattle.scim_shelf.specs.declared.changes.Change.{Change}
use Rattle.scim_shelf.specs.Stores.{IsOld}
use Rattle.scim_store.specs.Edits.{KeepsBelow, AreEdits, Replaces}
use Rattle.scim_store.proofs.changes.edits_of.Goals as goal

pub returns-in_ok-edits-in-Keep : goal.returns-in_ok-edits-in-Keep
returns-in_ok-edits-in-Keep c = λ base cs.
    let r = c.in-Keep.resource in
    let e = c.in_ok-edits-in-Keep.edits in
    subst (λ (change : Change). IsOld cs change (option_copied c.args.old) → KeepsBelow base change → AreEdits base cs change (Some e)) (sym c.in-Keep.is) (λ was below.
    subst (λ (o : Option Content). Replaces base r.id o (Some r) e) (sym was)
    (c.in_ok-edits-in-Keep.ensures base below))

pub returns-in_ok-edits-in-Remove : goal.returns-in_ok-edits-in-Remove
returns-in_ok-edits-in-Remove c = λ base cs.
    let e = c.in_ok-edits-in-Remove.edits in
    subst (λ (change : Change). IsOld cs change (option_copied c.args.old) → KeepsBelow base change → AreEdits base cs change (Some e)) (sym c.in-Remove.is) (λ was below.
    subst (λ (o : Option Content). Replaces base c.in-Remove.id o None e) (sym was)
    (c.in_ok-edits-in-Remove.ensures.replaces base refl c.in_ok-edits-in-Remove.ensures.document))
