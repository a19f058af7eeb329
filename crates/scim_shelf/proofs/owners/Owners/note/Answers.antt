use Rattle.std.proofs.Common.{rules}
use Rattle.scim_shelf.specs.Owners.{AreUnowned}
use Rattle.scim_shelf.proofs.OwnerLemmas.{owners_back}
use Rattle.scim_shelf.proofs.owners.Owners.note.Goals as goal

pub returns-then-is_err-clause-err : goal.returns-then-is_err-clause-err
returns-then-is_err-clause-err c =
    let old = c.args.self.now in
    let names = c.args.names.now in
    let back = λ (unowned : AreUnowned old names).
    owners_back old c.note_each-noted.new.self c.forget.new.self names unowned c.note_each-noted.ensures.others c.forget.ensures in
    search (rules, back)
