use Rattle.std.proofs.Common.{rules}
use Rattle.scim_shelf.specs.TextIndex.{IsUnnoted}
use Rattle.scim_shelf.proofs.NotedLemmas.{taken_back}
use Rattle.scim_shelf.proofs.text_index.TextIndex.note.Goals as goal

pub returns-then-is_err-clause-err : goal.returns-then-is_err-clause-err
returns-then-is_err-clause-err c =
    let old = c.args.self.now in
    let texts = c.args.texts.now in
    let back = λ (unnoted : IsUnnoted old texts c.args.id).
    taken_back old c.note_each-noted.new.self c.forget.new.self texts c.args.id unnoted c.note_each-noted.ensures.others c.forget.ensures in
    search (rules, back)
