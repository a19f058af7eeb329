use Rattle.std.proofs.Common.{◌∙◌, ap, ℕ, [], ◌++◌, ◌∷◌}
use Rattle.std.specs.Prelude.{Option, Some, vec_len}
use Rattle.std.specs.Global.{Vec}
use Rattle.std.proofs.lemmas.Result.{on_ok_weaker}
use Rattle.scim_view.specs.code.Index.{noted, positions_in}
use Rattle.scim_view.proofs.IndexLemmas.{is_there, noted_at}
use Rattle.scim_view.proofs.group_index.GroupIndex.add_member.Goals as goal

pub returns-in-Some-clause-positions : goal.returns-in-Some-clause-positions
returns-in-Some-clause-positions c =
    let positions = c.note.new.positions in
    let is = c.in-Some.ensures.value in
    let n = vec_len c.args.self.now.groups in
    on_ok_weaker c.note.result
    (λ done.
    noted_at c.args.id n c.args.self.now.by_member (c.get_mut.follows.lender positions) (Some positions) ((c.get_mut.follows.holds positions).3 (is_there _ _ is))
    (done ∙ ap (λ (k : ℕ). noted k c.in-Some.positions.now.items) c.len-position.ensures ∙ ap (λ (o : Option (Vec ℕ)). noted n (positions_in o)) is))
    c.note.ensures

pub returns-clause-positions : goal.returns-clause-positions
returns-clause-positions c =
    let same = c.get_mut.follows.holds-at-none in
    let n = vec_len c.args.self.now.groups in
    let updates = rw same at c.in_ok-insert.ensures.updates in
    noted_at c.args.id n c.args.self.now.by_member c.insert.new.self (Some c.push.new.values) updates
    (c.in_ok-push.ensures.items ∙ (λ i. c.new-positions.ensures.items i ++ c.len-position.ensures i ∷ []) ∙ ap (λ (o : Option (Vec ℕ)). noted n (positions_in o)) c.in_default.ensures.value)
