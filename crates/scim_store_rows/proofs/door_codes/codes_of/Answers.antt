use Rattle.std.proofs.Common.{arith, ◌+◌, ◌≡◌, ◌∙◌, ◌++◌, ◌∷◌, [], take, sym, ap}
use Rattle.std.proofs.lemmas.List.{take_more}
use Rattle.scim_store_rows.proofs.CodeLemmas.{codes_push}
use Rattle.scim_store_rows.proofs.door_codes.codes_of.Goals as goal

pub loop-row-preserved : goal.loop-row-preserved
loop-row-preserved c = λ id.
    (let taken : take (c.loop-row.row-index + 1) c.args.rows.now ≡ take c.loop-row.row-index c.args.rows.now ++ c.row-item.result ∷ [] = take_more c.args.rows.now c.loop-row.row-index c.row-item.result (omega arith) ∙ ap (λ y. take c.loop-row.row-index c.args.rows.now ++ y ∷ []) (sym c.row-item.is) in
    rw taken (codes_push (take c.loop-row.row-index c.args.rows.now) c.row-item.result c.loop-row.codes c.add_code.new.codes c.loop-row.invariant c.in_ok-add_code.ensures id))
