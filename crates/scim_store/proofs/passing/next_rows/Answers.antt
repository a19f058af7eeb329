use Rattle.std.proofs.Common.{◌≡◌, ◌+◌, ◌-◌, ◌++◌, ◌∙◌, sym, take, drop, arith}
use Rattle.std.proofs.lemmas.List.{take-append-drop, drop-drop}
use Rattle.scim_store.proofs.passing.next_rows.Goals as goal

pub returns : goal.returns
returns c =
    let rows = c.args.rows.now in
    let p = c.args.place in
    let n = c.args.count in
    let long : p + n - p ≡ n = omega arith in
    sym (take-append-drop n (drop p rows)) ∙ (λ i. take (sym long i) (drop p rows) ++ drop-drop n p rows i)
