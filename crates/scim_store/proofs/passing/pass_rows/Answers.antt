use Rattle.std.proofs.Common.{◌≡◌, ◌+◌, ◌++◌, ◌∷◌, [], ◌∙◌, List, refl, sym, ap, subst, take}
use Rattle.std.specs.Prelude.{IfSome}
use Rattle.std.proofs.lemmas.List.{take_more}
use Rattle.sqlite.specs.Order.{Row}
use Rattle.scim_store.specs.code.Passing.{Passes, PassesAll}
use Rattle.scim_store.proofs.PassLemmas.{passes_none, passes_more}
use Rattle.scim_store.proofs.passing.pass_rows.Goals as goal

pub loop-row-init : goal.loop-row-init
loop-row-init g c = passes_none g.V.Visitor.takes c.args.version c.args.base.now c.args.tables.now _ c.args.visitor.now refl refl refl

pub loop-row-preserved : goal.loop-row-preserved
loop-row-preserved g c =
    let version = c.args.version in
    let base = c.args.base.now in
    let tables = c.args.tables.now in
    let all = c.args.rows.now in
    let i = c.loop-row.row-index in
    let row = c.row-item.result in
    let before = c.args.visitor.now in
    let between = c.loop-row.visitor in
    let after = c.pass_row.new.visitor in
    let more : take (i + 1) all ≡ take i all ++ row ∷ [] = take_more all i row c.loop-row-test.true ∙ ap (λ (r : Row). take i all ++ r ∷ []) (sym c.row-item.is) in
    let one = subst (λ found. IfSome found (λ next. Passes g.V.Visitor.takes version base tables row c.loop-row.passed next between after)) c.in-Some.is c.in_ok-next.ensures in
    subst (λ (rs : List Row). PassesAll g.V.Visitor.takes version base tables rs c.in-Some.next before after) (sym more)
    (passes_more g.V.Visitor.takes version base tables (take i all) row c.loop-row.passed c.in-Some.next before between after c.loop-row.invariant one)
