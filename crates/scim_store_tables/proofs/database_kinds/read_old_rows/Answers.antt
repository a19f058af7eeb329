use Rattle.std.proofs.Common.{rules, ◌≡◌, [], ◌∷◌, sym, subst}
use Rattle.std.proofs.lemmas.List.Sorted.{IsPermutation-refl}
use Rattle.sqlite.specs.Held.{state}
use Rattle.scim_store_tables.specs.Whole.{AreInOrder}
use Rattle.scim_store_tables.proofs.ToldLemmas.{told_both, told_failed, told_as}
use Rattle.scim_store_tables.proofs.database_kinds.read_old_rows.Goals as goal

pub returns-in_err-resources : goal.returns-in_err-resources
returns-in_err-resources g c = λ v.
    told_failed _ _ (state g.S.Store c.args.conn.now) (state g.S.Store c.read_rows.new.conn) c.in_err-resources.field-0.0 c.from_residual.result c.from_residual.ensures.0 (c.in_err-resources.ensures v tt)

pub returns-in_err-names : goal.returns-in_err-names
returns-in_err-names g c = λ v.
    let old = state g.S.Store c.args.conn.now in
    let a = state g.S.Store c.read_rows.new.conn in
    let b = state g.S.Store c.read_rows-2.new.conn in
    told_failed _ _ old b c.in_err-names.field-0.0 c.from_residual-in_err-names.result c.from_residual-in_err-names.ensures.0
    (told_both _ _ old a b _ _ (c.in_ok-resources.ensures v tt) (c.in_err-names.ensures v tt))

pub returns-in_err-members : goal.returns-in_err-members
returns-in_err-members g c = λ v.
    let old = state g.S.Store c.args.conn.now in
    let a = state g.S.Store c.read_rows.new.conn in
    let b = state g.S.Store c.read_rows-2.new.conn in
    let d = state g.S.Store c.read_rows-3.new.conn in
    told_failed _ _ old d c.in_err-members.field-0.0 c.from_residual-in_err-members.result c.from_residual-in_err-members.ensures.0
    (told_both _ _ old a d _ _ (c.in_ok-resources.ensures v tt) (told_both _ _ a b d _ _ (c.in_ok-names.ensures v tt) (c.in_err-members.ensures v tt)))

pub returns : goal.returns
returns g c = λ v.
    let old = state g.S.Store c.args.conn.now in
    let a = state g.S.Store c.read_rows.new.conn in
    let b = state g.S.Store c.read_rows-2.new.conn in
    let new = state g.S.Store c.read_rows-3.new.conn in
    let none : c.new.result.items ≡ [] = search rules in
    told_as _ _ old new c.in_ok-members.members _
    (told_both _ _ old a new _ _ (c.in_ok-resources.ensures v tt) (told_both _ _ a b new _ _ (c.in_ok-names.ensures v tt) (c.in_ok-members.ensures v tt)))
    (λ schema all. record { resources = all.0; names = all.1.0; members = all.1.1; secrets = subst (AreInOrder (0 ∷ []) []) (sym none) (record { same = IsPermutation-refl []; order = tt }) })
