use Rattle.std.proofs.Common.{rules, ◌≡◌, true, false}
use Rattle.sqlite.specs.Held.{state}
use Rattle.scim_store_tables.proofs.ToldLemmas.{told_both, told_failed, told_as, told_so}
use Rattle.scim_store_tables.proofs.database_kinds.are_old_keyed.Goals as goal

pub returns-in_err-are_keyed : goal.returns-in_err-are_keyed
returns-in_err-are_keyed g c = λ v.
    let old = state g.S.Store c.args.conn.now in
    let a = state g.S.Store c.are_keyed.new.conn in
    told_failed _ _ old a c.in_err-are_keyed.field-0.0 c.from_residual.result c.from_residual.ensures.0 (c.in_err-are_keyed.ensures v tt)

pub returns-then-not-branch : goal.returns-then-not-branch
returns-then-not-branch g c = λ v.
    let old = state g.S.Store c.args.conn.now in
    let a = state g.S.Store c.are_keyed.new.conn in
    let fails : c.in_ok-are_keyed.field-0 ≡ false = search rules in
    told_as _ _ old a c.in_ok-are_keyed.field-0 _ (c.in_ok-are_keyed.ensures v tt)
    (λ schema all. record { yes = λ (e : false ≡ true). absurd cc; no = λ _ keyed. all.no fails keyed.settings })

pub returns-in_err-are_keyed-2 : goal.returns-in_err-are_keyed-2
returns-in_err-are_keyed-2 g c = λ v.
    let old = state g.S.Store c.args.conn.now in
    let a = state g.S.Store c.are_keyed.new.conn in
    let b = state g.S.Store c.are_keyed-2.new.conn in
    told_failed _ _ old b c.in_err-are_keyed-2.field-0.0 c.from_residual-in_err-are_keyed-2.result c.from_residual-in_err-are_keyed-2.ensures.0
    (told_both _ _ old a b _ _ (c.in_ok-are_keyed.ensures v tt) (c.in_err-are_keyed-2.ensures v tt))

pub returns-then-not-branch-2 : goal.returns-then-not-branch-2
returns-then-not-branch-2 g c = λ v.
    let old = state g.S.Store c.args.conn.now in
    let a = state g.S.Store c.are_keyed.new.conn in
    let b = state g.S.Store c.are_keyed-2.new.conn in
    let fails : c.in_ok-are_keyed-2.field-0 ≡ false = search rules in
    told_as _ _ old b c.in_ok-are_keyed-2.field-0 _ (told_both _ _ old a b _ _ (c.in_ok-are_keyed.ensures v tt) (c.in_ok-are_keyed-2.ensures v tt))
    (λ schema all. record { yes = λ (e : false ≡ true). absurd cc; no = λ _ keyed. all.1.no fails keyed.resources })

pub returns-in_err-are_keyed-3 : goal.returns-in_err-are_keyed-3
returns-in_err-are_keyed-3 g c = λ v.
    let old = state g.S.Store c.args.conn.now in
    let a = state g.S.Store c.are_keyed.new.conn in
    let b = state g.S.Store c.are_keyed-2.new.conn in
    let d = state g.S.Store c.are_keyed-3.new.conn in
    told_failed _ _ old d c.in_err-are_keyed-3.field-0.0 c.from_residual-in_err-are_keyed-3.result c.from_residual-in_err-are_keyed-3.ensures.0
    (told_both _ _ old a d _ _ (c.in_ok-are_keyed.ensures v tt) (told_both _ _ a b d _ _ (c.in_ok-are_keyed-2.ensures v tt) (c.in_err-are_keyed-3.ensures v tt)))

pub returns-then-not-branch-3 : goal.returns-then-not-branch-3
returns-then-not-branch-3 g c = λ v.
    let old = state g.S.Store c.args.conn.now in
    let a = state g.S.Store c.are_keyed.new.conn in
    let b = state g.S.Store c.are_keyed-2.new.conn in
    let d = state g.S.Store c.are_keyed-3.new.conn in
    let fails : c.in_ok-are_keyed-3.field-0 ≡ false = search rules in
    told_as _ _ old d c.in_ok-are_keyed-3.field-0 _
    (told_both _ _ old a d _ _ (c.in_ok-are_keyed.ensures v tt) (told_both _ _ a b d _ _ (c.in_ok-are_keyed-2.ensures v tt) (c.in_ok-are_keyed-3.ensures v tt)))
    (λ schema all. record { yes = λ (e : false ≡ true). absurd cc; no = λ _ keyed. all.1.1.no fails keyed.names })

pub returns : goal.returns
returns g c = λ v.
    let old = state g.S.Store c.args.conn.now in
    let a = state g.S.Store c.are_keyed.new.conn in
    let b = state g.S.Store c.are_keyed-2.new.conn in
    let d = state g.S.Store c.are_keyed-3.new.conn in
    let new = state g.S.Store c.are_keyed-4.new.conn in
    let settings : c.in_ok-are_keyed.field-0 ≡ true = search rules in
    let resources : c.in_ok-are_keyed-2.field-0 ≡ true = search rules in
    let names : c.in_ok-are_keyed-3.field-0 ≡ true = search rules in
    told_so _ _ old new c.are_keyed-4.result
    (λ keyed all. record {
      yes = λ is. record { settings = all.0.yes settings; resources = all.1.0.yes resources; names = all.1.1.0.yes names; members = all.1.1.1.yes is; secrets = tt };
      no = λ fails whole. all.1.1.1.no fails whole.members;
    })
    (told_both _ _ old a new _ _ (c.in_ok-are_keyed.ensures v tt) (told_both _ _ a b new _ _ (c.in_ok-are_keyed-2.ensures v tt) (told_both _ _ b d new _ _ (c.in_ok-are_keyed-3.ensures v tt) (c.are_keyed-4.ensures v tt))))
