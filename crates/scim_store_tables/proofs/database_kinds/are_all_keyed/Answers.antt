use Rattle.std.proofs.Common.{rules, ◌≡◌, true, false, refl}
use Rattle.sqlite.specs.Held.{state}
use Rattle.scim_store_tables.specs.declared.versions.Version.TheVariants.{One, Two}
use Rattle.scim_store_tables.proofs.ToldLemmas.{told_both, told_failed, told_as, told_so}
use Rattle.scim_store_tables.proofs.database_kinds.are_all_keyed.Goals as goal

pub returns-in_err-are_old_keyed : goal.returns-in_err-are_old_keyed
returns-in_err-are_old_keyed g c =
    told_failed _ _ (state g.S.Store c.args.conn.now) (state g.S.Store c.are_old_keyed.new.conn) c.in_err-are_old_keyed.field-0.0 c.from_residual.result c.from_residual.ensures.0 (c.in_err-are_old_keyed.ensures c.args.version)

pub returns-then-not-branch : goal.returns-then-not-branch
returns-then-not-branch g c =
    let old = state g.S.Store c.args.conn.now in
    let a = state g.S.Store c.are_old_keyed.new.conn in
    let fails : c.in_ok-are_old_keyed.field-0 ≡ false = search rules in
    told_as _ _ old a c.in_ok-are_old_keyed.field-0 _ (c.in_ok-are_old_keyed.ensures c.args.version)
    (λ schema all. record { yes = λ (e : false ≡ true). absurd cc; no = λ _ keyed. all.no fails (record { settings = keyed.settings; resources = keyed.resources; names = keyed.names; members = keyed.members; secrets = tt }) })

pub returns-in-One : goal.returns-in-One
returns-in-One g c =
    let old = state g.S.Store c.args.conn.now in
    let a = state g.S.Store c.are_old_keyed.new.conn in
    let holds : c.in_ok-are_old_keyed.field-0 ≡ true = search rules in
    rw c.in-One.is (told_as _ _ old a c.in_ok-are_old_keyed.field-0 _ (c.in_ok-are_old_keyed.ensures One)
    (λ schema all. record { yes = λ _. all.yes holds; no = λ (e : true ≡ false). absurd cc }))

pub returns-in-Two : goal.returns-in-Two
returns-in-Two g c =
    let old = state g.S.Store c.args.conn.now in
    let a = state g.S.Store c.are_old_keyed.new.conn in
    let new = state g.S.Store c.are_keyed.new.conn in
    let holds : c.in_ok-are_old_keyed.field-0 ≡ true = search rules in
    rw c.in-Two.is (told_so _ _ old new c.are_keyed.result
    (λ keyed all. record {
      yes = λ is. (let it = all.0.yes holds in record { settings = it.settings; resources = it.resources; names = it.names; members = it.members; secrets = all.1.yes is });
      no = λ fails whole. all.1.no fails whole.secrets;
    })
    (told_both _ _ old a new _ _ (c.in_ok-are_old_keyed.ensures Two) (c.are_keyed.ensures Two refl)))
