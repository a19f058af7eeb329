use Rattle.std.proofs.Common.{refl}
use Rattle.sqlite.specs.Held.{state}
use Rattle.scim_store_tables.specs.declared.versions.Version.TheVariants.{One, Two}
use Rattle.scim_store_tables.proofs.ToldLemmas.{told_both, told_failed, told_as}
use Rattle.scim_store_tables.proofs.database_kinds.read_all_rows.Goals as goal

pub returns-in_err-rows : goal.returns-in_err-rows
returns-in_err-rows g c =
    told_failed _ _ (state g.S.Store c.args.conn.now) (state g.S.Store c.read_old_rows.new.conn) c.in_err-rows.field-0.0 c.from_residual.result c.from_residual.ensures.0 (c.in_err-rows.ensures c.args.version)

pub returns-in-One : goal.returns-in-One
returns-in-One g c = rw c.in-One.is (c.in_ok-rows.ensures One)

pub returns-in_err-rows-in-Two : goal.returns-in_err-rows-in-Two
returns-in_err-rows-in-Two g c =
    let old = state g.S.Store c.args.conn.now in
    let a = state g.S.Store c.read_old_rows.new.conn in
    let new = state g.S.Store c.read_rows.new.conn in
    rw c.in-Two.is (told_failed _ _ old new c.in_err-rows-in-Two.field-0.0 c.from_residual-in_err-rows-in-Two.result c.from_residual-in_err-rows-in-Two.ensures.0
    (told_both _ _ old a new _ _ (c.in_ok-rows.ensures Two) (c.in_err-rows-in-Two.ensures Two refl)))

pub returns-in_ok-rows-in-Two : goal.returns-in_ok-rows-in-Two
returns-in_ok-rows-in-Two g c =
    let old = state g.S.Store c.args.conn.now in
    let a = state g.S.Store c.read_old_rows.new.conn in
    let new = state g.S.Store c.read_rows.new.conn in
    rw c.in-Two.is (told_as _ _ old new c.in_ok-rows-in-Two.field-0 _ (told_both _ _ old a new _ _ (c.in_ok-rows.ensures Two) (c.in_ok-rows-in-Two.ensures Two refl))
    (λ schema all. record { resources = all.0.resources; names = all.0.names; members = all.0.members; secrets = all.1 }))
