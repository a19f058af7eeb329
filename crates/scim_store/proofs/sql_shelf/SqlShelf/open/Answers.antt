use Rattle.std.proofs.Common.{◌≡◌, subst, sym, ap, IsTrue, ◌∙◌, length}
use Rattle.std.proofs.lemmas.Result.{IfOk-weaker, IfErr-weaker}
use Rattle.sqlite.specs.Held.{state}
use Rattle.sqlite.specs.State.{HasCleanDisk, Survives}
use Rattle.scim_shelf.specs.Stores.{Store}
use Rattle.scim_store_tables.specs.Reading.{Rests}
use Rattle.scim_store_tables.specs.declared.versions.Version.TheVariants.{One, Two}
use Rattle.scim_store_tables.proofs.Facts.{if_both}
use Rattle.scim_store_rows.specs.Finding.{StandsIn}
use Rattle.scim_store.specs.Beginning.{no_store}
use Rattle.scim_store.specs.Opening.{IsFor, IsOpenIf, HasCopiedIf, Examines}
use Rattle.scim_store.specs.Shelves.{IsKeptIn, HasOpened, LeavesBegun}
use Rattle.scim_store.specs.declared.examining.Examined.TheVariants.{Stands}
use Rattle.scim_store.proofs.ShelfLemmas.{clean_before}
use Rattle.scim_store.proofs.OpenLemmas.{opened_over, opened_begun, opened_migrated, copied_over, copied_migrated, rests_untouched, rests_behind, untouched_survives, begun_survives, migrated_survives, if_all, err_both}
use Rattle.scim_store.proofs.sql_shelf.SqlShelf.open.Goals as goal

pub returns-in-Err-examine-clause-refused : goal.returns-in-Err-examine-clause-refused
returns-in-Err-examine-clause-refused g c = λ _. c.open_fault_of.ensures c.args.base.now (state g.S.Store c.args.connection).now

-- ---- an empty database

pub returns-in-Empty-clause-refused : goal.returns-in-Empty-clause-refused
returns-in-Empty-clause-refused g c = IfErr-weaker c.begin.result _ _ (λ e refused _. refused c.args.base.now (state g.S.Store c.args.connection).now) c.begin.ensures.refused

pub returns-in-Empty-clause-opened : goal.returns-in-Empty-clause-opened
returns-in-Empty-clause-opened g c =
    let old = state g.S.Store c.args.connection in
    let mid = state g.S.Store c.examine.new.conn in
    IfOk-weaker c.begin.result _ _ (λ shelf kept clean.
    (let all = kept clean in
    opened_begun c.args.base.now old mid (state g.S.Store shelf.connection) shelf.rows (subst (Examines c.args.base.now old mid) c.in-Empty.is (c.in-Ok-examine.ensures.examined all.0)) all.1 all.2
    (λ empty. subst (λ b. IsKeptIn b (state g.S.Store shelf.connection) shelf.rows no_store) c.in-Ok.ensures (all.3 empty)))) c.begin.ensures.kept

pub returns-in-Empty-clause-rests : goal.returns-in-Empty-clause-rests
returns-in-Empty-clause-rests g c =
    IfErr-weaker c.begin.result _ _ (λ e was clean other. absurd (other (subst (IsFor c.args.base.now (state g.S.Store c.args.connection).now) c.in-Empty.is (c.in-Ok-examine.ensures.examined (was clean)).is))) c.begin.ensures.clean

pub returns-in-Empty-clause-crash : goal.returns-in-Empty-clause-crash
returns-in-Empty-clause-crash g c =
    let old = state g.S.Store c.args.connection in
    let mid = state g.S.Store c.examine.new.conn in
    IfOk-weaker c.begin.result _ _ (λ shelf crash. begun_survives c.args.base.now old mid (state g.S.Store shelf.connection) (λ clean. (c.in-Ok-examine.ensures.examined clean).untouched) (λ clean. subst (IsFor c.args.base.now old.now) c.in-Empty.is (c.in-Ok-examine.ensures.examined clean).is) c.examine.ensures.survives crash) c.begin.ensures.crash

pub returns-in-Empty-clause-crash_at_err : goal.returns-in-Empty-clause-crash_at_err
returns-in-Empty-clause-crash_at_err g c =
    let old = state g.S.Store c.args.connection in
    let mid = state g.S.Store c.examine.new.conn in
    IfErr-weaker c.begin.result _ _ (λ e crash. begun_survives c.args.base.now old mid (state g.S.Store e.1) (λ clean. (c.in-Ok-examine.ensures.examined clean).untouched) (λ clean. subst (IsFor c.args.base.now old.now) c.in-Empty.is (c.in-Ok-examine.ensures.examined clean).is) c.examine.ensures.survives crash) c.begin.ensures.crash_at_err

-- ---- tables of version 1

pub returns-in-One-clause-opened : goal.returns-in-One-clause-opened
returns-in-One-clause-opened g c =
    let base = c.args.base.now in
    let old = state g.S.Store c.args.connection in
    let mid = state g.S.Store c.examine.new.conn in
    let told = λ (clean : HasCleanDisk mid). subst (λ v. Examines base old mid (Stands v c.in-Stands.rows)) c.in-One.is (subst (Examines base old mid) c.in-Stands.is (c.in-Ok-examine.ensures.examined clean)) in
    if_all c.migrated.result _ _ _ _ (λ shelf count became crash clean.
    subst (λ n. (store : Store) × HasOpened base old.now (state g.S.Store shelf.connection) n store) (sym count.1)
    (opened_migrated base old mid (state g.S.Store shelf.connection) c.in-Stands.rows (told (clean_before mid (state g.S.Store shelf.connection) crash.clean clean)) (became clean))) c.migrated.ensures.count c.migrated.ensures.became c.migrated.ensures.crash

pub returns-in-One-clause-copied : goal.returns-in-One-clause-copied
returns-in-One-clause-copied g c = λ empty.
    (let base = c.args.base.now in
    let old = state g.S.Store c.args.connection in
    let mid = state g.S.Store c.examine.new.conn in
    if_all c.migrated.result _ _ _ _ (λ shelf own became crash store kept honest.
    (let clean = clean_before mid (state g.S.Store shelf.connection) crash.clean honest in
    let told = subst (λ v. Examines base old mid (Stands v c.in-Stands.rows)) c.in-One.is (subst (Examines base old mid) c.in-Stands.is (c.in-Ok-examine.ensures.examined clean)) in
    let opened : IsTrue old.is_open = subst (λ it. IsOpenIf it old) c.in-Stands.is (c.in-Ok-examine.ensures.opened clean) in
    let copied = subst (λ v. HasCopiedIf (Stands v c.in-Stands.rows) base old.now c.examine.new.contents) c.in-One.is (subst (λ it. HasCopiedIf it base old.now c.examine.new.contents) c.in-Stands.is (c.in-Ok-examine.ensures.copied clean empty)) in
    copied_migrated base shelf.base old mid (state g.S.Store shelf.connection) c.in-Stands.rows shelf.rows c.examine.new.contents store (own ∙ c.in-Ok.ensures) told opened (became honest) copied honest kept)) c.migrated.ensures.base c.migrated.ensures.became c.migrated.ensures.crash)

pub returns-in-One-clause-refused : goal.returns-in-One-clause-refused
returns-in-One-clause-refused g c = IfErr-weaker c.migrated.result _ _ (λ e refused _. refused c.args.base.now (state g.S.Store c.args.connection).now) c.migrated.ensures.refused

pub returns-in-One-clause-rests : goal.returns-in-One-clause-rests
returns-in-One-clause-rests g c =
    let old = state g.S.Store c.args.connection in
    let mid = state g.S.Store c.examine.new.conn in
    err_both c.migrated.result _ _ _ (λ e rests crash clean other.
    rests_behind old mid (state g.S.Store e.1) (c.in-Ok-examine.ensures.examined (clean_before mid (state g.S.Store e.1) crash.clean clean)).untouched (rests clean)) c.migrated.ensures.rests c.migrated.ensures.crash_at_err

pub returns-in-One-clause-crash : goal.returns-in-One-clause-crash
returns-in-One-clause-crash g c =
    let base = c.args.base.now in
    let old = state g.S.Store c.args.connection in
    let mid = state g.S.Store c.examine.new.conn in
    let told = λ (clean : HasCleanDisk mid). subst (λ v. Examines base old mid (Stands v c.in-Stands.rows)) c.in-One.is (subst (Examines base old mid) c.in-Stands.is (c.in-Ok-examine.ensures.examined clean)) in
    IfOk-weaker c.migrated.result _ _ (λ shelf crash. migrated_survives base old mid (state g.S.Store shelf.connection) c.in-Stands.rows told c.examine.ensures.survives crash) c.migrated.ensures.crash

pub returns-in-One-clause-crash_at_err : goal.returns-in-One-clause-crash_at_err
returns-in-One-clause-crash_at_err g c =
    let base = c.args.base.now in
    let old = state g.S.Store c.args.connection in
    let mid = state g.S.Store c.examine.new.conn in
    let told = λ (clean : HasCleanDisk mid). subst (λ v. Examines base old mid (Stands v c.in-Stands.rows)) c.in-One.is (subst (Examines base old mid) c.in-Stands.is (c.in-Ok-examine.ensures.examined clean)) in
    IfErr-weaker c.migrated.result _ _ (λ e crash. migrated_survives base old mid (state g.S.Store e.1) c.in-Stands.rows told c.examine.ensures.survives crash) c.migrated.ensures.crash_at_err

-- ---- tables of version 2

pub returns-in-Two-clause-opened : goal.returns-in-Two-clause-opened
returns-in-Two-clause-opened g c =
    let base = c.args.base.now in
    let old = state g.S.Store c.args.connection in
    let mid = state g.S.Store c.examine.new.conn in
    if_both c.over.result _ _ _ (λ shelf same kept clean.
    (let told = subst (λ v. Examines base old mid (Stands v c.in-Stands.rows)) c.in-Two.is (subst (Examines base old mid) c.in-Stands.is (c.in-Ok-examine.ensures.examined (kept clean).0)) in
    let opened : IsTrue old.is_open = subst (λ it. IsOpenIf it old) c.in-Stands.is (c.in-Ok-examine.ensures.opened (kept clean).0) in
    let still = subst (λ conn. IsTrue (state g.S.Store conn).is_open) (sym same) (told.untouched.unchanged opened).0.is_open in
    let stays = subst (λ b. (store : Store) → StandsIn b mid store → length store.audit ≡ c.in-Stands.rows → IsKeptIn b (state g.S.Store shelf.connection) shelf.rows store) c.in-Ok.ensures (kept clean).1 in
    opened_over base old mid (state g.S.Store shelf.connection) c.in-Stands.rows shelf.rows told still stays)) c.over.ensures.same c.over.ensures.kept

pub returns-in-Two-clause-copied : goal.returns-in-Two-clause-copied
returns-in-Two-clause-copied g c = λ empty.
    (let base = c.args.base.now in
    let old = state g.S.Store c.args.connection in
    let mid = state g.S.Store c.examine.new.conn in
    if_both c.over.result _ _ _ (λ shelf same own store kept honest.
    (let clean = subst (λ conn. HasCleanDisk (state g.S.Store conn)) same honest in
    let told = subst (λ v. Examines base old mid (Stands v c.in-Stands.rows)) c.in-Two.is (subst (Examines base old mid) c.in-Stands.is (c.in-Ok-examine.ensures.examined clean)) in
    let opened : IsTrue old.is_open = subst (λ it. IsOpenIf it old) c.in-Stands.is (c.in-Ok-examine.ensures.opened clean) in
    let copied = subst (λ v. HasCopiedIf (Stands v c.in-Stands.rows) base old.now c.examine.new.contents) c.in-Two.is (subst (λ it. HasCopiedIf it base old.now c.examine.new.contents) c.in-Stands.is (c.in-Ok-examine.ensures.copied clean empty)) in
    copied_over base shelf.base old mid (state g.S.Store shelf.connection) c.in-Stands.rows shelf.rows c.examine.new.contents store (own ∙ c.in-Ok.ensures) told opened (ap (state g.S.Store) same) copied honest kept)) c.over.ensures.same c.over.ensures.base)

pub returns-in-Two-clause-refused : goal.returns-in-Two-clause-refused
returns-in-Two-clause-refused g c = IfErr-weaker c.over.result _ _ (λ e refused _. refused c.args.base.now (state g.S.Store c.args.connection).now) c.over.ensures.refused

pub returns-in-Two-clause-rests : goal.returns-in-Two-clause-rests
returns-in-Two-clause-rests g c =
    let old = state g.S.Store c.args.connection in
    let mid = state g.S.Store c.examine.new.conn in
    IfErr-weaker c.over.result _ _ (λ e same clean other.
    subst (λ conn. Rests old (state g.S.Store conn)) (sym same) (rests_untouched old mid (c.in-Ok-examine.ensures.examined (subst (λ conn. HasCleanDisk (state g.S.Store conn)) same clean)).untouched)) c.over.ensures.given_back

pub returns-in-Two-clause-crash : goal.returns-in-Two-clause-crash
returns-in-Two-clause-crash g c =
    let old = state g.S.Store c.args.connection in
    let mid = state g.S.Store c.examine.new.conn in
    IfOk-weaker c.over.result _ _ (λ shelf same. subst (λ conn. Survives old (state g.S.Store conn) (LeavesBegun c.args.base.now old)) (sym same) (untouched_survives c.args.base.now old mid c.examine.ensures.survives)) c.over.ensures.same

pub returns-in-Two-clause-crash_at_err : goal.returns-in-Two-clause-crash_at_err
returns-in-Two-clause-crash_at_err g c =
    let old = state g.S.Store c.args.connection in
    let mid = state g.S.Store c.examine.new.conn in
    IfErr-weaker c.over.result _ _ (λ e same. subst (λ conn. Survives old (state g.S.Store conn) (LeavesBegun c.args.base.now old)) (sym same) (untouched_survives c.args.base.now old mid c.examine.ensures.survives)) c.over.ensures.given_back

-- ---- other databases

pub returns-in-Damaged-clause-refused : goal.returns-in-Damaged-clause-refused
returns-in-Damaged-clause-refused g c = λ clean. subst (IsFor c.args.base.now (state g.S.Store c.args.connection).now) c.in-Damaged.is (c.in-Ok-examine.ensures.examined clean).is

pub returns-in-Foreign-clause-refused : goal.returns-in-Foreign-clause-refused
returns-in-Foreign-clause-refused g c = λ clean. subst (IsFor c.args.base.now (state g.S.Store c.args.connection).now) c.in-Foreign.is (c.in-Ok-examine.ensures.examined clean).is

pub returns-in-Err-examine-clause-crash_at_err : goal.returns-in-Err-examine-clause-crash_at_err
returns-in-Err-examine-clause-crash_at_err g c = untouched_survives c.args.base.now (state g.S.Store c.args.connection) (state g.S.Store c.examine.new.conn) c.examine.ensures.survives

pub returns-in-WrongVersion-clause-crash_at_err : goal.returns-in-WrongVersion-clause-crash_at_err
returns-in-WrongVersion-clause-crash_at_err g c = untouched_survives c.args.base.now (state g.S.Store c.args.connection) (state g.S.Store c.examine.new.conn) c.examine.ensures.survives

pub returns-in-Damaged-clause-crash_at_err : goal.returns-in-Damaged-clause-crash_at_err
returns-in-Damaged-clause-crash_at_err g c = untouched_survives c.args.base.now (state g.S.Store c.args.connection) (state g.S.Store c.examine.new.conn) c.examine.ensures.survives

pub returns-in-Foreign-clause-crash_at_err : goal.returns-in-Foreign-clause-crash_at_err
returns-in-Foreign-clause-crash_at_err g c = untouched_survives c.args.base.now (state g.S.Store c.args.connection) (state g.S.Store c.examine.new.conn) c.examine.ensures.survives

-- by name, so that a body that breaks it is refused at once
pub returns-in-WrongVersion-clause-opened : goal.returns-in-WrongVersion-clause-opened
returns-in-WrongVersion-clause-opened g c = tt

-- by name, so that a body that breaks it is refused at once
pub returns-in-WrongVersion-clause-refused : goal.returns-in-WrongVersion-clause-refused
returns-in-WrongVersion-clause-refused g c = λ clean. subst (IsFor c.args.base.now (state g.S.Store c.args.connection).now) c.in-WrongVersion.is (c.in-Ok-examine.ensures.examined clean).is

-- by name, so that a body that breaks it is refused at once
pub returns-in-WrongVersion-clause-rests : goal.returns-in-WrongVersion-clause-rests
returns-in-WrongVersion-clause-rests g c = λ clean other. rests_untouched (state g.S.Store c.args.connection) (state g.S.Store c.examine.new.conn) (c.in-Ok-examine.ensures.examined clean).untouched

-- by name, so that a body that breaks it is refused at once
pub returns-in-WrongVersion-clause-crash : goal.returns-in-WrongVersion-clause-crash
returns-in-WrongVersion-clause-crash g c = tt
