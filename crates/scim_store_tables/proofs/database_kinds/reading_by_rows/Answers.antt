use Rattle.std.proofs.Common.{rules, ◌≡◌, ◌≢◌, true, false, length, inr, refl, sym, subst}
use Rattle.std.specs.Prelude.{Contains, IsPermutation}
use Rattle.sqlite.specs.Held.{state}
use Rattle.scim_store_tables.specs.Lists.{version_values}
use Rattle.scim_store_tables.specs.Reading.{shown_settings}
use Rattle.scim_store_tables.proofs.StepLemmas.{if_then}
use Rattle.scim_store_tables.proofs.ToldLemmas.{told_both, told_failed, told_as}
use Rattle.scim_store_tables.proofs.WholeLemmas.{version_named, version_lacking, version_alone, version_among, shown_are}
use Rattle.scim_store_tables.proofs.database_kinds.reading_by_rows.Goals as goal

pub returns-in_err-settings : goal.returns-in_err-settings
returns-in_err-settings g c =
    told_failed _ _ (state g.S.Store c.args.conn.now) (state g.S.Store c.read_rows.new.conn) c.in_err-settings.field-0.0 c.from_residual.result c.from_residual.ensures.0 (c.in_err-settings.ensures c.args.version tt)

pub returns-in_err-names_version : goal.returns-in_err-names_version
returns-in_err-names_version g c =
    told_as _ _ (state g.S.Store c.args.conn.now) (state g.S.Store c.read_rows.new.conn) c.in_ok-settings.settings c.from_residual-in_err-names_version.result (c.in_ok-settings.ensures c.args.version tt) (search rules)

pub returns-then-not-branch : goal.returns-then-not-branch
returns-then-not-branch g c =
    let old = state g.S.Store c.args.conn.now in
    let rows = c.in_ok-settings.settings in
    let fails : c.in_ok-names_version.field-0 ≡ false = search rules in
    let lacks = subst (λ xs. ¬ Contains xs (version_values c.args.version)) c.as_slice.ensures.value (c.in_ok-names_version.ensures.no fails) in
    told_as _ _ old (state g.S.Store c.read_rows.new.conn) rows c.reading_of_another.result (c.in_ok-settings.ensures c.args.version tt)
    (if_then c.reading_of_another.result _ _ (λ kind by schema are. by c.args.version old.now (subst (IsPermutation (shown_settings old.now)) (sym c.as_slice-then-not-branch.ensures.value) are.same) (version_lacking c.args.version old.now rows.items are.same lacks)) c.reading_of_another.ensures)

pub returns-in_err-are_all_keyed : goal.returns-in_err-are_all_keyed
returns-in_err-are_all_keyed g c =
    let old = state g.S.Store c.args.conn.now in
    let a = state g.S.Store c.read_rows.new.conn in
    let b = state g.S.Store c.are_all_keyed.new.conn in
    told_failed _ _ old b c.in_err-are_all_keyed.field-0.0 c.from_residual-in_err-are_all_keyed.result c.from_residual-in_err-are_all_keyed.ensures.0
    (told_both _ _ old a b _ _ (c.in_ok-settings.ensures c.args.version tt) c.in_err-are_all_keyed.ensures)

pub returns-then-not-branch-2 : goal.returns-then-not-branch-2
returns-then-not-branch-2 g c =
    let old = state g.S.Store c.args.conn.now in
    let a = state g.S.Store c.read_rows.new.conn in
    let b = state g.S.Store c.are_all_keyed.new.conn in
    let rows = c.in_ok-settings.settings in
    let names : c.in_ok-names_version.field-0 ≡ true = search rules in
    let has = subst (λ xs. Contains xs (version_values c.args.version)) c.as_slice.ensures.value (c.in_ok-names_version.ensures.yes names) in
    let fails : c.in_ok-are_all_keyed.field-0 ≡ false = search rules in
    told_as _ _ old b c.in_ok-are_all_keyed.field-0 _ (told_both _ _ old a b rows _ (c.in_ok-settings.ensures c.args.version tt) c.in_ok-are_all_keyed.ensures)
    (λ schema all. inr (version_named c.args.version old.now rows.items all.0.same has, all.1.no fails))

pub returns-in_err-rows : goal.returns-in_err-rows
returns-in_err-rows g c =
    let old = state g.S.Store c.args.conn.now in
    let a = state g.S.Store c.read_rows.new.conn in
    let b = state g.S.Store c.are_all_keyed.new.conn in
    let new = state g.S.Store c.read_all_rows.new.conn in
    told_failed _ _ old new c.in_err-rows.field-0.0 c.from_residual-in_err-rows.result c.from_residual-in_err-rows.ensures.0
    (told_both _ _ old a new _ _ (c.in_ok-settings.ensures c.args.version tt) (told_both _ _ a b new _ _ c.in_ok-are_all_keyed.ensures c.in_err-rows.ensures))

pub returns-then-len-ne1 : goal.returns-then-len-ne1
returns-then-len-ne1 g c =
    let old = state g.S.Store c.args.conn.now in
    let a = state g.S.Store c.read_rows.new.conn in
    let b = state g.S.Store c.are_all_keyed.new.conn in
    let new = state g.S.Store c.read_all_rows.new.conn in
    let settings = c.in_ok-settings.settings in
    let names : c.in_ok-names_version.field-0 ≡ true = search rules in
    let has = subst (λ xs. Contains xs (version_values c.args.version)) c.as_slice.ensures.value (c.in_ok-names_version.ensures.yes names) in
    let more : length settings.items ≢ 1 = search rules in
    told_as _ _ old new c.in_ok-rows.rows _
    (told_both _ _ old a new settings _ (c.in_ok-settings.ensures c.args.version tt) (told_both _ _ a b new _ _ c.in_ok-are_all_keyed.ensures c.in_ok-rows.ensures))
    (λ schema all. (refl, (version_named c.args.version old.now settings.items all.0.same has, version_among c.args.version old.now settings.items all.0 more), all.1.1))

pub returns : goal.returns
returns g c =
    let old = state g.S.Store c.args.conn.now in
    let a = state g.S.Store c.read_rows.new.conn in
    let b = state g.S.Store c.are_all_keyed.new.conn in
    let new = state g.S.Store c.read_all_rows.new.conn in
    let settings = c.in_ok-settings.settings in
    let names : c.in_ok-names_version.field-0 ≡ true = search rules in
    let has = subst (λ xs. Contains xs (version_values c.args.version)) c.as_slice.ensures.value (c.in_ok-names_version.ensures.yes names) in
    let one : length settings.items ≡ 1 = search rules in
    let keyed : c.in_ok-are_all_keyed.field-0 ≡ true = search rules in
    told_as _ _ old new c.in_ok-rows.rows _
    (told_both _ _ old a new settings _ (c.in_ok-settings.ensures c.args.version tt) (told_both _ _ a b new _ _ c.in_ok-are_all_keyed.ensures c.in_ok-rows.ensures))
    (λ schema all. (refl, shown_are c.args.version old.now schema (version_alone c.args.version old.now settings.items all.0 has one) (all.1.0.yes keyed), all.1.1))
