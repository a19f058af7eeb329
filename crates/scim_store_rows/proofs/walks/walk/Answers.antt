use Rattle.std.proofs.Common.{rules, ◌≡◌, List, ℕ, None, sym, subst, arith}
use Rattle.sqlite.specs.State.{HasCleanDisk}
use Rattle.sqlite.specs.Held.{state}
use Rattle.scim_schema.specs.declared.Kind.{Kind}
use Rattle.scim_store_tables.proofs.Facts.{if_then}
use Rattle.scim_store_rows.specs.code.Finding.{KnowsCodes, code_at}
use Rattle.scim_store_rows.proofs.FindLemmas.{rests_where, stands_still}
use Rattle.scim_store_rows.proofs.SpareLemmas.{keeps_tables, spares_then}
use Rattle.scim_store_rows.proofs.WalkLemmas.{stands_tables, user_codes, group_codes, knows_still, shows_then, err_then}
use Rattle.scim_store_rows.proofs.walks.walk.Goals as goal

pub returns-in_err-codes-in-User-clause-rests : goal.returns-in_err-codes-in-User-clause-rests
returns-in_err-codes-in-User-clause-rests g c clean store stands = rests_where c.args.base.now (state g.S.Store c.args.conn.now) (state g.S.Store c.read_codes.new.conn) (c.read_codes.ensures.rests clean) store stands

pub returns-in_ok-codes-in-User-clause-spares : goal.returns-in_ok-codes-in-User-clause-spares
returns-in_ok-codes-in-User-clause-spares g c =
    let old = state g.S.Store c.args.conn.now in
    let mid = state g.S.Store c.read_codes.new.conn in
    let new = state g.S.Store c.walk_rows.new.conn in
    spares_then old mid new c.read_codes.ensures.spares (λ clean. keeps_tables old mid (c.in_ok-codes-in-User.ensures.unchanged clean)) c.walk_rows.ensures.spares

pub returns-in_ok-codes-in-User-clause-shown : goal.returns-in_ok-codes-in-User-clause-shown
returns-in_ok-codes-in-User-clause-shown g c =
    let old = state g.S.Store c.args.conn.now in
    let mid = state g.S.Store c.read_codes.new.conn in
    let new = state g.S.Store c.walk_rows.new.conn in
    if_then c.walk_rows.result _ _ (λ _ shown clean store stands.
    (let late : HasCleanDisk mid = omega (arith, clean, c.walk_rows.ensures.spares.clean) in
    let same = c.in_ok-codes-in-User.ensures.unchanged late (stands_tables c.args.base.now old store stands) in
    let read = user_codes c.args.base.now old store c.in_ok-codes-in-User.codes stands mid (c.in_ok-codes-in-User.ensures.read late) in
    let knows : KnowsCodes c.args.kind c.in_ok-codes-in-User.codes mid store = knows_still c.args.kind c.in_ok-codes-in-User.codes old mid store same
    (subst (λ (kind : Kind). KnowsCodes kind c.in_ok-codes-in-User.codes old store) (sym c.in-User.is) read) in
    shows_then g.V.Visitor.takes c.args.kind store old mid new c.args.visitor.now c.walk_rows.new.visitor same (shown clean store (stands_still c.args.base.now old mid store same stands) knows))) c.walk_rows.ensures.shown

pub returns-in_ok-codes-in-User-clause-prefix : goal.returns-in_ok-codes-in-User-clause-prefix
returns-in_ok-codes-in-User-clause-prefix g c clean =
    let old = state g.S.Store c.args.conn.now in
    let mid = state g.S.Store c.read_codes.new.conn in
    let new = state g.S.Store c.walk_rows.new.conn in
    err_then c.walk_rows.result _ _ (λ e taken other store stands.
    (let late : HasCleanDisk mid = omega (arith, clean, c.walk_rows.ensures.spares.clean) in
    let same = c.in_ok-codes-in-User.ensures.unchanged late (stands_tables c.args.base.now old store stands) in
    let read = user_codes c.args.base.now old store c.in_ok-codes-in-User.codes stands mid (c.in_ok-codes-in-User.ensures.read late) in
    let knows : KnowsCodes c.args.kind c.in_ok-codes-in-User.codes mid store = knows_still c.args.kind c.in_ok-codes-in-User.codes old mid store same
    (subst (λ (kind : Kind). KnowsCodes kind c.in_ok-codes-in-User.codes old store) (sym c.in-User.is) read) in
    taken other store (stands_still c.args.base.now old mid store same stands) knows)) (c.walk_rows.ensures.prefix clean)

pub returns-in-Group-clause-shown : goal.returns-in-Group-clause-shown
returns-in-Group-clause-shown g c =
    let old = state g.S.Store c.args.conn.now in
    let none : (id : List ℕ) → code_at c.new.result id ≡ None = λ id. search rules in
    if_then c.walk_rows-in-Group.result _ _ (λ _ shown clean store stands.
    shown clean store stands (subst (λ (kind : Kind). KnowsCodes kind c.new.result old store) (sym c.in-Group.is) (group_codes c.args.base.now old store c.new.result stands none))) c.walk_rows-in-Group.ensures.shown

pub returns-in-Group-clause-prefix : goal.returns-in-Group-clause-prefix
returns-in-Group-clause-prefix g c clean =
    let old = state g.S.Store c.args.conn.now in
    let none : (id : List ℕ) → code_at c.new.result id ≡ None = λ id. search rules in
    err_then c.walk_rows-in-Group.result _ _ (λ e taken other store stands.
    taken other store stands (subst (λ (kind : Kind). KnowsCodes kind c.new.result old store) (sym c.in-Group.is) (group_codes c.args.base.now old store c.new.result stands none))) (c.walk_rows-in-Group.ensures.prefix clean)
