use Rattle.std.specs.declared.alloc.Global.{Global}
use Rattle.scim_store_rows.proofs.CodeLemmas.{shown_copied}
use Rattle.std.proofs.Common.{Bor, String, option_map, string_bytes, List, ℕ, Option, ap, ◌∙◌, subst, arith}
use Rattle.sqlite.specs.Held.{state}
use Rattle.scim_json.specs.Kept.{IsKept}
use Rattle.scim_store_rows.proofs.FindLemmas.{by_id_none, by_id_some, rests_where, rests_then, stands_still}
use Rattle.scim_store_rows.proofs.SpareLemmas.{keeps_tables, spares_then}
use Rattle.scim_store_rows.proofs.WalkLemmas.{stands_tables}
use Rattle.scim_store_rows.proofs.look_ups.find_by_id.Goals as goal

pub returns-in_err-document-clause-rests : goal.returns-in_err-document-clause-rests
returns-in_err-document-clause-rests g c clean store stands = rests_where c.args.base.now (state g.S.Store c.args.conn.now) (state g.S.Store c.find_resource.new.conn) (c.find_resource.ensures.rests clean) store stands

pub returns-in_default-clause-found : goal.returns-in_default-clause-found
returns-in_default-clause-found g c clean store stands =
    by_id_none c.args.base.now c.args.id c.write-id.ensures.id store c.args.kind (state g.S.Store c.args.conn.now) (state g.S.Store c.find_resource.new.conn)
    (rw (c.write-id.ensures.value, c.kind_number.ensures, c.in_default.is) at (c.in_ok-document.ensures.found clean)) stands

pub returns-in_err-code-clause-spares : goal.returns-in_err-code-clause-spares
returns-in_err-code-clause-spares g c =
    let old = state g.S.Store c.args.conn.now in
    let mid = state g.S.Store c.find_resource.new.conn in
    spares_then old mid (state g.S.Store c.find_code.new.conn) c.find_resource.ensures.spares (λ clean. keeps_tables old mid (c.in_ok-document.ensures.unchanged clean)) c.find_code.ensures.spares

pub returns-in_err-code-clause-rests : goal.returns-in_err-code-clause-rests
returns-in_err-code-clause-rests g c clean store stands =
    let old = state g.S.Store c.args.conn.now in
    let mid = state g.S.Store c.find_resource.new.conn in
    let same = c.in_ok-document.ensures.unchanged (omega (arith, clean, c.find_code.ensures.spares.clean)) (stands_tables c.args.base.now old store stands) in
    rests_then old mid (state g.S.Store c.find_code.new.conn) same (rests_where c.args.base.now mid (state g.S.Store c.find_code.new.conn) (c.find_code.ensures.rests clean) store (stands_still c.args.base.now old mid store same stands))

pub returns-in_err-resource-clause-spares : goal.returns-in_err-resource-clause-spares
returns-in_err-resource-clause-spares g c =
    let old = state g.S.Store c.args.conn.now in
    let mid = state g.S.Store c.find_resource.new.conn in
    spares_then old mid (state g.S.Store c.find_code.new.conn) c.find_resource.ensures.spares (λ clean. keeps_tables old mid (c.in_ok-document.ensures.unchanged clean)) c.find_code.ensures.spares

pub returns-clause-spares : goal.returns-clause-spares
returns-clause-spares g c =
    let old = state g.S.Store c.args.conn.now in
    let mid = state g.S.Store c.find_resource.new.conn in
    spares_then old mid (state g.S.Store c.find_code.new.conn) c.find_resource.ensures.spares (λ clean. keeps_tables old mid (c.in_ok-document.ensures.unchanged clean)) c.find_code.ensures.spares

pub returns-clause-found : goal.returns-clause-found
returns-clause-found g c clean store stands =
    let old = state g.S.Store c.args.conn.now in
    let mid = state g.S.Store c.find_resource.new.conn in
    let new = state g.S.Store c.find_code.new.conn in
    let code : Option (List ℕ) = option_map string_bytes c.in_ok-code.code in
    let given : IsKept c.args.base.now (string_bytes c.in-Some.document) (option_map (λ (s : Bor (String Global)). string_bytes s.now) c.as_ref.result) c.in_ok-resource.resource = rw (c.as_str.ensures.value, c.text_of.ensures) at c.in_ok-resource.ensures in
    let kept : IsKept c.args.base.now (string_bytes c.in-Some.document) code c.in_ok-resource.resource =
    subst (λ (d : Option (List ℕ)). IsKept c.args.base.now (string_bytes c.in-Some.document) d c.in_ok-resource.resource) (shown_copied c.as_ref.result ∙ ap (option_map string_bytes) c.as_ref.ensures.value) given in
    by_id_some c.args.base.now c.args.id c.write-id.ensures.id store c.args.kind old mid new (string_bytes c.in-Some.document) code c.in_ok-resource.resource
    (rw (c.write-id.ensures.value, c.kind_number.ensures, c.in-Some.is) at (c.in_ok-document.ensures.found (omega (arith, clean, c.find_code.ensures.spares.clean))))
    (λ is. rw c.write-id.ensures.value at (c.in_ok-code.ensures.user clean is))
    (λ is. ap (option_map string_bytes) (c.in_ok-code.ensures.group is))
    (c.in_ok-code.ensures.unchanged clean) kept stands
