use Rattle.std.proofs.Common.{rules, ◌≡◌, ◌∙◌, sym, subst, false, true, cond, not, ℕ, List, Ok}
use Rattle.std.specs.Prelude.{◌||◌}
use Rattle.std.specs.List.{list_any}
use Rattle.std.specs.BTreeSet.{contains}
use Rattle.std.proofs.lemmas.Bool.{not-true, not-false}
use Rattle.std.proofs.lemmas.List.{map-id}
use Rattle.std.proofs.lemmas.Iterator.{YieldsList-from_slice}
use Rattle.std.proofs.lemmas.Iterator.Adapters.{fact_from_extend, YieldsList-from_vec}
use Rattle.std.proofs.lemmas.Iterator.Search.{any_from_yields_List}
use Rattle.scim_value.specs.declared.uniqueness.UniqueName.{UniqueName}
use Rattle.scim_json.specs.code.Taken.{id_cmp, name_cmp, is_same_id, is_same_unique_name}
use Rattle.scim_json.proofs.TakenLemmas.{clash, id_clash, free, added}
use Rattle.scim_json.proofs.users_files.Taken.add.Goals as goal

pub returns-then-any-clause-clash : goal.returns-then-any-clause-clash
returns-then-any-clause-clash c cs kept not_free =
    let old = c.args.self.now in
    let ns = c.in_ok-names.names.items in
    let some : c.any.result ≡ list_any (contains name_cmp old.names) ns =
    any_from_yields_List (contains name_cmp old.names) _ _ c.any.result c.any.ensures.ran (YieldsList-from_slice ns cc) (λ x b q k. search rules) in
    clash old cs kept c.args.resource.now ns c.in_ok-names.ensures (cc)

pub returns-clause-clash : goal.returns-clause-clash
returns-clause-clash c cs kept clashes =
    let old = c.args.self.now in
    let there : contains id_cmp old.ids c.args.resource.now.id ≡ true =
    not-false _ (subst (λ (k : List ℕ). not (contains id_cmp old.ids k) ≡ false) c.id.ensures (sym c.in_ok-insert.ensures.added ∙ clashes)) in
    id_clash old cs kept c.args.resource.now c.in_ok-names.names.items c.in_ok-names.ensures there

pub returns-clause-free : goal.returns-clause-free
returns-clause-free c cs kept is_free =
    let old = c.args.self.now in
    let ns = c.in_ok-names.names.items in
    let some : c.any.result ≡ list_any (contains name_cmp old.names) ns =
    any_from_yields_List (contains name_cmp old.names) _ _ c.any.result c.any.ensures.ran (YieldsList-from_slice ns cc) (λ x b q k. search rules) in
    let no_id : contains id_cmp old.ids c.args.resource.now.id ≡ false =
    not-true _ (subst (λ (k : List ℕ). not (contains id_cmp old.ids k) ≡ true) c.id.ensures (sym c.in_ok-insert.ensures.added ∙ is_free)) in
    let ids : (id : List ℕ) → contains id_cmp c.insert.new.self id ≡ cond (is_same_id c.args.resource.now.id id) true (contains id_cmp old.ids id) =
    λ id. subst (λ (k : List ℕ). contains id_cmp c.insert.new.self id ≡ cond (is_same_id k id) true (contains id_cmp old.ids id)) c.id.ensures (c.in_ok-insert.ensures.updates.0 id) in
    let names : (n : UniqueName) → contains name_cmp c.extend.new.self n ≡ (contains name_cmp old.names n || list_any (is_same_unique_name n) ns) =
    fact_from_extend {E = ℕ} (λ (x : UniqueName). x) (Ok c.in_ok-extend.field-0) c.in_ok-extend.ensures.ran (λ it b. YieldsList-from_vec {s = it} _ b.0 (b.1 ∙ c.in_ok-names.names.ok.0))
    (λ xs e h n. rw (sym e, map-id) (h.0 n)) in
    (added old cs kept c.args.resource.now ns c.in_ok-names.ensures _ ids names, free old cs kept c.args.resource.now ns c.in_ok-names.ensures (cc) no_id)
