use Rattle.std.proofs.Common.{◌≡◌, refl, ◌∙◌, sym, ap, List, false, cond}
use Rattle.std.specs.Prelude.{Some}
use Rattle.std.specs.BTreeSet.{contains_text}
use Rattle.std.specs.Cmp.Lexicographic.{nat_list_eq_equiv}
use Rattle.std.specs.Str.{bytes_eq}
use Rattle.std.proofs.lemmas.Map.Text.{btree_set_updates_text}
use Rattle.scim_shelf.specs.Stores.{compared_text}
use Rattle.scim_shelf.specs.IndexedTexts.{is_found}
use Rattle.scim_shelf.proofs.ValueLemmas.{cond_not}
use Rattle.scim_shelf.proofs.indexed_texts.remove_text.Goals as goal

pub returns-then-is_case_exact : goal.returns-then-is_case_exact
returns-then-is_case_exact c = λ t.
    let own = c.args.text.now in
    let texts = c.args.texts.now in
    let exact : own ≡ compared_text c.args.leaf own = rw (sym c.is_case_exact.ensures ∙ c.if-is_case_exact.true) refl in
    let same : bytes_eq own t ≡ is_found c.args.leaf t (Some own) = ap (λ (u : List _). bytes_eq u t) exact ∙ nat_list_eq_equiv.symm (compared_text c.args.leaf own) t in
    btree_set_updates_text own texts _ false c.remove.ensures.updates t
    ∙ (λ i. cond (same i) false (contains_text texts t))
    ∙ cond_not (is_found c.args.leaf t (Some own)) (contains_text texts t)

pub returns-in_ok-fold : goal.returns-in_ok-fold
returns-in_ok-fold c = λ t.
    let own = c.args.text.now in
    let texts = c.args.texts.now in
    let folded_text = c.as_str.result.now in
    let folds : folded_text ≡ compared_text c.args.leaf own = c.as_str.ensures.value ∙ c.in_ok-fold.ensures ∙ rw (sym c.is_case_exact.ensures ∙ c.if-is_case_exact.false) refl in
    let same : bytes_eq folded_text t ≡ is_found c.args.leaf t (Some own) = ap (λ (u : List _). bytes_eq u t) folds ∙ nat_list_eq_equiv.symm (compared_text c.args.leaf own) t in
    btree_set_updates_text folded_text texts _ false c.remove-else-is_case_exact.ensures.updates t
    ∙ (λ i. cond (same i) false (contains_text texts t))
    ∙ cond_not (is_found c.args.leaf t (Some own)) (contains_text texts t)
