use Rattle.std.proofs.Common.{sym, ◌∙◌, ap, ℕ, Bool, ◌||◌, List}
use Rattle.std.specs.Prelude.{find}
use Rattle.std.specs.Ordering.{nat_cmp}
use Rattle.std.specs.Cmp.Lexicographic.{slice_cmp}
use Rattle.std.specs.BTreeSet.{contains}
use Rattle.std.proofs.lemmas.Result.{on_ok_weaker}
use Rattle.scim_value.specs.declared.uniqueness.UniqueName.{UniqueName}
use Rattle.scim_shelf.specs.Indexed.{has_id}
use Rattle.scim_shelf.specs.IndexedTexts.{is_under_at_in}
use Rattle.scim_shelf.specs.TextIndex.{has_in, is_holder}
use Rattle.scim_shelf.proofs.ValueLemmas.{or_cond, or_false}
use Rattle.scim_shelf.proofs.collections.Collection.add_ids_under.Goals as goal

pub returns-in-Some : goal.returns-in-Some
returns-in-Some c =
    let q : UniqueName = record { leaf = c.args.own.now.leaf; text = c.in_ok-text.text } in
    on_ok_weaker c.add_to.result
    (λ added cs h i.
    added i
    ∙ or_cond (is_holder i c.in-Some.holders.now) (contains (slice_cmp nat_cmp) c.args.ids.now i)
    ∙ ap (λ (b : Bool). contains (slice_cmp nat_cmp) c.args.ids.now i || b)
    (ap (has_in i) c.in-Some.ensures ∙ h.noted q i ∙ ap (λ (t : List ℕ). is_under_at_in c.args.own.now.leaf t (find (has_id i) cs)) c.in_ok-text.ensures.ok))
    c.add_to.ensures

pub returns : goal.returns
returns c = λ cs h i.
    let q : UniqueName = record { leaf = c.args.own.now.leaf; text = c.in_ok-text.text } in
    let had = contains (slice_cmp nat_cmp) c.args.ids.now i in
    sym (or_false had)
    ∙ ap (λ (b : Bool). had || b)
    (ap (has_in i) c.in-None.ensures ∙ h.noted q i ∙ ap (λ (t : List ℕ). is_under_at_in c.args.own.now.leaf t (find (has_id i) cs)) c.in_ok-text.ensures.ok)
