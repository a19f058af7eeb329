use Rattle.std.proofs.Common.{refl, ◌∙◌, ap, cond, true}
use Rattle.std.specs.Prelude.{Option, Some}
use Rattle.std.proofs.lemmas.Result.{on_ok_weaker, on_err_weaker}
use Rattle.scim_shelf.specs.declared.text_index.Holders.{Holders}
use Rattle.scim_shelf.specs.declared.text_index.Holders.TheVariants.{One}
use Rattle.scim_shelf.specs.TextIndex.{is_same, has_in}
use Rattle.scim_shelf.proofs.NoteLemmas.{ChangesAt, changes_at, is_there, one_changed, none_changed, same_alone}
use Rattle.scim_shelf.proofs.text_index.TextIndex.note_one.Goals as goal

pub returns-in-Some-clause-ok : goal.returns-in-Some-clause-ok
returns-in-Some-clause-ok c =
    let text = c.args.text.now in
    let old = c.args.self.now.by_text in
    let holders = c.add.new.self in
    let is = c.in-Some.ensures.value in
    let put = changes_at text text old (c.get_mut.follows.lender holders) (Some holders) refl ((c.get_mut.follows.holds holders).3 (is_there _ _ is)) in
    on_ok_weaker c.add.result
    (λ added.
    one_changed text c.args.id true old (c.get_mut.follows.lender holders) (Some holders) put
    (λ i. added i ∙ ap (λ (o : Option Holders). cond (is_same c.args.id i) true (has_in i o)) is))
    c.add.ensures.ok

pub returns-in-Some-clause-err : goal.returns-in-Some-clause-err
returns-in-Some-clause-err c =
    let text = c.args.text.now in
    let old = c.args.self.now.by_text in
    let holders = c.add.new.self in
    let is = c.in-Some.ensures.value in
    let put = changes_at text text old (c.get_mut.follows.lender holders) (Some holders) refl ((c.get_mut.follows.holds holders).3 (is_there _ _ is)) in
    on_err_weaker c.add.result
    (λ same. none_changed text old (c.get_mut.follows.lender holders) (Some holders) put (λ i. same i ∙ ap (has_in i) is))
    c.add.ensures.err

pub returns-clause-ok : goal.returns-clause-ok
returns-clause-ok c =
    let text = c.args.text.now in
    let same = c.get_mut.follows.holds-at-none in
    let old = c.get_mut.follows.lender-at-none in
    let new = c.insert.new.self in
    let one : Option Holders = Some (One c.args.id) in
    let put : ChangesAt text old new one = changes_at text c.in_ok-text.text old new one c.in_ok-text.ensures c.in_ok-insert.ensures.updates in
    let here = rw same at put in
    one_changed text c.args.id true c.args.self.now.by_text new one here
    (λ i. same_alone c.args.id i ∙ ap (λ (o : Option Holders). cond (is_same c.args.id i) true (has_in i o)) c.in_default.ensures.value)
