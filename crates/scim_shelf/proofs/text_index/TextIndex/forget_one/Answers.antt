use Rattle.std.proofs.Common.{rules, ◌≡◌, refl, sym, ◌∙◌, ap, cond, true, false}
use Rattle.std.specs.Prelude.{Option, None, Some}
use Rattle.scim_shelf.specs.declared.text_index.Holders.{Holders}
use Rattle.scim_shelf.specs.TextIndex.{is_same, has_in}
use Rattle.scim_shelf.proofs.NoteLemmas.{changes_at, is_there, one_changed, none_found, last_gone}
use Rattle.scim_shelf.proofs.text_index.TextIndex.forget_one.Goals as goal

pub returns-in_default : goal.returns-in_default
returns-in_default c =
    none_found c.args.text.now c.args.id c.args.self.now.by_text c.get_mut.follows.lender-at-none c.get_mut.follows.holds-at-none c.in_default.ensures.value

pub returns-then-drops_last : goal.returns-then-drops_last
returns-then-drops_last c =
    let text = c.args.text.now in
    let old = c.args.self.now.by_text in
    let holders = c.drops_last.new.self in
    let left = c.get_mut.follows.lender holders in
    let is = c.in-Some.ensures.value in
    let last : c.drops_last.result ≡ true = search rules in
    last_gone text c.args.id old left c.remove.new.self (Some holders)
    (changes_at text text old left (Some holders) refl ((c.get_mut.follows.holds holders).3 (is_there _ _ is)))
    (changes_at text text left c.remove.new.self None refl c.remove.ensures.updates)
    (λ i. ap (λ (o : Option Holders). cond (is_same c.args.id i) false (has_in i o)) (sym is) ∙ c.drops_last.ensures.last last i)

pub returns-else-drops_last : goal.returns-else-drops_last
returns-else-drops_last c =
    let text = c.args.text.now in
    let old = c.args.self.now.by_text in
    let holders = c.drops_last.new.self in
    let new = c.get_mut.follows.lender holders in
    let is = c.in-Some.ensures.value in
    let left : c.drops_last.result ≡ false = search rules in
    one_changed text c.args.id false old new (Some holders)
    (changes_at text text old new (Some holders) refl ((c.get_mut.follows.holds holders).3 (is_there _ _ is)))
    (λ i. c.drops_last.ensures.left left i ∙ ap (λ (o : Option Holders). cond (is_same c.args.id i) false (has_in i o)) is)
