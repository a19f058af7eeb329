use Rattle.std.proofs.Common.{rules, ◌≡◌, ◌<◌, sym, ◌∙◌, ap, true, false, length, take, arith, cond}
use Rattle.std.specs.List.{list_any}
use Rattle.std.specs.Ordering.{nat_cmp, is_eq, ordering_then}
use Rattle.std.specs.Cmp.Lexicographic.{slice_cmp}
use Rattle.std.specs.Option.{option_copied}
use Rattle.sqlite.specs.declared.types.Value.TheVariants.{Text}
use Rattle.sqlite.specs.Order.{column}
use Rattle.scim_store.proofs.ApartLemmas.{names, is_known, text_in_is, no_text_in, none_distinct, apart_more, apart_clash, known_more, not_true, not_false}
use Rattle.scim_store.proofs.damage.are_apart.Goals as goal

pub loop-name-init : goal.loop-name-init
loop-name-init c = record { known = λ a t. search rules; apart = none_distinct }

pub returns-in_default-clause-no : goal.returns-in_default-clause-no
returns-in_default-clause-no c = λ _ named _.
    (let row = c.name-item.result in
    let has = named c.loop-name.name-index row (omega arith) in
    no_text_in (column row 1) has.0 (sym (ap option_copied c.in_default.is) ∙ c.text_at.ensures) (ap (λ r. column r 1) c.name-item.is ∙ has.2))

pub returns-in_default-text_at-clause-no : goal.returns-in_default-text_at-clause-no
returns-in_default-text_at-clause-no c = λ _ named _.
    (let row = c.name-item.result in
    let has = named c.loop-name.name-index row (omega arith) in
    no_text_in (column row 2) has.1 (sym (ap option_copied c.in_default-text_at.is) ∙ c.text_at-in-loop-name.ensures) (ap (λ r. column r 2) c.name-item.is ∙ has.3))

pub returns-then-not-branch-clause-no : goal.returns-then-not-branch-clause-no
returns-then-not-branch-clause-no c = λ _ _ apart.
    (let rows = c.args.names.now in
    let k = c.loop-name.name-index in
    let row = c.name-item.result in
    let a = c.in-Some.attribute.now in
    let t = c.in-Some-text_at.text.now in
    let attribute : column row 1 ≡ Text a = text_in_is (column row 1) a (sym (ap option_copied c.in-Some.is) ∙ c.text_at.ensures) in
    let text : column row 2 ≡ Text t = text_in_is (column row 2) t (sym (ap option_copied c.in-Some-text_at.is) ∙ c.text_at-in-loop-name.ensures) in
    let there : list_any (names a t) (take k rows) ≡ true = sym (c.loop-name.invariant.known a t) ∙ not_true c.in_ok-insert.field-0 (is_known a t c.loop-name.known) c.in_ok-insert.ensures.added c.if-not-branch.true in
    apart_clash row a t attribute text rows k (omega arith) c.name-item.is there apart)

pub loop-name-preserved : goal.loop-name-preserved
loop-name-preserved c =
    let rows = c.args.names.now in
    let k = c.loop-name.name-index in
    let row = c.name-item.result in
    let a = c.in-Some.attribute.now in
    let t = c.in-Some-text_at.text.now in
    let low : k < length rows = omega arith in
    let attribute : column row 1 ≡ Text a = text_in_is (column row 1) a (sym (ap option_copied c.in-Some.is) ∙ c.text_at.ensures) in
    let text : column row 2 ≡ Text t = text_in_is (column row 2) t (sym (ap option_copied c.in-Some-text_at.is) ∙ c.text_at-in-loop-name.ensures) in
    let none : list_any (names a t) (take k rows) ≡ false = sym (c.loop-name.invariant.known a t) ∙ not_false c.in_ok-insert.field-0 (is_known a t c.loop-name.known) c.in_ok-insert.ensures.added c.if-not-branch.false in
    record {
      known = λ b u.
          c.in_ok-insert.ensures.updates.0 (record { ref_ptr = (0, 0); now = b }, record { ref_ptr = (0, 0); now = u })
          ∙ ap (λ x. cond (is_eq (ordering_then (slice_cmp nat_cmp a b) (slice_cmp nat_cmp t u))) true x) (c.loop-name.invariant.known b u)
          ∙ known_more row a t attribute text rows k low c.name-item.is b u;
      apart = apart_more row a t attribute text rows k low c.name-item.is c.loop-name.invariant.apart none;
    }
