use Rattle.std.proofs.Common.{◌≡◌, rules, true, false}
use Rattle.scim_exchange.specs.AttributeLists.{is_given}
use Rattle.scim_exchange.specs.code.Views.{texts_in, lists_in}
use Rattle.scim_exchange.proofs.WantedLemmas.{given, not_given, no_attributes, no_excluded}
use Rattle.scim_exchange.proofs.attribute_lists.wanted_by.Goals as goal

pub returns-then-is_empty-2 : goal.returns-then-is_empty-2
returns-then-is_empty-2 c =
    let lists = c.args.lists.now in
    let a : is_given (texts_in lists.attributes) ≡ false = not_given lists.attributes.items c.is_empty.result (search rules) c.if-is_empty.true in
    let b : is_given (texts_in lists.excluded) ≡ false = not_given lists.excluded.items c.is_empty-then-is_empty.result (search rules) c.if-is_empty-2.true in
    (lists_in lists, no_attributes (lists_in lists) a, (a, b))

pub returns-then-is_empty : goal.returns-then-is_empty
returns-then-is_empty c =
    let lists = c.args.lists.now in
    let a : is_given (texts_in lists.attributes) ≡ false = not_given lists.attributes.items c.is_empty.result (search rules) c.if-is_empty.true in
    let b : is_given (texts_in lists.excluded) ≡ true = given lists.excluded.items c.is_empty-then-is_empty.result (search rules) c.if-is_empty-2.false in
    (lists_in lists, no_attributes (lists_in lists) a, (a, b, c.in_ok-names_of.ensures))

pub returns-then-is_empty-3 : goal.returns-then-is_empty-3
returns-then-is_empty-3 c =
    let lists = c.args.lists.now in
    let a : is_given (texts_in lists.attributes) ≡ true = given lists.attributes.items c.is_empty.result (search rules) c.if-is_empty.false in
    let b : is_given (texts_in lists.excluded) ≡ false = not_given lists.excluded.items c.is_empty-2.result (search rules) c.if-is_empty-3.true in
    (lists_in lists, no_excluded (lists_in lists) a b, (a, b, c.in_ok-names_of-2.ensures))
