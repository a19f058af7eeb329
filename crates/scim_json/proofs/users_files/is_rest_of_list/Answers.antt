use Rattle.std.proofs.Common.{◌≡◌, Some, None, true, false, rules, arith}
use Rattle.json.specs.Json.{after_end_array}
use Rattle.scim_json.proofs.ListedLemmas.{continues_here, stops_at_item, goes_on_with, if_ends}
use Rattle.scim_json.proofs.users_files.is_rest_of_list.Goals as goal

pub items-init : goal.items-init
items-init c = λ turns enough. continues_here turns c.args.reader.now enough

pub returns-then-not-branch : goal.returns-then-not-branch
returns-then-not-branch c = λ turns enough.
    let going : (after_end_array c.items.reader ≡ None) × (c.take_end_array.new.self ≡ c.items.reader) = grind arith in
    let is : c.in_ok-skip_item.field-0 ≡ false = search rules in
    let none = rw (is, going.1) at c.in_ok-skip_item.ensures.item in
    stops_at_item turns c.args.reader.now c.items.reader (c.items.invariant turns enough) going.0 none

pub items-preserved : goal.items-preserved
items-preserved c = λ turns enough.
    let going : (after_end_array c.items.reader ≡ None) × (c.take_end_array.new.self ≡ c.items.reader) = grind arith in
    let is : c.in_ok-skip_item.field-0 ≡ true = search rules in
    let found = rw (is, going.1) at c.in_ok-skip_item.ensures.item in
    let less = rw going.1 at (c.in_ok-skip_item.ensures.shorter is) in
    goes_on_with turns c.args.reader.now c.items.reader c.skip_item.new.reader (c.items.invariant turns enough) going.0 less found

pub returns : goal.returns
returns c = λ turns enough.
    let ends : after_end_array c.items.reader ≡ Some c.take_end_array.new.self = grind arith in
    if_ends turns c.args.reader.now c.items.reader c.take_end_array.new.self (c.items.invariant turns enough) ends c.is_at_end.result c.is_at_end.ensures
