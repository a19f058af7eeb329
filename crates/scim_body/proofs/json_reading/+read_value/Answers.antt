use Rattle.std.proofs.Common.{◌≡◌, ◌-◌, ◌<◌, [], ◌∷◌, length, Some, None, sym, ap, ap₂, ◌∙◌, arith, rules}
use Rattle.std.proofs.lemmas.Result.{err_from_is_err_and}
use Rattle.json.specs.Token.{Token}
use Rattle.json.specs.Json.{parse_map, after_end_array, read_key, items, members, value}
use Rattle.json.specs.Reads.{token_of}
use Rattle.json.proofs.Grammar.{value_is, value-begin_array, value-begin_object, read_key-shorter}
use Rattle.serde_json.specs.Data.{null, boolean, number, string, array, object}
use Rattle.serde_json.specs.Read.{of_json, of_items, of_members, converted}
use Rattle.serde_json.specs.View.{number_view}
use Rattle.scim_body.specs.View.{view, members_view}
use Rattle.scim_body.specs.declared.trees.Tree.{String, Number, Bool, Null, the_lemmas}
use Rattle.scim_body.proofs.Views.{view-Array, view-Object}
use Rattle.scim_body.proofs.ReadingLemmas.{converted-array, converted-object, item_read, item_refused, items_over, member_read, member_refused, key_refused, members_over, items_before, items_before-no_items, one_more_item, fault_so}
use Rattle.scim_body.proofs.json_reading.+read_value.Goals as goal

pub read_items-returns-in_err-item-clause-none : goal.read_items-returns-in_err-item-clause-none
read_items-returns-in_err-item-clause-none t c =
    let p = value c.args.depth in
    let l = c.items in
    let n = l.invariant.0 in
    let going : (after_end_array l.reader ≡ None) × (c.take_end_array.new.self ≡ l.reader) = grind arith in
    let e = err_from_is_err_and c.from_residual.result c.from_residual.ensures.1 in
    rw (e.1, e.2) (fault_so c.in_err-item.field-0.0 (λ none. l.invariant.2 ∙ ap (parse_map (items_before l.found.items)) (item_refused p n l.reader going.0 (rw (← going.1) none))) c.in_err-item.ensures.none)

pub read_items-items-preserved : goal.read_items-items-preserved
read_items-items-preserved t c =
    let p = value c.args.depth in
    let l = c.items in
    let n = l.invariant.0 in
    let going : (after_end_array l.reader ≡ None) × (c.take_end_array.new.self ≡ l.reader) = grind arith in
    let done = c.in_ok-item.ensures in
    let v = c.in_ok-item.item in
    let r = c.read_value.new.reader in
    let less : length r < length l.reader = rw (← going.1) done.shorter in
    let turn = item_read p n l.reader r (view v) (omega (arith, l.invariant.1)) going.0 (rw (← going.1) done.value) in (
      n - 1,
      omega (arith, l.invariant.1),
      l.invariant.2 ∙ ap (parse_map (items_before l.found.items)) turn ∙ one_more_item l.found.items v _
          ∙ ap (λ vs. parse_map (items_before vs) (converted of_items (items p (n - 1) r))) (sym c.in_ok-push.ensures.items),
      omega (arith, l.invariant.3),
    )

pub read_items-returns-clause-items : goal.read_items-returns-clause-items
read_items-returns-clause-items t c =
    let p = value c.args.depth in
    let l = c.items in
    let n = l.invariant.0 in
    let r = c.take_end_array.new.self in
    l.invariant.2 ∙ ap (parse_map (items_before l.found.items)) (items_over p n l.reader r l.invariant.1 (grind arith)) ∙ ap (λ ds. Some (ds, r)) (items_before-no_items l.found.items)

pub read_value-returns-in_default-clause-none : goal.read_value-returns-in_default-clause-none
read_value-returns-in_default-clause-none t c =
    let empty : c.args.reader.now ≡ [] = grind arith in
    ap (converted of_json) (ap (value c.args.depth) empty ∙ value_is c.args.depth [])

pub read_value-returns-in_err-read_number-in-Number-clause-none : goal.read_value-returns-in_err-read_number-in-Number-clause-none
read_value-returns-in_err-read_number-in-Number-clause-none t c =
    let first : c.args.reader.now ≡ token_of c.in-Some.token ∷ c.next.new.self = grind arith in
    let is : c.args.reader.now ≡ Token.number c.in-Number.text.now ∷ c.next.new.self = grind (arith, first) in
    let e = err_from_is_err_and c.from_residual.result c.from_residual.ensures.1 in
    rw (e.1, e.2) (fault_so c.in_err-read_number-in-Number.field-0.0 (λ none. ap (converted of_json) (ap (value c.args.depth) is ∙ value_is c.args.depth _) ∙ rw none) c.in_err-read_number-in-Number.ensures.too_large)

pub read_value-returns-then-depth-eq0-clause-none : goal.read_value-returns-then-depth-eq0-clause-none
unfolding value
read_value-returns-then-depth-eq0-clause-none t c =
    let first : c.args.reader.now ≡ token_of c.in-Some.token ∷ c.next.new.self = grind arith in
    let none : c.args.depth ≡ 0 = omega arith in
    ap (converted of_json) (ap₂ value none (first ∙ ap (λ k. token_of k ∷ c.next.new.self) c.in-BeginArray.is))

pub read_value-returns-in_err-read_items-in-BeginArray-clause-none : goal.read_value-returns-in_err-read_items-in-BeginArray-clause-none
read_value-returns-in_err-read_items-in-BeginArray-clause-none t c =
    let first : c.args.reader.now ≡ token_of c.in-Some.token ∷ c.next.new.self = grind arith in
    let opened = ap (converted of_json) (ap (value c.args.depth) (first ∙ ap (λ k. token_of k ∷ c.next.new.self) c.in-BeginArray.is) ∙ value-begin_array c.args.depth c.next.new.self (omega arith)) ∙ converted-array (items (value (c.args.depth - 1)) (length c.next.new.self) c.next.new.self) in
    let e = err_from_is_err_and c.from_residual-in_err-read_items-in-BeginArray.result c.from_residual-in_err-read_items-in-BeginArray.ensures.1 in
    rw (e.1, e.2) (fault_so c.in_err-read_items-in-BeginArray.field-0.0 (λ none. opened ∙ ap (parse_map array) none) c.in_err-read_items-in-BeginArray.ensures.none)

pub read_value-returns-then-depth-eq0-2-clause-none : goal.read_value-returns-then-depth-eq0-2-clause-none
unfolding value
read_value-returns-then-depth-eq0-2-clause-none t c =
    let first : c.args.reader.now ≡ token_of c.in-Some.token ∷ c.next.new.self = grind arith in
    let none : c.args.depth ≡ 0 = omega arith in
    ap (converted of_json) (ap₂ value none (first ∙ ap (λ k. token_of k ∷ c.next.new.self) c.in-BeginObject.is))

pub read_value-returns-in_err-members-in-BeginObject-clause-none : goal.read_value-returns-in_err-members-in-BeginObject-clause-none
read_value-returns-in_err-members-in-BeginObject-clause-none t c =
    let first : c.args.reader.now ≡ token_of c.in-Some.token ∷ c.next.new.self = grind arith in
    let opened = ap (converted of_json) (ap (value c.args.depth) (first ∙ ap (λ k. token_of k ∷ c.next.new.self) c.in-BeginObject.is) ∙ value-begin_object c.args.depth c.next.new.self (omega arith)) ∙ converted-object (members (value (c.args.depth - 1)) (length c.next.new.self) c.next.new.self) in
    let e = err_from_is_err_and c.from_residual-in_err-members-in-BeginObject.result c.from_residual-in_err-members-in-BeginObject.ensures.1 in
    rw (e.1, e.2) (fault_so c.in_err-members-in-BeginObject.field-0.0 (λ none. opened ∙ ap (parse_map object) none) c.in_err-members-in-BeginObject.ensures.none)

pub read_value-returns-in-String-clause-value : goal.read_value-returns-in-String-clause-value
read_value-returns-in-String-clause-value t c =
    let first : c.args.reader.now ≡ token_of c.in-Some.token ∷ c.next.new.self = grind arith in
    let is : c.args.reader.now ≡ Token.string c.in-String.text.now ∷ c.next.new.self = grind (arith, first) in
    let seen : view (String c.in-String.text) ≡ string c.in-String.text.now = search (rules, the_lemmas) in
    ap (converted of_json) (ap (value c.args.depth) is ∙ value_is c.args.depth _) ∙ ap (λ d. Some (d, c.next.new.self)) (sym seen)

pub read_value-returns-in_ok-read_number-in-Number-clause-value : goal.read_value-returns-in_ok-read_number-in-Number-clause-value
read_value-returns-in_ok-read_number-in-Number-clause-value t c =
    let first : c.args.reader.now ≡ token_of c.in-Some.token ∷ c.next.new.self = grind arith in
    let is : c.args.reader.now ≡ Token.number c.in-Number.text.now ∷ c.next.new.self = grind (arith, first) in
    let x = c.in_ok-read_number-in-Number in
    let seen : view (Number x.field-0) ≡ number (number_view x.field-0) = search (rules, the_lemmas) in
    ap (converted of_json) (ap (value c.args.depth) is ∙ value_is c.args.depth _) ∙ rw (x.ensures.number, seen)

pub read_value-returns-in-Bool-clause-value : goal.read_value-returns-in-Bool-clause-value
read_value-returns-in-Bool-clause-value t c =
    let first : c.args.reader.now ≡ token_of c.in-Some.token ∷ c.next.new.self = grind arith in
    let is : c.args.reader.now ≡ Token.boolean c.in-Bool.truth ∷ c.next.new.self = grind (arith, first) in
    let seen : view (Bool c.in-Bool.truth) ≡ boolean c.in-Bool.truth = search (rules, the_lemmas) in
    ap (converted of_json) (ap (value c.args.depth) is ∙ value_is c.args.depth _) ∙ ap (λ d. Some (d, c.next.new.self)) (sym seen)

pub read_value-returns-in-Null-clause-value : goal.read_value-returns-in-Null-clause-value
read_value-returns-in-Null-clause-value t c =
    let first : c.args.reader.now ≡ token_of c.in-Some.token ∷ c.next.new.self = grind arith in
    let is : c.args.reader.now ≡ Token.null ∷ c.next.new.self = grind (arith, first) in
    let seen : view (Null) ≡ null = search (rules, the_lemmas) in
    ap (converted of_json) (ap (value c.args.depth) is ∙ value_is c.args.depth _) ∙ ap (λ d. Some (d, c.next.new.self)) (sym seen)

pub read_value-returns-in-EndObject-clause-none : goal.read_value-returns-in-EndObject-clause-none
read_value-returns-in-EndObject-clause-none t c =
    let first : c.args.reader.now ≡ token_of c.in-Some.token ∷ c.next.new.self = grind arith in
    let none : value c.args.depth c.args.reader.now ≡ None = rw (value_is c.args.depth c.args.reader.now, first) (grind arith) in
    ap (converted of_json) none

pub read_value-returns-in_ok-read_items-in-BeginArray-clause-value : goal.read_value-returns-in_ok-read_items-in-BeginArray-clause-value
read_value-returns-in_ok-read_items-in-BeginArray-clause-value t c =
    let first : c.args.reader.now ≡ token_of c.in-Some.token ∷ c.next.new.self = grind arith in
    let opened = ap (converted of_json) (ap (value c.args.depth) (first ∙ ap (λ k. token_of k ∷ c.next.new.self) c.in-BeginArray.is) ∙ value-begin_array c.args.depth c.next.new.self (omega arith)) ∙ converted-array (items (value (c.args.depth - 1)) (length c.next.new.self) c.next.new.self) in
    let found = c.in_ok-read_items-in-BeginArray in
    opened ∙ ap (parse_map array) found.ensures.items ∙ ap (λ d. Some (d, c.read_items.new.reader)) (sym (view-Array found.field-0))

pub read_value-returns-in_ok-in_order-in-BeginObject-clause-value : goal.read_value-returns-in_ok-in_order-in-BeginObject-clause-value
read_value-returns-in_ok-in_order-in-BeginObject-clause-value t c =
    let first : c.args.reader.now ≡ token_of c.in-Some.token ∷ c.next.new.self = grind arith in
    let opened = ap (converted of_json) (ap (value c.args.depth) (first ∙ ap (λ k. token_of k ∷ c.next.new.self) c.in-BeginObject.is) ∙ value-begin_object c.args.depth c.next.new.self (omega arith)) ∙ converted-object (members (value (c.args.depth - 1)) (length c.next.new.self) c.next.new.self) in
    let ordered = c.in_ok-in_order-in-BeginObject in
    opened ∙ ap (parse_map object) c.in_ok-members-in-BeginObject.ensures.members
    ∙ ap (λ d. Some (d, c.read_members.new.reader)) (ap (λ ms. object (members_view ms)) (sym ordered.ensures) ∙ sym (view-Object ordered.field-0))

pub read_members-returns-in_err-key-clause-none : goal.read_members-returns-in_err-key-clause-none
read_members-returns-in_err-key-clause-none t c =
    let l = c.members in
    let n = l.invariant.0 in
    let e = err_from_is_err_and c.from_residual.result c.from_residual.ensures.1 in
    rw (e.1, e.2) (fault_so c.in_err-key.field-0.0 (λ none. l.invariant.2 ∙ key_refused (value c.args.depth) (members_view l.found.entries) n l.reader none) c.in_err-key.ensures.none)

pub read_members-returns-in_err-member-clause-none : goal.read_members-returns-in_err-member-clause-none
read_members-returns-in_err-member-clause-none t c =
    let l = c.members in
    let n = l.invariant.0 in
    let k = c.in-Some.key.now in
    let s = c.next_key.new.reader in
    let named : read_key l.reader ≡ Some (Some k, s) = grind arith in
    let e = err_from_is_err_and c.from_residual-in_err-member.result c.from_residual-in_err-member.ensures.1 in
    rw (e.1, e.2) (fault_so c.in_err-member.field-0.0 (λ none. l.invariant.2 ∙ member_refused (value c.args.depth) (members_view l.found.entries) n k l.reader s named none) c.in_err-member.ensures.none)

pub read_members-members-preserved : goal.read_members-members-preserved
read_members-members-preserved t c =
    let p = value c.args.depth in
    let l = c.members in
    let n = l.invariant.0 in
    let old = members_view l.found.entries in
    let k = c.in-Some.key.now in
    let s = c.next_key.new.reader in
    let named : read_key l.reader ≡ Some (Some k, s) = grind arith in
    let done = c.in_ok-member.ensures in
    let v = c.in_ok-member.member in
    let r = c.read_value.new.reader in
    let less = read_key-shorter l.reader (Some k) s named in
    let lesser = done.shorter in (
      n - 1,
      omega (arith, l.invariant.1),
      l.invariant.2 ∙ member_read p old n k l.reader s r (view v) (omega (arith, l.invariant.1)) named done.value
          ∙ ap (λ found. converted (λ ms. of_members ms found) (members p (n - 1) r)) (sym c.in_ok-put.ensures),
      omega (arith, l.invariant.3),
    )

pub read_members-returns-clause-members : goal.read_members-returns-clause-members
read_members-returns-clause-members t c =
    let l = c.members in
    l.invariant.2 ∙ members_over (value c.args.depth) (members_view l.found.entries) l.invariant.0 l.reader c.next_key.new.reader l.invariant.1 (grind arith)
