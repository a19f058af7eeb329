use Rattle.std.proofs.Common.{◌≡◌, [], ◌∷◌, ◌++◌, ◌+◌, length, Some, None, true, false, ℕ, List, subst, rules, arith}
use Rattle.std.proofs.lemmas.List.{length-append}
use Rattle.json.specs.Json.{after_end_array}
use Rattle.json.specs.Value.{value_view}
use Rattle.scim_json.specs.Stored.{IsResourceBelow}
use Rattle.scim_json.specs.Documents.{IsDamagedBeside}
use Rattle.scim_json.proofs.ListedLemmas.{all_taken, more_follow, no_value, one_more, damaged_next}
use Rattle.scim_json.proofs.users_files.DocumentReader.next.Goals as goal

pub returns-then-is_at_end-clause-whole : goal.returns-then-is_at_end-clause-whole
returns-then-is_at_end-clause-whole c = λ base text cs h _.
    let left = c.args.self.now.reader in
    let is : c.is_at_end.result ≡ true = search rules in
    let none = rw is at c.is_at_end.ensures in
    let ends : after_end_array left ≡ Some c.take_end_array.new.self = grind arith in
    all_taken base text h.all h.begins cs left h.have (rw none at ends)

pub returns-else-is_at_end-clause-damaged : goal.returns-else-is_at_end-clause-damaged
returns-else-is_at_end-clause-damaged c = λ base text cs h.
    let left = c.args.self.now.reader in
    let is : c.is_at_end.result ≡ false = search rules in
    let some = rw is at c.is_at_end.ensures in
    let ends : after_end_array left ≡ Some c.take_end_array.new.self = grind arith in
    more_follow base text h.all h.begins cs left h.have c.take_end_array.new.self ends some

pub returns-in-Err-Because-clause-damaged : goal.returns-in-Err-Because-clause-damaged
returns-in-Err-Because-clause-damaged c = λ base text cs h.
    let left = c.args.self.now.reader in
    let going : (after_end_array left ≡ None) × (c.take_end_array.new.self ≡ left) = grind arith in
    let fails = rw (c.in-Err-Because.field-0-is, going.1) at c.in-Err-Because.ensures.damaged in
    no_value base text h.all h.begins cs left h.have going.0 fails

pub returns-in_default-clause-damaged : goal.returns-in_default-clause-damaged
returns-in_default-clause-damaged c = λ base text cs h.
    let left = c.args.self.now.reader in
    let going : (after_end_array left ≡ None) × (c.take_end_array.new.self ≡ left) = grind arith in
    let reads = rw going.1 at c.in-Ok.ensures.value in
    let less = rw going.1 at c.in-Ok.ensures.shorter in
    let none : c.in_ok-resource.field-0 ≡ None = search rules in
    damaged_next base text h.all h.begins cs left h.have going.0 (value_view c.in-Ok.item) c.next_item.new.reader reads less c.args.self.now.number c.in_ok-damaged.damaged.0 h.number_is c.in_ok-damaged.ensures
    (λ d is. subst (λ (b : List ℕ). IsDamagedBeside b cs d) h.base_is (c.in_ok-resource.ensures.none cs d h.records is (search rules)))

pub returns-clause-more : goal.returns-clause-more
returns-clause-more c = λ base text cs h.
    let left = c.args.self.now.reader in
    let r = c.in-Some.resource in
    let going : (after_end_array left ≡ None) × (c.take_end_array.new.self ≡ left) = grind arith in
    let reads = rw going.1 at c.in-Ok.ensures.value in
    let less = rw going.1 at c.in-Ok.ensures.shorter in
    let some = rw c.in-Some.is at (c.in_ok-resource.ensures.some cs h.records) in
    let longer : length (cs ++ r ∷ []) ≡ length cs + 1 = simp length-append (omega arith) in
    let next : c.in-Some-checked_add.number ≡ c.args.self.now.number + 1 = search rules in
    record {
      base_is = h.base_is;
      number_is = omega (arith, longer, next, h.number_is);
      records = some.2;
      all = h.all;
      begins = h.begins;
      have = one_more base text h.all h.begins cs left h.have going.0 (value_view c.in-Ok.item) c.next_item.new.reader reads less r some.1 (subst (λ (b : List ℕ). IsResourceBelow b r) h.base_is some.0) some.3;
    }
