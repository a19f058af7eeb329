use Rattle.std.proofs.Common.{◌≡◌, sym, ◌∙◌, ap, true, false, List, ◌∷◌, drop, map}
use Rattle.std.specs.List.{list_any}
use Rattle.std.proofs.lemmas.Result.{IfOk-weaker}
use Rattle.scim_value.specs.declared.uniqueness.UniqueName.{UniqueName}
use Rattle.scim_value.specs.Uniqueness.{Name, name_of}
use Rattle.scim_shelf.specs.Stores.{has_name}
use Rattle.scim_service.specs.code.Others.{beside}
use Rattle.scim_search.proofs.Facts.{first_and_rest, rest_whole}
use Rattle.scim_service.proofs.CreationLemmas.{owner_other, taken_first, taken_later}
use Rattle.scim_service.proofs.taken_names.+any_taken.Goals as goal

pub returns-then-is_another-clause-answer : goal.returns-then-is_another-clause-answer
returns-then-is_another-clause-answer g t c store stands honest base is =
    let names = c.args.names.now in
    let name = c.name-item.result in
    let others = beside c.args.own.now store.resources in
    let split : names ≡ name ∷ drop 1 names = first_and_rest names name c.in-len1-up.len_at_least c.name-item.is in
    let has : list_any (has_name (name_of name)) others ≡ true
    = sym (owner_other c.args.own.now (name_of name) store.resources c.in_ok-owner-in-len1-up.owner is.keyed (c.in_ok-owner-in-len1-up.ensures.answer store stands honest)) ∙ sym c.is_another.ensures ∙ c.if-is_another.true in
    taken_first (name_of name) (map name_of (drop 1 names)) others has
    ∙ ap (λ (ns : List UniqueName). list_any (λ (m : Name). list_any (has_name m) others) (map name_of ns)) (sym split)

pub returns-else-is_another-clause-answer : goal.returns-else-is_another-clause-answer
returns-else-is_another-clause-answer g t c =
    let names = c.args.names.now in
    let name = c.name-item.result in
    let split : names ≡ name ∷ drop 1 names = first_and_rest names name c.in-len1-up.len_at_least c.name-item.is in
    IfOk-weaker c.any_taken.result _ _
    (λ b answer store stands honest base is.
    (let earlier = c.any_taken.ensures.read.honest honest in
    let others = beside c.args.own.now store.resources in
    let free : list_any (has_name (name_of name)) others ≡ false
    = sym (owner_other c.args.own.now (name_of name) store.resources c.in_ok-owner-in-len1-up.owner is.keyed (c.in_ok-owner-in-len1-up.ensures.answer store stands earlier)) ∙ sym c.is_another.ensures ∙ c.if-is_another.false in
    taken_later (name_of name) (map name_of (drop 1 names)) others b free
    (answer store (c.in_ok-owner-in-len1-up.ensures.read.store store stands) honest base is
    ∙ ap (λ (ns : List UniqueName). list_any (λ (m : Name). list_any (has_name m) others) (map name_of ns)) (rest_whole names))
    ∙ ap (λ (ns : List UniqueName). list_any (λ (m : Name). list_any (has_name m) others) (map name_of ns)) (sym split)))
    c.any_taken.ensures.answer
