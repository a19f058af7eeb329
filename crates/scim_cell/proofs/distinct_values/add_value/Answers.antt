use Rattle.std.proofs.Common.{rules, ◌≡◌, sym, ◌∙◌, ap, false}
use Rattle.std.specs.Prelude.{is_some, string_bytes}
use Rattle.std.specs.List.{list_any}
use Rattle.std.specs.Str.{bytes_eq}
use Rattle.std.specs.BTreeMap.{get_by_text}
use Rattle.scim_cell.specs.SameValues.{is_same_value}
use Rattle.scim_cell.specs.code.Keys.{key_of}
use Rattle.scim_cell.proofs.KeyLemmas.{covers_push, none_same, with_value_other}
use Rattle.scim_cell.proofs.distinct_values.add_value.Goals.{in_default-via-in-Some+else-has_same, in_default-via-in_default}
use Rattle.scim_cell.proofs.distinct_values.add_value.Goals as goal

pub returns-in_ok-push-in_default-clause-items : goal.returns-in_ok-push-in_default-clause-items
returns-in_ok-push-in_default-clause-items c =
    let other : list_any (λ s. is_same_value c.args.attribute s c.args.value) c.args.values.now.items ≡ false = elim c.in_default.branch [
      | in_default-via-in-Some+else-has_same w ↦ search rules
      | in_default-via-in_default w ↦
          let unknown : is_some (get_by_text c.args.places.now (string_bytes c.in_ok-key_of_value.key_of_value)) ≡ false = search rules in
          none_same c.args.attribute c.args.values.now.items c.args.value
          (ap (λ k. list_any (λ s. bytes_eq k (key_of c.args.attribute s)) c.args.values.now.items) (sym c.in_ok-key_of_value.ensures)
          ∙ sym (c.requires (string_bytes c.in_ok-key_of_value.key_of_value))
          ∙ unknown)
    ] in
    c.in_ok-push-in_default.ensures.items ∙ sym (with_value_other c.args.attribute _ _ other)

pub returns-in_ok-push-in_default-clause-covers : goal.returns-in_ok-push-in_default-clause-covers
returns-in_ok-push-in_default-clause-covers c = λ q.
    rw c.in_ok-push-in_default.ensures.items
    (covers_push c.args.places.now c.insert.new.self c.in_ok-key_of_value.key_of_value _ c.args.attribute _ c.args.value
    c.in_ok-key_of_value.ensures c.in_ok-insert-in_default.ensures.updates c.requires q)
