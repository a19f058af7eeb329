use Rattle.std.proofs.Common.{◌≡◌, take, ◌&&◌, ◌||◌}
use Rattle.std.specs.Prelude.{string_bytes}
use Rattle.scim_schema.specs.Units.{is_same_leaf}
use Rattle.scim_value.specs.declared.uniqueness.UniqueName.{UniqueName}
use Rattle.scim_shelf.specs.Stores.{has_text_in}
use Rattle.scim_shelf.specs.Owners.{is_among}
use Rattle.scim_shelf.proofs.indexed_texts.push_texts.Given as goal

-- those of the values so far are appended
abbrev pub invariant-loop-value : goal.invariant-loop-value
invariant-loop-value l = (q : UniqueName) → is_among q l.texts.items
    ≡ (is_among q l.initial.texts.items || (is_same_leaf l.leaf q.leaf && has_text_in l.leaf (string_bytes q.text) (take l.value-index l.values)))
