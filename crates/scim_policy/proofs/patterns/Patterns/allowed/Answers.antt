use Rattle.std.proofs.Common.{◌≡◌, ◌≤◌, ◌∙◌, sym, ap, subst, ◌++◌, Bool, List, length, map}
use Rattle.std.proofs.Math.ListN.{drop_of_length-le}
use Rattle.std.proofs.lemmas.List.{append-nil}
use Rattle.scim_cell.specs.declared.rows.Field.{Field}
use Rattle.scim_policy.specs.declared.patterns.PartialRule.{PartialRule}
use Rattle.scim_policy.specs.PatternTable.{partial_paths}
use Rattle.scim_policy.specs.code.ValueWalk.{matching, matching_paths}
use Rattle.scim_policy.proofs.ValueLemmas.{is_allowed_by, all_fields_allowed}
use Rattle.scim_policy.proofs.patterns.Patterns.allowed.Goals as goal

pub returns : goal.returns
returns c =
    let value = c.args.value.now in
    let found = c.in_ok-matching.matching.items in
    let allows : Field → Bool = λ f. is_allowed_by c.args.self.now (map matching_paths found) f.leaf in
    let end : length value.fields ≤ c.loop-field.field-index = subst (λ (fs : List Field). length fs ≤ c.loop-field.field-index) c.fields-field-items.ensures c.loop-field-test.false in
    let all : c.loop-field.allowed.items ≡ map allows value.fields =
    sym (append-nil c.loop-field.allowed.items)
    ∙ sym (ap (λ (fs : List Field). c.loop-field.allowed.items ++ map allows fs) (drop_of_length-le value.fields end))
    ∙ c.loop-field.invariant in
    all
    ∙ all_fields_allowed c.args.self.now value (map matching_paths found)
    (c.in_ok-matching.ensures ∙ ap (λ (rs : List PartialRule). map (matching value) (map partial_paths rs)) c.as_slice.ensures.value)
