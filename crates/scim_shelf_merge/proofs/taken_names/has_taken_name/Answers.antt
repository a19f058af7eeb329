use Rattle.std.proofs.Common.{◌∙◌, ap, ℕ, List, map}
use Rattle.std.specs.List.{list_any}
use Rattle.std.proofs.lemmas.Result.{IfOk-weaker}
use Rattle.scim_value.specs.declared.uniqueness.UniqueName.{UniqueName}
use Rattle.scim_value.specs.Uniqueness.{Name, name_of}
use Rattle.scim_shelf.specs.Stores.{has_name, without}
use Rattle.scim_shelf_merge.proofs.taken_names.has_taken_name.Goals as goal

pub returns-clause-answer : goal.returns-clause-answer
returns-clause-answer g c =
    IfOk-weaker c.is_any_taken.result _ _
    (λ b answer store stands honest keyed.
    answer store stands honest keyed
    ∙ ap (λ (id : List ℕ). list_any (λ (m : Name). list_any (has_name m) (without id store.resources)) (map name_of c.as_slice.result.now)) c.id.ensures
    ∙ ap (λ (ns : List UniqueName). list_any (λ (m : Name). list_any (has_name m) (without c.args.resource.now.id store.resources)) (map name_of ns)) c.as_slice.ensures.value
    ∙ ap (λ (ns : List Name). list_any (λ (m : Name). list_any (has_name m) (without c.args.resource.now.id store.resources)) ns) c.in_ok-names.ensures)
    c.is_any_taken.ensures.answer
