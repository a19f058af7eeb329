use Rattle.std.proofs.Common.{◌∙◌, ap, List, map}
use Rattle.std.specs.List.{list_any}
use Rattle.std.proofs.lemmas.Result.{IfOk-weaker}
use Rattle.scim_value.specs.declared.uniqueness.UniqueName.{UniqueName}
use Rattle.scim_value.specs.Uniqueness.{Name, name_of}
use Rattle.scim_shelf.specs.Stores.{has_name}
use Rattle.scim_service.specs.code.Others.{beside}
use Rattle.scim_service.proofs.taken_names.has_taken_name.Goals as goal

pub returns-clause-answer : goal.returns-clause-answer
returns-clause-answer g c =
    let own = c.args.own.now in
    IfOk-weaker c.any_taken.result _ _
    (λ b answer store stands honest base is.
    answer store stands honest base is
    ∙ ap (λ (ns : List UniqueName). list_any (λ (m : Name). list_any (has_name m) (beside own store.resources)) (map name_of ns)) c.as_slice.ensures.value
    ∙ ap (λ (ns : List Name). list_any (λ (m : Name). list_any (has_name m) (beside own store.resources)) ns) c.in_ok-names.ensures)
    c.any_taken.ensures.answer
