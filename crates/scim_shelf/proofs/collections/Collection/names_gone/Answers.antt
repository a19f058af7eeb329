use Rattle.std.proofs.Common.{rules, ◌∙◌, ap, Bool, not, ◌&&◌}
use Rattle.std.specs.Prelude.{find}
use Rattle.std.proofs.lemmas.Fn.{filter_same}
use Rattle.scim_value.specs.declared.uniqueness.UniqueName.{UniqueName}
use Rattle.scim_shelf.specs.Indexed.{has_id}
use Rattle.scim_shelf.specs.Owners.{is_among}
use Rattle.scim_shelf.proofs.OwnerLemmas.{among_filter, among_alike, among_found}
use Rattle.scim_shelf.proofs.collections.Collection.names_gone.Goals as goal

pub returns : goal.returns
returns c = λ cs h q.
    let names = c.args.names.now in
    let all = c.in_ok-gone.gone.items in
    let test = λ (n : UniqueName). not (is_among n names) in
    ap (is_among q) (filter_same _ test _ (λ x b f' h. (search rules, search rules)) _ _ c.retain.ensures.filtered)
    ∙ among_filter q test (λ n alike. ap not (among_alike n q names alike)) all
    ∙ ap (λ (b : Bool). b && test q) (among_found q all (find (has_id c.args.id) cs) (c.in_ok-gone.ensures cs h))
