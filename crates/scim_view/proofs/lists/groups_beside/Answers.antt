use Rattle.std.proofs.Common.{◌≡◌, ◌∙◌, ap, List}
use Rattle.scim_cell.specs.Content.{Content}
use Rattle.scim_cell.specs.Rows.{Row}
use Rattle.scim_view.specs.Groups as spec
use Rattle.scim_view.specs.code.Index.{groups_of}
use Rattle.scim_view.specs.code.Memberships.{kept_cmp}
use Rattle.scim_view.specs.Sorted.{sorted_by}
use Rattle.scim_view.proofs.ListLemmas.{memberships_given}
use Rattle.scim_view.proofs.lists.groups_beside.Goals as goal

pub returns-in_ok-put_in_order-in-User : goal.returns-in_ok-put_in_order-in-User
returns-in_ok-put_in_order-in-User c gs indexes base =
    let user = c.args.resource.now in
    let own : c.id.result ≡ user.id = c.id.ensures ∙ ap (λ (p : Content). p.id) c.part-part.ensures.value in
    ap (λ (ms : List Row). spec.rows_with ms user)
    (memberships_given gs c.args.index.now user.id base c.put_in_order.new.groups.items indexes c.part-part.ensures.valid.identified.0
    (c.in_ok-put_in_order-in-User.ensures ∙ ap (sorted_by kept_cmp) (c.in_ok-groups-in-User.ensures ∙ ap (groups_of c.args.index.now) own)))
