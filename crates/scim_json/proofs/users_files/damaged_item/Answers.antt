use Rattle.std.proofs.Common.{◌≡◌, true, inl, refl, rules}
use Rattle.scim_json.proofs.users_files.damaged_item.Goals as goal

pub returns-then-branch-2 : goal.returns-then-branch-2
returns-then-branch-2 c =
    let has : c.in_ok-has_value.field-0 ≡ true = search rules in
    let is : c.in_ok-is_rest_of_list.field-0 ≡ true = search rules in
    let value = rw has at c.in_ok-has_value.ensures in
    inl (refl, (value.0, value.1, λ turns enough. rw is at (c.in_ok-is_rest_of_list.ensures turns enough)))
