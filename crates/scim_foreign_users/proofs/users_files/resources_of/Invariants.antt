use Rattle.std.proofs.Common.{◌≡◌, length, take}
use Rattle.scim_foreign_users.specs.UsersFiles.{AreMade}
use Rattle.scim_foreign_users.proofs.users_files.resources_of.Given as goal

-- a resource is made of each item so far
abbrev pub invariant-loop-index : goal.invariant-loop-index
invariant-loop-index l = record {
  count : length l.resources.items ≡ l.index;
  made : AreMade l.base l.now (take l.index l.items) (take l.index l.ids) l.resources.items;
}
