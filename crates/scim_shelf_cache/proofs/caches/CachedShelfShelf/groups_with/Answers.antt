use Rattle.std.proofs.Common.{rules}
use Rattle.scim_shelf_cache.proofs.caches.CachedShelfShelf.groups_with.Goals as goal

-- by name, so that a body that breaks it is refused at once
pub returns-in_ok-show_groups_with-in-Some-clause-answer : goal.returns-in_ok-show_groups_with-in-Some-clause-answer
returns-in_ok-show_groups_with-in-Some-clause-answer g c = search rules
