-- The two orders of the unique leaves, by computation.
use Rattle.std.proofs.Common.{refl, arith, []}
use Rattle.std.proofs.lemmas.List.Sorted.{IsPermutation-refl, IsPermutation-swap}
use Rattle.scim_schema.specs.declared.Kind.TheVariants.{User, Group}
use Rattle.scim_schema.specs.UniqueLeaves.{unique_leaves, unique_leaves_by_name, UniqueLeavesArePermuted, UniqueLeavesAscend}

pub permuted_leaves : UniqueLeavesArePermuted
unfolding unique_leaves unique_leaves_by_name
permuted_leaves User = IsPermutation-swap _ _ 0 1 (omega arith) (omega arith) refl
permuted_leaves Group = IsPermutation-refl []

pub ascending_leaves : UniqueLeavesAscend
unfolding unique_leaves_by_name
ascending_leaves User = refl
ascending_leaves Group = refl
