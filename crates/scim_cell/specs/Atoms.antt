-- The equality of atoms.
use Rattle.std.specs.Prelude.{◌≡◌, ◌==◌, Bool, true, false, nat_eq, refl}
use Rattle.std.specs.Bool.{Decides, beq}
use Rattle.std.specs.Cmp.{IsEquivalence, decided, booleans_Decides, unsigned_Decides}
use Rattle.std.specs.Cmp.Lexicographic.{pointwise, bytes_decides}
use Rattle.std.proofs.Common.{ap, subst, true≢false, sym}
use Rattle.scim_cell.specs.declared.atoms.Atom.{Atom}
use Rattle.scim_cell.specs.declared.atoms.Atom.TheVariants.{Text, Truth, Moment}

-- whether two atoms are of the same variant and their values are equal
abbrev pub is_same_atom : Atom → Atom → Bool
is_same_atom (Text a) (Text b) = pointwise nat_eq a b
is_same_atom (Truth a) (Truth b) = beq a b
is_same_atom (Moment a) (Moment b) = a == b
is_same_atom _ _ = false

-- each atom passes the test `is_same_atom` with itself
itself : (a : Atom) → is_same_atom a a ≡ true
itself (Text a) = (bytes_decides a a).1 refl
itself (Truth a) = (booleans_Decides a a).1 refl
itself (Moment a) = (unsigned_Decides a a).1 refl

-- atoms that pass the test `is_same_atom` are equal
same : (a b : Atom) → is_same_atom a b ≡ true → a ≡ b
same (Text a) (Text b) passes = ap Text ((bytes_decides a b).0 passes)
same (Truth a) (Truth b) passes = ap Truth ((booleans_Decides a b).0 passes)
same (Moment a) (Moment b) passes = ap Moment ((unsigned_Decides a b).0 passes)
same _ _ passes = absurd (true≢false (sym passes))

-- `is_same_atom` decides the equality of atoms
pub is_same_atom-Decides : (a b : Atom) → Decides (is_same_atom a b) (a ≡ b)
is_same_atom-Decides a b = (same a b, λ e. subst (λ c. is_same_atom a c ≡ true) e (itself a))

-- `is_same_atom` is an equivalence
pub is_same_atom-IsEquivalence : IsEquivalence is_same_atom
is_same_atom-IsEquivalence = decided is_same_atom is_same_atom-Decides
