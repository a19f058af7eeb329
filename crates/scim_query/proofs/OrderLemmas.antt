-- The order of ranks is a total order.
use Rattle.std.proofs.Common.{◌≡◌, Bool, true, false, Option, Some, None, refl}
use Rattle.std.specs.declared.cmp.Ordering.TheVariants.{Less, Equal}
use Rattle.std.specs.Ordering.{ordering_reverse}
use Rattle.std.specs.Cmp.{IsTotalOrder, bool_cmp_total}
use Rattle.std.proofs.lemmas.Cmp.{nat_cmp_total, nat_list_cmp_total, on_total, then_total, back_total}
use Rattle.scim_cell.specs.declared.atoms.Atom.{Atom}
use Rattle.scim_cell.specs.declared.atoms.Atom.TheVariants.{Text, Truth, Moment}
use Rattle.scim_query.specs.Order.{atom_cmp, ascending_cmp, key_cmp, Rank, rank_cmp}

atom_antisymm : (x y : Atom) → atom_cmp x y ≡ ordering_reverse (atom_cmp y x)
atom_antisymm (Text a) (Text b) = nat_list_cmp_total.antisymm a b
atom_antisymm (Truth a) (Truth b) = bool_cmp_total.antisymm a b
atom_antisymm (Moment a) (Moment b) = nat_cmp_total.antisymm a b
atom_antisymm (Text a) (Truth b) = refl
atom_antisymm (Text a) (Moment b) = refl
atom_antisymm (Truth a) (Text b) = refl
atom_antisymm (Truth a) (Moment b) = refl
atom_antisymm (Moment a) (Text b) = refl
atom_antisymm (Moment a) (Truth b) = refl

atom_trans : (x y z : Atom) → atom_cmp x y ≡ Less → atom_cmp y z ≡ Less → atom_cmp x z ≡ Less
atom_trans (Text a) (Text b) (Text c) p q = nat_list_cmp_total.trans a b c p q
atom_trans (Truth a) (Truth b) (Truth c) p q = bool_cmp_total.trans a b c p q
atom_trans (Moment a) (Moment b) (Moment c) p q = nat_cmp_total.trans a b c p q
atom_trans (Text a) (Truth b) (Text c) p q = cc
atom_trans (Text a) (Moment b) (Text c) p q = cc
atom_trans (Text a) y (Truth c) p q = refl
atom_trans (Text a) y (Moment c) p q = refl
atom_trans (Truth a) (Text b) z p q = cc
atom_trans (Truth a) (Truth b) (Text c) p q = cc
atom_trans (Truth a) (Moment b) (Text c) p q = cc
atom_trans (Truth a) (Moment b) (Truth c) p q = cc
atom_trans (Truth a) y (Moment c) p q = refl
atom_trans (Moment a) (Text b) z p q = cc
atom_trans (Moment a) (Truth b) z p q = cc
atom_trans (Moment a) (Moment b) (Text c) p q = cc
atom_trans (Moment a) (Moment b) (Truth c) p q = cc

atom_congr : (x y z : Atom) → atom_cmp x y ≡ Equal → atom_cmp x z ≡ atom_cmp y z
atom_congr (Text a) (Text b) (Text c) p = nat_list_cmp_total.congr a b c p
atom_congr (Truth a) (Truth b) (Truth c) p = bool_cmp_total.congr a b c p
atom_congr (Moment a) (Moment b) (Moment c) p = nat_cmp_total.congr a b c p
atom_congr x y z p = cc

key_antisymm : (x y : Option Atom) → ascending_cmp x y ≡ ordering_reverse (ascending_cmp y x)
key_antisymm (Some a) (Some b) = atom_antisymm a b
key_antisymm (Some a) None = refl
key_antisymm None (Some b) = refl
key_antisymm None None = refl

key_trans : (x y z : Option Atom) → ascending_cmp x y ≡ Less → ascending_cmp y z ≡ Less → ascending_cmp x z ≡ Less
key_trans (Some a) (Some b) (Some c) p q = atom_trans a b c p q
key_trans (Some a) y None p q = refl
key_trans (Some a) None (Some c) p q = cc
key_trans None (Some b) z p q = cc
key_trans None None z p q = cc

key_congr : (x y z : Option Atom) → ascending_cmp x y ≡ Equal → ascending_cmp x z ≡ ascending_cmp y z
key_congr (Some a) (Some b) (Some c) p = atom_congr a b c p
key_congr (Some a) (Some b) None p = refl
key_congr (Some a) None z p = cc
key_congr None (Some b) z p = cc
key_congr None None z p = refl

ascending_cmp_total : IsTotalOrder ascending_cmp
ascending_cmp_total = record { antisymm = key_antisymm; trans = key_trans; congr = key_congr }

key_cmp_total : (descending : Bool) → IsTotalOrder (key_cmp descending)
key_cmp_total true = back_total ascending_cmp_total
key_cmp_total false = ascending_cmp_total

pub rank_cmp_total : (descending : Bool) → IsTotalOrder (rank_cmp descending)
rank_cmp_total descending =
    then_total (on_total (λ (r : Rank). r.0) (key_cmp_total descending)) (on_total (λ (r : Rank). r.1) nat_list_cmp_total)
