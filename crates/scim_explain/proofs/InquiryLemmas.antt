-- What is in the way of a create.
use Rattle.std.proofs.Common.{◌≡◌, refl, true, false}
use Rattle.std.specs.Prelude.{Option, None, Some, is_some}
use Rattle.std.specs.Option.{option_or}
use Rattle.scim_schema.specs.declared.Attribute.TheVariants.{Id}
use Rattle.scim_schema.specs.declared.Leaf.{Leaf}
use Rattle.scim_schema.specs.declared.Op.TheVariants.{Create}
use Rattle.scim_schema.specs.Mutability.{is_fixed}
use Rattle.scim_schema.specs.Units.{simple, is_same_leaf, unit_of}
use Rattle.scim_explain.specs.declared.inquiries.Obstacle.TheVariants.{ReadOnly}
use Rattle.scim_explain.specs.Inquiries.{Inquiry, create_obstacle, denial, unit_obstacle}

pub or_found : {X : Type 0} (o p : Option X) → is_some o ≡ true → option_or o p ≡ o
or_found None p e = cc
or_found (Some x) p e = refl

pub or_missed : {X : Type 0} (o p : Option X) → is_some o ≡ false → option_or o p ≡ p
or_missed None p e = refl
or_missed (Some x) p e = cc

pub created_own : (i : Inquiry) (l : Leaf) → is_same_leaf l (simple Id) ≡ true → create_obstacle i l ≡ None
unfolding create_obstacle
created_own i l own = rw own refl

pub created_fixed : (i : Inquiry) (l : Leaf) → is_same_leaf l (simple Id) ≡ false → is_fixed i.kind (unit_of l) ≡ true → create_obstacle i l ≡ Some ReadOnly
unfolding create_obstacle
created_fixed i l other fixed = rw (other, fixed) refl

pub created_else : (i : Inquiry) (l : Leaf) → is_same_leaf l (simple Id) ≡ false → is_fixed i.kind (unit_of l) ≡ false → create_obstacle i l ≡ option_or (denial Create (simple Id) (i.on (simple Id))) (unit_obstacle i l)
unfolding create_obstacle
created_else i l other free = rw (other, free) refl
