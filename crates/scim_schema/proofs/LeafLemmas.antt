-- Leaves that compare equal are one leaf.
use Rattle.std.proofs.Common.{◌≡◌, refl, ap, subst, Bool, true, false}
use Rattle.std.specs.Prelude.{◌&&◌, Option, Some, None, List, Contains}
use Rattle.std.specs.List.{IsAnyAnswer}
use Rattle.std.proofs.lemmas.List.Elements.{contains_decides, Decides-contains}
use Rattle.std.specs.Option.{option_eq}
use Rattle.std.specs.Bool.{Decides}
use denote.Enum.Bare.{sameb, same_true, true_same}
use Rattle.scim_schema.specs.declared.Leaf.{Leaf}
use Rattle.scim_schema.specs.declared.Attribute.{Attribute}
use Rattle.scim_schema.specs.declared.SubAttribute.{SubAttribute}
use Rattle.scim_schema.specs.contracts.Attribute.{the_type as the_attribute}
use Rattle.scim_schema.specs.contracts.SubAttribute.{the_type as the_sub_attribute}
use Rattle.scim_schema.specs.declared.Unit.{Unit as AttributeUnit}
use Rattle.scim_schema.specs.Units.{is_same_leaf, is_same_unit}

pub attribute_one : (a b : Attribute) → sameb the_attribute a b ≡ true → a ≡ b
attribute_one a b e = same_true the_attribute tt a b e

pub sub_attribute_one : (a b : SubAttribute) → sameb the_sub_attribute a b ≡ true → a ≡ b
sub_attribute_one a b e = same_true the_sub_attribute tt a b e

pub option_one : (a b : Option SubAttribute) → option_eq (sameb the_sub_attribute) a b ≡ true → a ≡ b
option_one None None e = refl
option_one None (Some y) e = cc
option_one (Some x) None e = cc
option_one (Some x) (Some y) e = ap (λ (s : SubAttribute). Some s) (sub_attribute_one x y e)

pub option_same : (a b : Option SubAttribute) → a ≡ b → option_eq (sameb the_sub_attribute) a b ≡ true
option_same None None e = refl
option_same None (Some y) e = cc
option_same (Some x) None e = cc
option_same (Some x) (Some y) e = true_same the_sub_attribute x y (cc)

pub and_first : (p q : Bool) → p && q ≡ true → p ≡ true
and_first true q e = refl
and_first false q e = e

pub and_second : (p q : Bool) → p && q ≡ true → q ≡ true
and_second true q e = e
and_second false q e = cc

pub leaf_one : (a b : Leaf) → sameb the_attribute a.attribute b.attribute && option_eq (sameb the_sub_attribute) a.sub_attribute b.sub_attribute ≡ true → a ≡ b
leaf_one a b e =
    let p : a.attribute ≡ b.attribute = attribute_one a.attribute b.attribute (and_first _ _ e) in
    let q : a.sub_attribute ≡ b.sub_attribute = option_one a.sub_attribute b.sub_attribute (and_second _ _ e) in
    λ i. record { attribute = p i; sub_attribute = q i }

pub leaf_same : (a b : Leaf) → a ≡ b → sameb the_attribute a.attribute b.attribute && option_eq (sameb the_sub_attribute) a.sub_attribute b.sub_attribute ≡ true
leaf_same a b e =
    let p : sameb the_attribute a.attribute b.attribute ≡ true = true_same the_attribute a.attribute b.attribute (ap (λ (l : Leaf). l.attribute) e) in
    let q : option_eq (sameb the_sub_attribute) a.sub_attribute b.sub_attribute ≡ true = option_same a.sub_attribute b.sub_attribute (ap (λ (l : Leaf). l.sub_attribute) e) in
    rw (p, q) refl

-- so `==` decides
pub is_same_leaf-Decides : (a b : Leaf) → Decides (is_same_leaf a b) (a ≡ b)
is_same_leaf-Decides a b = (leaf_one a b, leaf_same a b)

leaf_like : AttributeUnit → Leaf
leaf_like u = record { attribute = u.attribute; sub_attribute = u.sub_attribute }

unit_like : Leaf → AttributeUnit
unit_like l = record { attribute = l.attribute; sub_attribute = l.sub_attribute }

pub is_same_unit-Decides : (u v : AttributeUnit) → Decides (is_same_unit u v) (u ≡ v)
unfolding leaf_like unit_like
is_same_unit-Decides u v =
    let d = is_same_leaf-Decides (leaf_like u) (leaf_like v) in (λ t. ap unit_like (d.0 t), λ e. d.1 (ap leaf_like e))

-- what `contains` at a list of leaves answers
pub Decides-contains_leaf : (ls ms : List Leaf) (x : Leaf) (r : Bool) → ls ≡ ms → IsAnyAnswer (λ y t. is_same_leaf y x ≡ t) ls r → Decides r (Contains ms x)
Decides-contains_leaf ls ms x r e h =
    subst (λ (l : List Leaf). Decides r (Contains l x)) e (Decides-contains ls x r (contains_decides is_same_leaf is_same_leaf-Decides ls x r h))
