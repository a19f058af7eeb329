-- Places are totally ordered, and only equal places tie.
use Rattle.std.proofs.Common.{◌≡◌, refl, ap, arith}
use Rattle.std.specs.Prelude.{Option, None, Some}
use Rattle.std.specs.declared.cmp.Ordering.{Ordering}
use Rattle.std.specs.declared.cmp.Ordering.TheVariants.{Less, Equal, Greater}
use Rattle.std.specs.Ordering.{nat_cmp, ordering_then}
use Rattle.std.specs.Cmp.{IsTotalOrder, on_total, then_total, nat_cmp_total}
use Rattle.std.specs.FinMap.{IsAntisymmetric, nat_cmp-IsAntisymmetric}
use denote.Enum.Declared.{tag_of}
use denote.Enum.Bare.{tag_one}
use Rattle.scim_schema.specs.declared.SubAttribute.{SubAttribute}
use Rattle.scim_schema.specs.contracts.Attribute.{the_type as the_attribute}
use Rattle.scim_schema.specs.contracts.SubAttribute.{the_type as the_sub_attribute}
use Rattle.scim_cell.specs.declared.places.Place.{Place}
use Rattle.scim_cell.specs.Place.{attribute_number, sub_attribute_number, place_cmp}

pub place_total : IsTotalOrder place_cmp
place_total =
    then_total (on_total (λ (p : Place). attribute_number p.attribute) nat_cmp_total)
    (then_total (on_total (λ (p : Place). p.position) nat_cmp_total) (on_total (λ (p : Place). sub_attribute_number p.sub_attribute) nat_cmp_total))

first_tied : (r s : Ordering) → ordering_then r s ≡ Equal → r ≡ Equal
first_tied Less s e = e
first_tied Equal s e = refl
first_tied Greater s e = e

then_tied : (r s : Ordering) → ordering_then r s ≡ Equal → s ≡ Equal
then_tied Less s e = cc
then_tied Equal s e = e
then_tied Greater s e = cc

pub sub_attribute_one : (a b : Option SubAttribute) → sub_attribute_number a ≡ sub_attribute_number b → a ≡ b
sub_attribute_one None None e = refl
sub_attribute_one None (Some y) e = absurd (omega arith)
sub_attribute_one (Some x) None e = absurd (omega arith)
sub_attribute_one (Some x) (Some y) e =
    let t : tag_of the_sub_attribute x ≡ tag_of the_sub_attribute y = omega arith in
    ap (λ (s : SubAttribute). Some s) (tag_one the_sub_attribute tt x y t)

pub place_same : IsAntisymmetric place_cmp
place_same a b e =
    let by_attribute = nat_cmp (attribute_number a.attribute) (attribute_number b.attribute) in
    let by_position = nat_cmp a.position b.position in
    let by_part = nat_cmp (sub_attribute_number a.sub_attribute) (sub_attribute_number b.sub_attribute) in
    let later : ordering_then by_position by_part ≡ Equal = then_tied by_attribute _ e in
    let p : a.attribute ≡ b.attribute = tag_one the_attribute tt _ _ (nat_cmp-IsAntisymmetric _ _ (first_tied by_attribute _ e)) in
    let q : a.position ≡ b.position = nat_cmp-IsAntisymmetric _ _ (first_tied by_position _ later) in
    let r : a.sub_attribute ≡ b.sub_attribute = sub_attribute_one _ _ (nat_cmp-IsAntisymmetric _ _ (then_tied by_position _ later)) in
    λ i. record { attribute = p i; position = q i; sub_attribute = r i }
