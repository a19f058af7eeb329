-- Orders made of two, and the order of units.
use Rattle.std.proofs.Common.{◌≡◌, ℕ, ◌<◌, refl, sym, inl, inr, ◌⊎◌, true}
use Rattle.std.specs.declared.cmp.Ordering.{Ordering}
use Rattle.std.specs.declared.cmp.Ordering.TheVariants.{Less, Equal, Greater}
use Rattle.std.specs.Ordering.{nat_cmp, ordering_then, is_eq}
use Rattle.std.specs.Cmp.{IsTotalOrder, ranked, nat_cmp_is, on_total, then_total, nat_cmp_total}
use denote.Enum.Bare.{tag_one}
use Rattle.scim_schema.specs.contracts.Attribute.{the_type as the_attribute}
use Rattle.scim_schema.specs.declared.Unit.{Unit as AttributeUnit}
use Rattle.scim_cell.specs.Place.{unit_cmp, attribute_number, sub_attribute_number}
use Rattle.scim_value.proofs.PlaceLemmas.{sub_attribute_one}

pub nat_less : (m n : ℕ) → m < n → nat_cmp m n ≡ Less
nat_less m n h = sym (nat_cmp_is m n Less h)

pub nat_tied : (m n : ℕ) → m ≡ n → nat_cmp m n ≡ Equal
nat_tied m n h = sym (nat_cmp_is m n Equal h)

pub first_less : (r s : Ordering) → r ≡ Less → ordering_then r s ≡ Less
first_less r s e = rw e refl

pub second_less : (r s : Ordering) → r ≡ Equal → s ≡ Less → ordering_then r s ≡ Less
second_less r s e f = rw (e, f) refl

pub then_less : (r s : Ordering) → ordering_then r s ≡ Less → (r ≡ Less) ⊎ ((r ≡ Equal) × (s ≡ Less))
then_less Less s e = inl refl
then_less Equal s e = inr (refl, e)
then_less Greater s e = cc

pub unit_total : IsTotalOrder unit_cmp
unit_total = then_total (on_total (λ (u : AttributeUnit). attribute_number u.attribute) nat_cmp_total) (on_total (λ (u : AttributeUnit). sub_attribute_number u.sub_attribute) nat_cmp_total)

both_tied : (r s : Ordering) → is_eq (ordering_then r s) ≡ true → (r ≡ Equal) × (s ≡ Equal)
both_tied Less s e = cc
both_tied Equal Less e = cc
both_tied Equal Equal e = (refl, refl)
both_tied Equal Greater e = cc
both_tied Greater s e = cc

-- units that tie are one
pub unit_same : (u v : AttributeUnit) → is_eq (unit_cmp u v) ≡ true → u ≡ v
unit_same u v e =
    let ties = both_tied (nat_cmp (attribute_number u.attribute) (attribute_number v.attribute)) (nat_cmp (sub_attribute_number u.sub_attribute) (sub_attribute_number v.sub_attribute)) e in
    let a : u.attribute ≡ v.attribute = tag_one the_attribute tt _ _ (ranked _ _ Equal (sym ties.0)) in
    let p : u.sub_attribute ≡ v.sub_attribute = sub_attribute_one _ _ (ranked _ _ Equal (sym ties.1)) in
    λ i. record { attribute = a i; sub_attribute = p i }

pub eq_is : (o : Ordering) → is_eq o ≡ true → o ≡ Equal
eq_is Less e = cc
eq_is Equal e = refl
eq_is Greater e = cc
