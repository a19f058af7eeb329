-- The units of an attribute, by its form.
use Rattle.std.proofs.Common.{◌≡◌, ◌==◌, Bool, true, false, List, [], ◌∷◌, length, map, refl, sym, ap, ◌∙◌, arith, true≢false}
use Rattle.std.specs.Prelude.{if◌then◌else◌}
use Rattle.std.proofs.lemmas.Bool.{eqb-true}
use Rattle.scim_schema.specs.declared.Kind.{Kind}
use Rattle.scim_schema.specs.declared.Attribute.{Attribute}
use Rattle.scim_schema.specs.declared.SubAttribute.{SubAttribute}
use Rattle.scim_schema.specs.Characteristics.{is_multi_valued}
use Rattle.scim_schema.specs.Table.{sub_attributes, leaves_with}
use Rattle.scim_schema.specs.Units.{simple, leaf_at, whole, unit_of, units_of}
use Rattle.scim_patch_message.specs.PathSteps.{unit_cleared, sub_attribute_cleared_at, cleared}
use Rattle.scim_patch_message.specs.Readings.{joined}
use Rattle.scim_patch_message.proofs.BothLemmas.{both_nil}

-- a multi-valued attribute is one unit
pub cleared_many : (kind : Kind) (a : Attribute) → is_multi_valued a ≡ true → unit_cleared kind (whole a) ≡ cleared kind a
cleared_many kind a many =
    let one : units_of a ≡ whole a ∷ [] = ap (λ (b : Bool). if b then whole a ∷ [] else map unit_of (leaves_with a (sub_attributes a))) many in
    sym (both_nil (unit_cleared kind (whole a))) ∙ ap (λ us. joined (map (unit_cleared kind) us)) (sym one)

-- the units of any other
few_units : (a : Attribute) (bs : List SubAttribute) → is_multi_valued a ≡ false → sub_attributes a ≡ bs → units_of a ≡ map unit_of (leaves_with a bs)
few_units a bs single e =
    ap (λ (b : Bool). if b then whole a ∷ [] else map unit_of (leaves_with a (sub_attributes a))) single ∙ ap (λ cs. map unit_of (leaves_with a cs)) e

-- so is a simple one
pub cleared_simple : (kind : Kind) (a : Attribute) (bs : List SubAttribute) → is_multi_valued a ≡ false → sub_attributes a ≡ bs → (length bs == 0) ≡ true
    → unit_cleared kind (unit_of (simple a)) ≡ cleared kind a
cleared_simple kind a [] single e none =
    sym (both_nil (unit_cleared kind (unit_of (simple a)))) ∙ ap (λ us. joined (map (unit_cleared kind) us)) (sym (few_units a [] single e))
cleared_simple kind a (b ∷ bs) single e none = absurd (let no = eqb-true (length (b ∷ bs)) 0 none in omega (arith, no))

mapped_units : (kind : Kind) (a : Attribute) (bs : List SubAttribute)
    → map (sub_attribute_cleared_at kind a) bs ≡ map (unit_cleared kind) (map unit_of (map (leaf_at a) bs))
mapped_units kind a [] = refl
mapped_units kind a (b ∷ bs) = ap (λ rs. sub_attribute_cleared_at kind a b ∷ rs) (mapped_units kind a bs)

-- and of a complex one each sub-attribute is
pub cleared_each : (kind : Kind) (a : Attribute) (bs : List SubAttribute) → is_multi_valued a ≡ false → sub_attributes a ≡ bs → (length bs == 0) ≡ false
    → joined (map (sub_attribute_cleared_at kind a) bs) ≡ cleared kind a
cleared_each kind a [] single e some = absurd (true≢false some)
cleared_each kind a (b ∷ bs) single e some =
    ap joined (mapped_units kind a (b ∷ bs)) ∙ ap (λ us. joined (map (unit_cleared kind) us)) (sym (few_units a (b ∷ bs) single e))
