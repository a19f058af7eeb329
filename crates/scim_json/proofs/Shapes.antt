-- Whether a shape of the JSON table fits an attribute.
use Rattle.std.proofs.Common.{List, [], ◌∷◌, Bool, false}
use Rattle.std.specs.Prelude.{not}
use Rattle.scim_schema.specs.declared.SubAttribute.{SubAttribute}
use Rattle.scim_schema.specs.declared.json_keys.JsonShape.{JsonShape}
use Rattle.scim_schema.specs.declared.json_keys.JsonShape.TheVariants.{Simple, Complex, MultiValued}

-- a shape fits the number of values and the sub-attributes
abbrev pub fits : JsonShape → Bool → List SubAttribute → Bool
fits Simple many [] = not many
fits Simple many (b ∷ bs) = false
fits Complex many [] = false
fits Complex many (b ∷ bs) = not many
fits MultiValued many bs = many
