-- The rows of a resource, in groups by unit.
use Rattle.std.specs.Prelude.{◌≡◌, ℕ, List, ◌++◌, length, All, AllPairs, Result, Ok, Err}
use Rattle.std.specs.List.{flat_map}
use Rattle.std.specs.declared.cmp.Ordering.TheVariants.{Less, Greater}
use Rattle.scim_schema.specs.declared.Kind.{Kind}
use Rattle.scim_schema.specs.declared.Unit.{Unit as AttributeUnit}
use Rattle.scim_cell.specs.Content.{Content}
use Rattle.scim_cell.specs.Place.{unit_cmp}
use Rattle.scim_cell.specs.Rows.{Row, rows}
use Rattle.scim_value.specs.Resource.{IsResource}
use Rattle.scim_patch_steps.specs.declared.steps.StepFault.{StepFault}
use Rattle.scim_patch_steps.specs.declared.unit_rows.UnitRows.{UnitRows}

-- the rows of the groups, one group after another
abbrev pub joined : List UnitRows → List Row
joined gs = flat_map (λ (g : UnitRows). g.rows.items) gs

-- the rows of a group are of its unit
abbrev pub IsOwn : UnitRows → Type 0
IsOwn g = All (λ (r : Row). r.unit ≡ g.unit) g.rows.items

-- groups in order of unit, at most one for each unit
pub record AreGroups (gs : List UnitRows) : Type 0 where
  pub own : All IsOwn gs
  pub ascending : AllPairs (λ g h. unit_cmp g.unit h.unit ≡ Less) gs

-- the group of a unit is taken out of the groups at an index: the groups left, and its rows
pub record IsTaken (u : AttributeUnit) (before : List UnitRows) (index : ℕ) (own : List Row) (left : List UnitRows) : Type 0 where
  pub low : List UnitRows
  pub high : List UnitRows
  pub left_is : left ≡ low ++ high
  pub index_is : index ≡ length low
  pub rows_are : joined before ≡ joined low ++ (own ++ joined high)
  pub of_unit : All (λ (r : Row). r.unit ≡ u) own
  pub low_groups : AreGroups low
  pub high_groups : AreGroups high
  pub below : All (λ g. unit_cmp g.unit u ≡ Less) low
  pub above : All (λ g. unit_cmp g.unit u ≡ Greater) high

-- they are the rows of a resource of the kind
pub record AreOfResource (kind : Kind) (rs : List Row) : Type 0 where
  pub resource : Content
  pub whole : IsResource resource
  pub kind_is : resource.kind ≡ kind
  pub rows_are : rows resource ≡ rs

-- the rows of the groups after steps, or the fault of a step
abbrev pub left_in : List UnitRows → Result (Unit {0}) StepFault → Result (List Row) StepFault
left_in gs (Ok done) = Ok (joined gs)
left_in gs (Err e) = Err e
