-- The theorem that the outcome of replacing depends only on the units that are replaced and that a client may read.
use Rattle.std.specs.Prelude.{◌≡◌, ◌≢◌, ◌⊎◌, ℕ, Bool, true, false, List, [], ◌∷◌, Option, None, Some, All, if◌then◌else◌}
use Rattle.scim_schema.specs.declared.Kind.{Kind}
use Rattle.scim_schema.specs.declared.Unit.{Unit as AttributeUnit}
use Rattle.scim_schema.specs.declared.Attribute.TheVariants.{Meta}
use Rattle.scim_schema.specs.declared.SubAttribute.TheVariants.{LastModified}
use Rattle.scim_schema.specs.Mutability.{is_secret}
use Rattle.scim_schema.specs.Units.{leaf_at, unit_of}
use Rattle.scim_cell.specs.declared.atoms.Atom.TheVariants.{Moment}
use Rattle.scim_cell.specs.Content.{Content}
use Rattle.scim_cell.specs.Rows.{rows, values}
use Rattle.scim_value.specs.Resource.{IsResource}
use Rattle.scim_body.specs.Drafts.{Draft, IsDraft}
use Rattle.scim_change.specs.Create.{meta_row}
use Rattle.scim_change.specs.Replace.{changes, replaced}

-- two resources have equal values of each of these units
abbrev pub AgreeAt : List AttributeUnit → Content → Content → Type 0
AgreeAt us a b = All (λ u. values u (rows a) ≡ values u (rows b)) us

-- two resources have equal values of each of these units that isn't writeOnly
abbrev pub AgreeAtOpen : Kind → List AttributeUnit → Content → Content → Type 0
AgreeAtOpen kind us a b = All (λ u. is_secret kind u ≡ false → values u (rows a) ≡ values u (rows b)) us

-- after a change both resources have equal values of a unit; or the unit is writeOnly, and each resource keeps its
-- own values of it
abbrev pub EndsAlike : Kind → AttributeUnit → Content → Content → Content → Content → Type 0
EndsAlike kind u a b x y =
    (values u (rows x) ≡ values u (rows y))
    ⊎ ((is_secret kind u ≡ true) × (values u (rows x) ≡ values u (rows a)) × (values u (rows y) ≡ values u (rows b)))

-- the unit isn't one of these units and isn't `meta.lastModified`
pub record IsApart (us : List AttributeUnit) (v : AttributeUnit) : Type 0 where
  pub none : All (λ u. u ≢ v) us
  pub unstamped : unit_of (leaf_at Meta LastModified) ≢ v

-- the change keeps the resource's values, except at these units and at `meta.lastModified`
abbrev pub Stays : List AttributeUnit → Content → Content → Type 0
Stays us before after = (v : AttributeUnit) → IsApart us v → values v (rows after) ≡ values v (rows before)

-- after the change `meta.lastModified` is the moment if something changed, otherwise it is unchanged (RFC
-- 7643 section 3.1)
abbrev pub IsStamped : Bool → ℕ → Content → Content → Type 0
IsStamped changed moment before after =
    values (unit_of (leaf_at Meta LastModified)) (rows after)
    ≡ (if changed then meta_row LastModified (Moment moment) ∷ [] else values (unit_of (leaf_at Meta LastModified)) (rows before))

-- the change keeps the resource's kind and id, and the values of all units except these; it sets
-- `meta.lastModified` to the moment if something changed
pub record IsLeft (us : List AttributeUnit) (changed : Bool) (moment : ℕ) (before after : Content) : Type 0 where
  pub kind : after.kind ≡ before.kind
  pub id : after.id ≡ before.id
  pub stays : Stays us before after
  pub modified : IsStamped changed moment before after

-- the outcomes of two changes are alike: both changes are refused, or each of the units ends alike in both
-- resources, and each resource keeps its other values
abbrev pub AreAlike : Kind → List AttributeUnit → Bool → ℕ → Content → Content → Option Content → Option Content → Type 0
AreAlike kind us changed moment a b None None = Unit {0}
AreAlike kind us changed moment a b (Some x) (Some y) =
    All (λ u. EndsAlike kind u a b x y) us × IsLeft us changed moment a x × IsLeft us changed moment b y
AreAlike kind us changed moment a b _ _ = ⊥

-- replacing the units of two resources that have equal values of those that aren't writeOnly has alike outcomes,
-- and changes both resources or neither
abbrev pub ReplacingRestsOnItsUnits : Type 0
ReplacingRestsOnItsUnits =
    (d : Draft) (us : List AttributeUnit) (moment : ℕ) (a b : Content)
    → IsDraft d → IsResource a → IsResource b → a.kind ≡ d.kind → b.kind ≡ d.kind → AgreeAtOpen d.kind us a b
    → (changes d us (rows a) ≡ changes d us (rows b)) × AreAlike d.kind us (changes d us (rows a)) moment a b (replaced d us moment a) (replaced d us moment b)
