-- Warnings: what a rule allows in vain, because another decision that it needs is never allowed.
use Rattle.std.specs.Prelude.{ℕ, Bool, true, not, ◌&&◌, List, [], ◌∷◌, length, filter, filter_map, flat_map, Option, None, Some, option_map, if◌then◌else◌}
use Rattle.std.specs.List.{list_any, enumerate_from}
use Rattle.std.specs.Option.{option_or}
use Rattle.scim_schema.specs.declared.Kind.{Kind}
use Rattle.scim_schema.specs.declared.Op.{Op}
use Rattle.scim_schema.specs.declared.Op.TheVariants.{Read, Create, Modify, Delete}
use Rattle.scim_schema.specs.declared.Leaf.{Leaf}
use Rattle.scim_schema.specs.declared.Unit.{Unit as AttributeUnit}
use Rattle.scim_schema.specs.Mutability.{is_fixed, is_write_only}
use Rattle.scim_schema.specs.Names.{kinds, operations}
use Rattle.scim_schema.specs.Table.{leaves}
use Rattle.scim_schema.specs.Units.{is_same_unit, unit_of, units}
use Rattle.scim_policy.specs.Rules.{Rule}
use Rattle.scim_policy_warnings.specs.declared.clients.Client.{Client}
use Rattle.scim_policy_warnings.specs.declared.needs.Need.{Need}
use Rattle.scim_policy_warnings.specs.declared.possibilities.Extent.TheVariants.{SomeValue}
use Rattle.scim_policy_warnings.specs.declared.losses.Loss.{Loss}
use Rattle.scim_policy_warnings.specs.declared.losses.Scope.TheVariants.{Resources, OneUnit}
use Rattle.scim_policy_warnings.specs.declared.losses.LostUnit.{LostUnit}
use Rattle.scim_policy_warnings.specs.declared.policy_warnings.Warning.{Warning}
use Rattle.scim_policy_warnings.specs.Clients.{clients}
use Rattle.scim_policy_warnings.specs.MayAllow.{covers_leaf, is_about, may_allow}
use Rattle.scim_policy_warnings.specs.Needs.{missing, needed_at_all, needed_to_write}

-- whether an operation does anything at a leaf: no client reads what is writeOnly, or writes what is readOnly
abbrev pub has_effect : Op → Kind → Leaf → Bool
has_effect Read k l = not (is_write_only k l)
has_effect Create k l = not (is_fixed k (unit_of l))
has_effect Modify k l = not (is_fixed k (unit_of l))
has_effect Delete k l = true

-- the leaves at which an operation has an effect and may be allowed to a client, in some value
abbrev pub given_leaves : List Rule → Client → Op → Kind → List Leaf
given_leaves policy client op k = filter (λ l. has_effect op k l && may_allow SomeValue policy client op k l) (leaves k)

-- a unit with the first need for writing it that is never allowed; None if each may be allowed
abbrev pub lost_unit : List Rule → Client → Op → Kind → AttributeUnit → Option LostUnit
lost_unit policy client op k u = option_map (λ n. record { unit = u; missing = n }) (missing policy client k (needed_to_write op k u))

-- the units that can't be written, in order
abbrev pub lost_units : List Rule → Client → Op → Kind → List LostUnit
lost_units policy client op k = filter_map (lost_unit policy client op k) (units k)

-- what a policy may allow a client by an operation on resources of a kind: the leaves at which it may allow it, the first
-- need of the operation on any resource that is never allowed, and the units that can't be written
pub record Outlook : Type 0 where
  pub op : Op
  pub kind : Kind
  pub given : List Leaf
  pub missing : Option Need
  pub lost : List LostUnit

abbrev pub outlook : List Rule → Client → Op → Kind → Outlook
outlook policy client op k = record {
  op = op;
  kind = k;
  given = given_leaves policy client op k;
  missing = missing policy client k (needed_at_all op);
  lost = lost_units policy client op k;
}

-- ---- what one rule allows in vain

-- whether a rule covers a leaf that is given, in some value
abbrev pub gives_some : Outlook → Rule → Bool
gives_some o r = list_any (λ l. covers_leaf SomeValue o.op o.kind l r) o.given

-- whether a rule covers a leaf that is given and is of the unit
abbrev pub gives_part : Outlook → Rule → LostUnit → Bool
gives_part o r u = list_any (λ l. is_same_unit (unit_of l) u.unit && covers_leaf SomeValue o.op o.kind l r) o.given

-- the loss of all resources of the kind, by a need that is never allowed
abbrev pub all_lost : Need → Loss
all_lost n = record { scope = Resources; missing = n }

-- the loss of the first of some units, and how many more are lost
abbrev pub first_lost : List LostUnit → Option Loss
first_lost [] = None
first_lost (u ∷ us) = Some (record { scope = OneUnit u.unit (length us); missing = u.missing })

-- what a rule allows in vain: if it gives anything, all resources, where the operation on any resource lacks a need, or
-- else the lost units of which it gives a part
abbrev pub loss : Outlook → Rule → Option Loss
loss o r = if gives_some o r then option_or (option_map all_lost o.missing) (first_lost (filter (gives_part o r) o.lost)) else None

-- ---- the warnings of a policy

-- the warning of a numbered rule; None if it denies, isn't about the client, the operation and the kind, or allows
-- nothing in vain
abbrev pub warning : List Rule → Client → Op → Kind → (ℕ × Rule) → Option Warning
warning policy client op k n =
    if n.1.allow && is_about client op k n.1
    then option_map (λ lost. record { rule = n.0; client = client; op = op; kind = k; loss = lost }) (loss (outlook policy client op k) n.1)
    else None

-- the warnings for a client, an operation and a kind, in order of the rules
abbrev pub warnings_on : List Rule → Client → Kind → Op → List Warning
warnings_on policy client k op = filter_map (warning policy client op k) (enumerate_from 1 policy)

-- the warnings for a client
abbrev pub warnings_for : List Rule → Client → List Warning
warnings_for policy client = flat_map (λ k. flat_map (warnings_on policy client k) operations) kinds

-- the warnings of a policy
abbrev pub warnings : List Rule → List Warning
warnings policy = flat_map (warnings_for policy) (clients policy)
