-- Laws about warnings: each is certain.
use Rattle.std.specs.Prelude.{◌≡◌, ℕ, Bool, true, false, ◌&&◌, List, All, is_none}
use Rattle.std.specs.List.{list_all}
use Rattle.scim_schema.specs.declared.Attribute.TheVariants.{Id}
use Rattle.scim_schema.specs.declared.Op.{Op}
use Rattle.scim_schema.specs.declared.Op.TheVariants.{Read, Create, Modify, Delete}
use Rattle.scim_schema.specs.declared.Leaf.{Leaf}
use Rattle.scim_schema.specs.Units.{simple}
use Rattle.scim_cell.specs.Content.{Content}
use Rattle.scim_policy.specs.Access.{access, forbidding, leaves_of}
use Rattle.scim_policy.specs.Decide.{decide}
use Rattle.scim_policy.specs.Rules.{Rule}
use Rattle.scim_policy_warnings.specs.declared.clients.Client.{Client}
use Rattle.scim_policy_warnings.specs.declared.losses.Scope.{Scope}
use Rattle.scim_policy_warnings.specs.declared.losses.Scope.TheVariants.{Resources, OneUnit}
use Rattle.scim_policy_warnings.specs.declared.policy_warnings.Warning.{Warning}
use Rattle.scim_policy_warnings.specs.declared.possibilities.Extent.TheVariants.{EachValue}
use Rattle.scim_policy_warnings.specs.Clients.{is_meant}
use Rattle.scim_policy_warnings.specs.MayAllow.{may_allow}
use Rattle.scim_policy_warnings.specs.Warnings.{warnings}

-- what a policy never may allow in each value, it denies: to each client that is meant, on each resource of the kind
abbrev pub DeniesWhatItMayNotAllow : Type 0
DeniesWhatItMayNotAllow =
    (policy : List Rule) (client : Client) (own : List ℕ) (op : Op) (c : Content) (l : Leaf)
    → is_meant policy client own ≡ true → may_allow EachValue policy client op c.kind l ≡ false → (decide policy own op c l).allow ≡ false

-- the decision that a warning names is denied to the warning's client, on each resource of its kind
abbrev pub DeniesWhatIsMissing : Type 0
DeniesWhatIsMissing =
    (policy : List Rule)
    → All (λ (w : Warning). (own : List ℕ) (c : Content) → is_meant policy w.client own ≡ true → c.kind ≡ w.kind → (decide policy own w.loss.missing.op c w.loss.missing.leaf).allow ≡ false)
    (warnings policy)

-- whether a policy lets a client do an operation to a resource: read, create, change or delete it, or write a unit of it
abbrev pub lets : List Rule → List ℕ → Content → Op → Scope → Bool
lets policy own c Create Resources = (decide policy own Create c (simple Id)).allow
lets policy own c Create (OneUnit u more) = list_all (λ l. (decide policy own Create c l).allow) (leaves_of c.kind u)
lets policy own c Delete _ = (decide policy own Read c (simple Id)).allow && (decide policy own Delete c (simple Id)).allow
lets policy own c Modify (OneUnit u more) = is_none (forbidding c.kind (access policy own c) u)
lets policy own c _ _ = (decide policy own Read c (simple Id)).allow

-- what a warning says isn't done is never let, on each resource of its kind, to the warning's client
abbrev pub LetsNothingOfALoss : Type 0
LetsNothingOfALoss =
    (policy : List Rule)
    → All (λ (w : Warning). (own : List ℕ) (c : Content) → is_meant policy w.client own ≡ true → c.kind ≡ w.kind → lets policy own c w.op w.loss.scope ≡ false) (warnings policy)
