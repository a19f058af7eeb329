-- The unique names that are in use after a request (RFC 7643 section 2.2, uniqueness).
use Rattle.std.specs.Prelude.{◌≡◌, ℕ, Bool, false, not, ◌&&◌, ◌||◌, List, Option, None, Some}
use Rattle.scim_schema.specs.declared.Unit.{Unit as AttributeUnit}
use Rattle.scim_cell.specs.Content.{Content}
use Rattle.scim_value.specs.Resource.{IsResource}
use Rattle.scim_value.specs.Uniqueness.{Name, unique_names}
use Rattle.scim_change.specs.Laws.{AgreeAt, IsLeft}
use Rattle.scim_policy.specs.Rules.{Rule}
use Rattle.scim_policy.specs.Control.{control}
use Rattle.scim_shelf.specs.declared.changes.Change.{Change}
use Rattle.scim_shelf.specs.declared.changes.Change.TheVariants.{Nothing, Keep, Remove}
use Rattle.scim_shelf.specs.Stores.{Store, IsStore, IsOld, has_name}
use Rattle.scim_service.specs.declared.requests.Turn.{Turn}
use Rattle.scim_service.specs.Step.{plan, next_store}
use Rattle.scim_noninterference.specs.Alike.{is_in_use}

-- Whether a resource, if there is one, has the unique name.
abbrev pub has_name_if : Name → Option Content → Bool
has_name_if name None = false
has_name_if name (Some c) = has_name name c

-- Whether a unique name is in use after a change. `before` is whether the name was in use before. The change
-- first frees the names of `old`, the resource that it replaces or removes, and then adds the names of the
-- resource that it stores.
abbrev pub in_use_after : Change → Option Content → Name → Bool → Bool
in_use_after Nothing old name before = before
in_use_after (Keep c) old name before = has_name name c || (before && not (has_name_if name old))
in_use_after (Remove kind id) old name before = before && not (has_name_if name old)

-- The unique names in use after a request depend only on the names in use before the request, and on the
-- names that the changed resource has before and after the change.
abbrev pub NamesAfterTurns : Type 0
NamesAfterTurns =
    (policy : List Rule) (base : List ℕ) (turn : Turn) (store : Store) (old : Option Content) (name : Name)
    → IsStore base store → IsOld store.resources (plan policy base turn store).change old
    → is_in_use (next_store policy base turn store).resources name ≡ in_use_after (plan policy base turn store).change old name (is_in_use store.resources name)

-- The unique names of a resource depend only on its kind and its control: the values that the policy's
-- targets name or that must be unique.
abbrev pub NamesRestOnControl : Type 0
NamesRestOnControl =
    (policy : List Rule) (a b : Content) → IsResource a → IsResource b
    → a.kind ≡ b.kind → control policy a ≡ control policy b → unique_names a ≡ unique_names b

-- The control of a changed resource depends only on its kind, its control before the change, the new values
-- of the units that the change writes, and whether and when the resource changed.
abbrev pub ControlRestsOnUnits : Type 0
ControlRestsOnUnits =
    (policy : List Rule) (us : List AttributeUnit) (changed : Bool) (moment : ℕ) (a b x y : Content)
    → IsResource a → IsResource b → IsResource x → IsResource y
    → a.kind ≡ b.kind → control policy a ≡ control policy b → AgreeAt us x y → IsLeft us changed moment a x → IsLeft us changed moment b y
    → control policy x ≡ control policy y
