-- The parameters `attributes` and `excludedAttributes`, and the attributes that they select (RFC 7644 section
-- 3.9).
use Rattle.std.specs.Prelude.{◌≡◌, ℕ, Bool, true, false, ◌&&◌, List, [], ◌∷◌, Result, Ok, Err, if◌then◌else◌}
use Rattle.std.specs.List.{list_any}
use Rattle.scim_schema.specs.declared.Kind.{Kind}
use Rattle.scim_schema.specs.declared.Leaf.{Leaf}
use Rattle.scim_audit.specs.declared.refusals.Refusal.{Refusal}
use Rattle.scim_audit.specs.declared.refusals.Refusal.TheVariants.{MessageValue}
use Rattle.scim_view.specs.declared.attribute_lists.Names.{Names}
use Rattle.scim_view.specs.declared.projection.Wanted.{Wanted}
use Rattle.scim_view.specs.declared.projection.Wanted.TheVariants.{Default, Only, Without}
use Rattle.scim_view.specs.Names.{names_leaf, includes}

-- the texts of `attributes` and of `excludedAttributes`
pub record Lists : Type 0 where
  pub attributes : List (List ℕ)
  pub excluded : List (List ℕ)

-- whether a list is given: it has at least one text
abbrev pub is_given : List (List ℕ) → Bool
is_given [] = false
is_given (text ∷ texts) = true

-- the lists, or the refusal `MessageValue` if both are given (RFC 7644 section 3.9)
abbrev pub one_of : Lists → Result Lists Refusal
one_of lists = if is_given lists.attributes && is_given lists.excluded then Err MessageValue else Ok lists

-- the names include exactly the leaves that a text names; a text that names no leaf adds none
abbrev pub AreNames : Kind → List (List ℕ) → Names → Type 0
AreNames kind texts names = (l : Leaf) → includes names l ≡ list_any (λ text. names_leaf kind text l) texts

-- the attributes that the lists select: the default ones, only the named ones, or all but the named ones
abbrev pub Wants : Kind → Lists → Wanted → Type 0
Wants kind lists Default = (is_given lists.attributes ≡ false) × (is_given lists.excluded ≡ false)
Wants kind lists (Only names) = (is_given lists.attributes ≡ true) × (is_given lists.excluded ≡ false) × AreNames kind lists.attributes names
Wants kind lists (Without names) = (is_given lists.attributes ≡ false) × (is_given lists.excluded ≡ true) × AreNames kind lists.excluded names
