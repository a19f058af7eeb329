-- Which rules of a policy fit.
use Rattle.std.specs.Prelude.{ℕ, Bool, true, false, ◌&&◌, ◌||◌, not, ◌==◌, List, [], ◌∷◌, length, nat_eq, filter, Option, None, Some, if◌then◌else◌}
use Rattle.std.specs.List.{list_any, enumerate_from}
use Rattle.std.specs.Option.{option_eq}
use Rattle.std.specs.Cmp.Lexicographic.{pointwise}
use denote.Enum.Bare.{sameb}
use Rattle.scim_schema.specs.declared.Kind.{Kind}
use Rattle.scim_schema.specs.declared.Op.{Op}
use Rattle.scim_schema.specs.declared.Op.TheVariants.{Read}
use Rattle.scim_schema.specs.declared.Leaf.{Leaf}
use Rattle.scim_schema.specs.declared.Attribute.{Attribute as AttributeName}
use Rattle.scim_schema.specs.declared.Attribute.TheVariants.{Groups}
use Rattle.scim_schema.specs.declared.SubAttribute.{SubAttribute as SubAttributeName}
use Rattle.scim_schema.specs.contracts.Kind.{the_type as the_kind}
use Rattle.scim_schema.specs.contracts.Op.{the_type as the_op}
use Rattle.scim_schema.specs.contracts.Attribute.{the_type as the_attribute}
use Rattle.scim_schema.specs.contracts.SubAttribute.{the_type as the_sub_attribute}
use Rattle.scim_schema.specs.Characteristics.{is_multi_valued}
use Rattle.scim_schema.specs.Units.{leaf_at, is_same_attribute, is_same_leaf}
use Rattle.scim_cell.specs.Content.{Content}
use Rattle.scim_cell.specs.Rows.{rows}
use Rattle.scim_filter_grammar.specs.Tree.{Tree, Values, attribute_meant}
use Rattle.scim_filter.specs.Truth.{truth}
use Rattle.scim_policy.specs.declared.rules.ClientName.{ClientName}
use Rattle.scim_policy.specs.declared.rules.ClientName.TheVariants.{Everyone, Named}
use Rattle.scim_policy.specs.declared.rules.PolicyPath.{PolicyPath}
use Rattle.scim_policy.specs.declared.rules.PolicyPath.TheVariants.{Everything, Attribute, SubAttribute}
use Rattle.scim_policy.specs.declared.rules.Decision.{Decision}
use Rattle.scim_policy.specs.declared.misfits.Misfit.{Misfit}
use Rattle.scim_policy.specs.declared.misfits.Misfit.TheVariants as misfit
use Rattle.scim_policy.specs.Rules.{Target, FilteredPath, KindPaths, Rule}

-- whether a client name in a rule is the name of the client, or `*`
abbrev pub names : List ℕ → ClientName → Bool
names client Everyone = true
names client (Named name) = pointwise nat_eq name client

-- whether a path covers a leaf: it is `*`, or it names the leaf's attribute or the leaf itself
abbrev pub covers : Leaf → PolicyPath → Bool
covers l Everything = true
covers l (Attribute a) = sameb the_attribute l.attribute a
covers l (SubAttribute a b) = is_same_leaf l (leaf_at a b)

-- the paths for a kind; empty if the rule isn't for the kind
abbrev pub paths_on : Kind → List KindPaths → List PolicyPath
paths_on k [] = []
paths_on k (p ∷ ps) = if sameb the_kind k p.kind then p.paths else paths_on k ps

-- whether one of the rule's paths for the resource's kind covers the leaf
abbrev pub covers_in : Content → Leaf → Rule → Bool
covers_in c l r = list_any (covers l) (paths_on c.kind r.paths)

-- the attribute before the brackets of a value path; None for any other filter
abbrev pub attribute_before : Tree → Option AttributeName
attribute_before (Values path inner) = attribute_meant path.meant
attribute_before _ = None

-- whether the leaf is the sub-attribute after the brackets; true if none stands there
abbrev pub is_after : Option SubAttributeName → Leaf → Bool
is_after None l = true
is_after (Some b) l = option_eq (sameb the_sub_attribute) l.sub_attribute (Some b)

-- whether a path with a value filter covers the leaf at some values: the leaf's attribute is the one before the
-- brackets, is multi-valued and isn't `groups`, which is computed
abbrev pub covers_in_part : Leaf → FilteredPath → Bool
covers_in_part l p =
    is_multi_valued l.attribute
    && (not (is_same_attribute l.attribute Groups)
    && (option_eq is_same_attribute (attribute_before p.tree) (Some l.attribute) && is_after p.sub_attribute l))

-- the paths with a value filter for a kind; empty if the rule isn't for the kind
abbrev pub filtered_on : Kind → List KindPaths → List FilteredPath
filtered_on k [] = []
filtered_on k (p ∷ ps) = if sameb the_kind k p.kind then p.filtered else filtered_on k ps

-- whether the operation is reading
abbrev pub is_reading : Op → Bool
is_reading op = sameb the_op op Read

-- whether one of the rule's paths with a value filter covers the leaf at some values; only reading is decided by
-- value
abbrev pub covers_partly : Op → Content → Leaf → Rule → Bool
covers_partly Read c l r = list_any (covers_in_part l) (filtered_on c.kind r.paths)
covers_partly _ c l r = false

-- whether the target for the resource's kind matches the resource; false if no target is for that kind
abbrev pub holds_on : Content → List Target → Bool
holds_on c [] = false
holds_on c (t ∷ ts) = if sameb the_kind c.kind t.kind then truth t.tree (rows c) else holds_on c ts

-- whether the rule has no target, or its target matches the resource
abbrev pub is_target_met : Content → Rule → Bool
is_target_met c r = (length r.targets == 0) || holds_on c r.targets

-- whether the rule is for the client, the operation and the resource
unfoldable pub speaks_of : List ℕ → Op → Content → Rule → Bool
speaks_of client op c r =
    list_any (names client) r.clients && (list_any (sameb the_op op) r.ops && (list_any (sameb the_kind c.kind) r.kinds && is_target_met c r))

-- whether the rule names the client, the operation and the kind
abbrev pub is_about : List ℕ → Op → Kind → Rule → Bool
is_about client op k r = list_any (names client) r.clients && (list_any (sameb the_op op) r.ops && list_any (sameb the_kind k) r.kinds)

-- whether the rule names the client, the operation and the kind, and has a target; then it depends on the
-- resource whether the rule applies
abbrev pub has_target_for : List ℕ → Op → Kind → Rule → Bool
has_target_for client op k r = is_about client op k r && not (length r.targets == 0)

-- whether the rule fits: it is for the client, the operation and the resource, and covers the leaf at all values
-- or at some
abbrev pub fits : List ℕ → Op → Content → Leaf → Rule → Bool
fits client op c l r = speaks_of client op c r && (covers_in c l r || covers_partly op c l r)

-- whether the rule fits, and covers the leaf at all values
abbrev pub fits_wholly : List ℕ → Op → Content → Leaf → Rule → Bool
fits_wholly client op c l r = speaks_of client op c r && covers_in c l r

-- the decision of the first rule in a list of numbered rules; if the list is empty, rule 0 denies
abbrev pub first_of : List (ℕ × Rule) → Decision
first_of [] = record { rule = 0; allow = false }
first_of (numbered ∷ more) = record { rule = numbered.0; allow = numbered.1.allow }

-- the decision of the first rule that fits and covers the leaf at all values; rules are numbered from 1
unfoldable pub decide_wholly : List Rule → List ℕ → Op → Content → Leaf → Decision
decide_wholly policy client op c l = first_of (filter (λ (numbered : ℕ × Rule). fits_wholly client op c l numbered.1) (enumerate_from 1 policy))

-- the first part of a rule that doesn't fit, in the order clients, operations, kinds, paths, target; None if
-- the rule fits
abbrev pub misfit_of : List ℕ → Op → Content → Leaf → Rule → Option Misfit
misfit_of client op c l r =
    if list_any (names client) r.clients
    then (if list_any (sameb the_op op) r.ops
    then (if list_any (sameb the_kind c.kind) r.kinds
    then (if covers_in c l r || covers_partly op c l r
    then (if is_target_met c r then None else Some misfit.Target)
    else Some misfit.Path)
    else Some misfit.Kind)
    else Some misfit.Op)
    else Some misfit.Client
