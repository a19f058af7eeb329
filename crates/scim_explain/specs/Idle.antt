-- Rules that can never decide, because an earlier rule without a target covers everything that they cover.
use Rattle.std.specs.Prelude.{ℕ, ◌+◌, ◌-◌, Bool, true, false, ◌&&◌, ◌==◌, List, ◌++◌, length, take, nat_eq, codes, decimal, Option, None, Some, option_map, position}
use Rattle.std.specs.List.{list_any, list_all, filter_map, flat_map, enumerate_from}
use Rattle.std.specs.Cmp.Lexicographic.{pointwise}
use denote.Enum.Bare.{sameb}
use Rattle.scim_schema.specs.declared.Kind.{Kind}
use Rattle.scim_schema.specs.declared.Attribute.{Attribute as AttributeName}
use Rattle.scim_schema.specs.declared.SubAttribute.{SubAttribute as SubAttributeName}
use Rattle.scim_schema.specs.contracts.Kind.{the_type as the_kind}
use Rattle.scim_schema.specs.contracts.Op.{the_type as the_op}
use Rattle.scim_schema.specs.Units.{leaf_at, is_same_attribute, is_same_leaf}
use Rattle.scim_policy.specs.declared.rules.ClientName.{ClientName}
use Rattle.scim_policy.specs.declared.rules.ClientName.TheVariants.{Everyone, Named}
use Rattle.scim_policy.specs.declared.rules.PolicyPath.{PolicyPath}
use Rattle.scim_policy.specs.declared.rules.PolicyPath.TheVariants.{Everything, Attribute, SubAttribute}
use Rattle.scim_policy.specs.Rules.{FilteredPath, Rule}
use Rattle.scim_policy.specs.Fits.{attribute_before, filtered_on, paths_on}
use Rattle.scim_explain.specs.declared.never_deciding.IdleRule.{IdleRule}
use Rattle.scim_explain.specs.Texts.{rule_line}

-- whether a client name covers every client that another name covers: `*` covers all, and a name
-- covers itself
abbrev pub covers_client : ClientName → ClientName → Bool
covers_client Everyone other = true
covers_client (Named name) Everyone = false
covers_client (Named name) (Named other) = pointwise nat_eq name other

-- whether a path covers every leaf that another path covers: `*` covers all, an attribute covers itself
-- and its sub-attributes, and a sub-attribute covers itself
abbrev pub covers_path : PolicyPath → PolicyPath → Bool
covers_path Everything other = true
covers_path (Attribute a) Everything = false
covers_path (Attribute a) (Attribute b) = is_same_attribute a b
covers_path (Attribute a) (SubAttribute b sub) = is_same_attribute a b
covers_path (SubAttribute a sub) Everything = false
covers_path (SubAttribute a sub) (Attribute b) = false
covers_path (SubAttribute a sub) (SubAttribute b other) = is_same_leaf (leaf_at a sub) (leaf_at b other)

-- whether each element of the second list is covered by an element of the first list
abbrev pub are_covered : {X : Type 0} → (X → X → Bool) → List X → List X → Bool
are_covered covers others xs = list_all (λ x. list_any (λ y. covers y x) others) xs

-- whether there is no path, or one of some paths covers it
abbrev pub is_none_or_covered : List PolicyPath → Option PolicyPath → Bool
is_none_or_covered others None = true
is_none_or_covered others (Some path) = list_any (λ other. covers_path other path) others

-- the path of an attribute, or of one of its sub-attributes
abbrev pub path_of : AttributeName → Option SubAttributeName → PolicyPath
path_of a None = Attribute a
path_of a (Some b) = SubAttribute a b

-- a path with a value filter, without its filter; None if the filter isn't a value path on an attribute
abbrev pub without_filter : FilteredPath → Option PolicyPath
without_filter p = option_map (λ a. path_of a p.sub_attribute) (attribute_before p.tree)

-- whether paths without a value filter cover, at all values, every leaf that a path with one covers at some
abbrev pub covers_filtered : List PolicyPath → FilteredPath → Bool
covers_filtered others p = is_none_or_covered others (without_filter p)

-- whether a rule covers, on a kind and at all values, all leaves that another rule covers at all values or at
-- some
abbrev pub covers_on_kind : Rule → Rule → Kind → Bool
covers_on_kind e r k =
    are_covered covers_path (paths_on k e.paths) (paths_on k r.paths) && list_all (covers_filtered (paths_on k e.paths)) (filtered_on k r.paths)

-- whether the first rule has no target, covers the clients, operations and kinds of the second rule, and
-- covers the paths of the second rule on each kind of the second rule
abbrev pub covers_rule : Rule → Rule → Bool
covers_rule e r =
    (length e.targets == 0)
    && (are_covered covers_client e.clients r.clients
    && (are_covered (sameb the_op) e.ops r.ops && (are_covered (sameb the_kind) e.kinds r.kinds && list_all (covers_on_kind e r) r.kinds)))

-- the entry for the rule with this number, with the number of the first earlier rule that covers the rule;
-- None if no earlier rule covers the rule
abbrev pub idle_behind : List Rule → ℕ → Rule → Option IdleRule
idle_behind earlier number r = option_map (λ i. record { rule = number; covered_by = i + 1 }) (position (λ e. covers_rule e r) earlier)

-- the entries for the rules of a policy that an earlier rule covers, in order
abbrev pub idle_rules : List Rule → List IdleRule
idle_rules policy = filter_map (λ (numbered : ℕ × Rule). idle_behind (take (numbered.0 - 1) policy) numbered.0 numbered.1) (enumerate_from 1 policy)

-- the line of an idle rule
abbrev pub idle_line : IdleRule → List ℕ
idle_line idle = rule_line idle.rule (codes "never decides, see rule " ++ decimal idle.covered_by)

-- the lines of idle rules
abbrev pub idle_lines : List IdleRule → List ℕ
idle_lines idle = flat_map idle_line idle
