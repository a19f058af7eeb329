-- What each rule adds to a decision table.
use Rattle.std.specs.Prelude.{◌≡◌, ℕ, ◌+◌, Bool, ◌&&◌, List, [], ◌∷◌, Option, None, Some, if◌then◌else◌}
use denote.Enum.Bare.{sameb}
use Rattle.scim_schema.specs.declared.Leaf.{Leaf}
use Rattle.scim_schema.specs.declared.SubAttribute.{SubAttribute}
use Rattle.scim_schema.specs.contracts.SubAttribute.{the_type as the_sub_attribute}
use Rattle.scim_policy.specs.declared.rules.Decision.{Decision}
use Rattle.std.specs.List.{list_any}
use Rattle.std.specs.Option.{option_eq}
use Rattle.scim_schema.specs.declared.Kind.{Kind}
use Rattle.scim_schema.specs.declared.Op.{Op}
use Rattle.scim_schema.specs.contracts.Kind.{the_type as the_kind}
use Rattle.scim_schema.specs.contracts.Op.{the_type as the_op}
use Rattle.scim_cell.specs.Content.{Content}
use Rattle.scim_policy.specs.Rules.{Rule}
use Rattle.scim_policy.specs.declared.rules.PolicyPath.{PolicyPath}
use Rattle.scim_policy.specs.declared.decisions.Decisions.{Decisions}
use Rattle.scim_policy.specs.Fits.{covers, names, paths_on, is_target_met, speaks_of}
use Rattle.scim_policy.specs.Table.{or_else, decided}

-- the decision of a path on a leaf: the given decision if the path covers the leaf
abbrev pub by_path : PolicyPath → Decision → Leaf → Option Decision
by_path path d l = if covers l path then Some d else None

-- the decision of paths on a leaf: the given decision if any of the paths covers the leaf
abbrev pub by_paths : List PolicyPath → Decision → Leaf → Option Decision
by_paths paths d l = if list_any (covers l) paths then Some d else None

-- the decision on a leaf's sub-attribute: the given decision if it is the named sub-attribute
abbrev pub by_name : SubAttribute → Decision → Option SubAttribute → Option Decision
by_name b d sub = if option_eq (sameb the_sub_attribute) sub (Some b) then Some d else None

-- the decision of a numbered rule on a leaf, if the rule fits the client, the operation, the resource and the
-- leaf
abbrev pub by_rule : List ℕ → Op → Content → Leaf → ℕ → Rule → Option Decision
by_rule client op c l n r = if speaks_of client op c r then by_paths (paths_on c.kind r.paths) (record { rule = n; allow = r.allow }) l else None

-- the decision on a leaf of the first rule that fits, if there is one; the rules are numbered from n
abbrev pub by_rules : List ℕ → Op → Content → Leaf → ℕ → List Rule → Option Decision
by_rules client op c l n [] = None
by_rules client op c l n (r ∷ rs) = or_else (by_rule client op c l n r) (by_rules client op c l (n + 1) rs)

-- whether the rule is for the client and the resource, with any operation
abbrev pub is_for : List ℕ → Content → Rule → Bool
is_for client c r = list_any (names client) r.clients && (list_any (sameb the_kind c.kind) r.kinds && is_target_met c r)

-- the decision of a numbered rule on a leaf, if the rule is for the operation and covers the leaf; the rule
-- must be for the client and the resource
abbrev pub by_op : Op → Kind → ℕ → Rule → Leaf → Option Decision
by_op op kind n r l = if list_any (sameb the_op op) r.ops then by_paths (paths_on kind r.paths) (record { rule = n; allow = r.allow }) l else None

-- the new table has the decisions of the old table, and `added` for the leaves that the old table doesn't
-- decide
abbrev pub Adds : (Leaf → Option Decision) → Decisions → Decisions → Type 0
Adds added old new = (l : Leaf) → decided new l ≡ or_else (decided old l) (added l)
