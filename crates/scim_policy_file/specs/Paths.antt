-- The clients and paths in a policy file.
use Rattle.std.specs.Prelude.{ℕ, Bool, true, ◌&&◌, ◌||◌, not, ◌==◌, nat_le, List, [], ◌∷◌, length, map, filter_map, codes, Option, None, Some, option_map, option_and_then, Result, Ok, Err, if◌then◌else◌}
use Rattle.std.specs.List.{list_all}
use Rattle.std.specs.Result.{result_ok}
use denote.Enum.Bare.{sameb}
use Rattle.scim_schema.specs.declared.Kind.{Kind}
use Rattle.scim_schema.specs.declared.Op.{Op}
use Rattle.scim_schema.specs.declared.Op.TheVariants.{Read}
use Rattle.scim_schema.specs.declared.Attribute.TheVariants.{Groups}
use Rattle.scim_schema.specs.contracts.Op.{the_type as the_op}
use Rattle.scim_schema.specs.contracts.Attribute.{the_type as the_attribute}
use Rattle.scim_schema.specs.Lookup.{is_same_text}
use Rattle.scim_filter_grammar.specs.declared.tree.Meant.{Meant}
use Rattle.scim_filter_grammar.specs.declared.tree.Meant.TheVariants as meant
use Rattle.scim_filter_grammar.specs.declared.tree.AttributePath.{AttributePath}
use Rattle.scim_filter_grammar.specs.Spelled.{path_in}
use Rattle.scim_path.specs.Paths.{PathTarget, OfExtension, OfAttribute, OfSubAttribute, OfValues}
use Rattle.scim_path.specs.Targets.{target_in}
use Rattle.scim_policy.specs.declared.rules.ClientName.{ClientName}
use Rattle.scim_policy.specs.declared.rules.ClientName.TheVariants.{Everyone, Named}
use Rattle.scim_policy.specs.declared.rules.PolicyPath.{PolicyPath}
use Rattle.scim_policy.specs.declared.rules.PolicyPath.TheVariants.{Everything, Attribute, SubAttribute}
use Rattle.scim_policy.specs.Rules.{KindPaths, FilteredPath}
use Rattle.scim_policy_file.specs.declared.faults.Cause.{Cause}
use Rattle.scim_policy_file.specs.declared.faults.Cause.TheVariants as cause
use Rattle.scim_policy_file.specs.declared.versions.FileVersion.{FileVersion}
use Rattle.scim_policy_file.specs.declared.versions.FileVersion.TheVariants.{One, Two}
use Rattle.scim_policy_file.specs.declared.rule_paths.RulePath.{RulePath}
use Rattle.scim_policy_file.specs.declared.rule_paths.RulePath.TheVariants.{Plain, Filtered}

-- ---- clients

-- whether the byte may be part of a client's name: an ASCII letter or digit, `-`, `_` or `.`
abbrev pub is_client_byte : ℕ → Bool
is_client_byte b =
    (nat_le 48 b && nat_le b 57) || ((nat_le 65 b && nat_le b 90) || ((nat_le 97 b && nat_le b 122) || ((b == 45) || ((b == 95) || (b == 46)))))

-- whether a text is a client's name: 1 to 64 ASCII letters, digits, `-`, `_` and `.`
unfoldable pub is_client_name : List ℕ → Bool
is_client_name t = nat_le 1 (length t) && (nat_le (length t) 64 && list_all is_client_byte t)

-- the client that an entry of `clients` names: everyone for `*`, else the client with that name;
-- None if the entry is neither `*` nor a valid name
abbrev pub client_named : List ℕ → Option ClientName
client_named t = if is_same_text t (codes "*") then Some Everyone else (if is_client_name t then Some (Named t) else None)

-- ---- what an entry of `paths` names

-- the policy path for the attribute or sub-attribute that a path means; None for `Nothing`
abbrev pub covered_by : Meant → Option PolicyPath
covered_by meant.Nothing = None
covered_by (meant.Attribute a) = Some (Attribute a)
covered_by (meant.SubAttribute a b) = Some (SubAttribute a b)

-- the attribute or sub-attribute that a text names on resources of a kind (RFC 7644 section 3.10)
abbrev pub path_on : List ℕ → Kind → Option PolicyPath
path_on t kind = option_and_then (λ (path : AttributePath). covered_by path.meant) (path_in kind t)

-- the path of a rule with this target: an attribute or a sub-attribute, or one of them at the values that match a
-- filter; None for all attributes of an extension
abbrev pub path_to : PathTarget → Option RulePath
path_to (OfExtension schema) = None
path_to (OfAttribute a) = Some (Plain (Attribute a))
path_to (OfSubAttribute a b) = Some (Plain (SubAttribute a b))
path_to (OfValues a tree b) = Some (Filtered a (record { tree = tree; sub_attribute = b }))

-- the path that a text names on resources of a kind: in version 1 an attribute or a sub-attribute; in version 2 the
-- target of a path of a PATCH operation, which may have a value filter (RFC 7644 section 3.5.2)
abbrev pub path_in_version : FileVersion → List ℕ → Kind → Option RulePath
path_in_version One t kind = option_map (λ path. Plain path) (path_on t kind)
path_in_version Two t kind = option_and_then path_to (result_ok (target_in kind t))

-- the path that an entry of `paths` names on resources of a kind: everything for `*`, else the path by the grammar of
-- the version
abbrev pub path_named : FileVersion → List ℕ → Kind → Option RulePath
path_named version t kind = if is_same_text t (codes "*") then Some (Plain Everything) else path_in_version version t kind

-- ---- the paths of a rule

-- the path, if it has no value filter
abbrev pub without_filter : RulePath → Option PolicyPath
without_filter (Plain path) = Some path
without_filter (Filtered a path) = None

-- the path, if it has a value filter
abbrev pub with_filter : RulePath → Option FilteredPath
with_filter (Plain path) = None
with_filter (Filtered a path) = Some path

-- all entries of `paths`, read for resources of a kind; entries that name nothing on the kind are skipped
abbrev pub paths_for : FileVersion → List (List ℕ) → Kind → KindPaths
paths_for version texts kind = record {
  kind = kind;
  paths = filter_map without_filter (filter_map (λ t. path_named version t kind) texts);
  filtered = filter_map with_filter (filter_map (λ t. path_named version t kind) texts);
}

-- whether reading is the only operation
abbrev pub is_reading_alone : List Op → Bool
is_reading_alone ops = list_all (λ op. sameb the_op op Read) ops

-- whether a rule for these operations may have the path: one with a value filter only if it isn't on `groups`, which is
-- computed, and the rule is for reading alone
abbrev pub is_allowed : List Op → RulePath → Bool
is_allowed ops (Plain path) = true
is_allowed ops (Filtered a path) = not (sameb the_attribute a Groups) && is_reading_alone ops

-- the fault of an entry that names these paths, one on each kind that has it: `Name` if none has it, else
-- `ValueFilter` if the rule may not have one of them
abbrev pub fault_of : List Op → List RulePath → Option Cause
fault_of ops [] = Some cause.Name
fault_of ops (p ∷ ps) = if list_all (is_allowed ops) (p ∷ ps) then None else Some cause.ValueFilter

-- the fault of an entry of `paths` in a rule for these operations and kinds
abbrev pub fault_in : FileVersion → List Op → List Kind → List ℕ → Option Cause
fault_in version ops kinds t = fault_of ops (filter_map (path_named version t) kinds)

-- the value, or the first of the causes if there is one
abbrev pub or_first : {X : Type 0} → X → List Cause → Result X Cause
or_first x [] = Ok x
or_first x (cause ∷ more) = Err cause

-- the paths of a rule on each of its kinds, or the fault of the first faulty entry
abbrev pub paths_named : FileVersion → List Op → List Kind → List (List ℕ) → Result (List KindPaths) Cause
paths_named version ops kinds texts = or_first (map (paths_for version texts) kinds) (filter_map (fault_in version ops kinds) texts)
