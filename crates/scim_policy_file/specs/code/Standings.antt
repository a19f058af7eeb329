-- What the entries of `paths` are on each of a rule's kinds, as the code keeps it to find the first fault.
use Rattle.std.specs.Prelude.{ℕ, ◌+◌, List, [], ◌∷◌, map, Option, None, Some, option_and_then, option_to_list, slice_get, if◌then◌else◌}
use Rattle.std.specs.List.{cons_option}
use Rattle.scim_schema.specs.declared.Kind.{Kind}
use Rattle.scim_schema.specs.declared.Op.{Op}
use Rattle.scim_policy.specs.declared.rules.PolicyPath.{PolicyPath}
use Rattle.scim_policy.specs.Rules.{FilteredPath}
use Rattle.scim_policy_file.specs.declared.faults.Cause.{Cause}
use Rattle.scim_policy_file.specs.declared.faults.Cause.TheVariants as cause
use Rattle.scim_policy_file.specs.declared.versions.FileVersion.{FileVersion}
use Rattle.scim_policy_file.specs.declared.rule_paths.RulePath.{RulePath}
use Rattle.scim_policy_file.specs.declared.rule_paths.Standing.{Standing}
use Rattle.scim_policy_file.specs.declared.rule_paths.Standing.TheVariants.{Unknown, Allowed, Refused}
use Rattle.scim_policy_file.specs.Paths.{path_named, is_allowed, without_filter, with_filter}

-- the path without a value filter, as a list; empty for any other
abbrev pub plain_in : Option RulePath → List PolicyPath
plain_in path = option_to_list (option_and_then without_filter path)

-- the path with a value filter, as a list; empty for any other
abbrev pub filtered_in : Option RulePath → List FilteredPath
filtered_in path = option_to_list (option_and_then with_filter path)

-- what an entry is in a rule for these operations, from the path that it names on a kind
abbrev pub standing_of : List Op → Option RulePath → Standing
standing_of ops None = Unknown
standing_of ops (Some path) = if is_allowed ops path then Allowed else Refused

-- what each of the entries is on a kind
abbrev pub standings_on : FileVersion → List Op → List (List ℕ) → Kind → List Standing
standings_on version ops texts kind = map (λ t. standing_of ops (path_named version t kind)) texts

-- what each of the entries is on each of the kinds
abbrev pub columns_on : FileVersion → List Op → List Kind → List (List ℕ) → List (List Standing)
columns_on version ops kinds texts = map (standings_on version ops texts) kinds

-- the fault of an entry that is this on the kinds from one on; on those before, it has the first argument as its
-- fault
abbrev pub fault_with : Option Cause → List (Option Standing) → Option Cause
fault_with fault [] = fault
fault_with fault (None ∷ more) = fault_with fault more
fault_with fault (Some Unknown ∷ more) = fault_with fault more
fault_with fault (Some Allowed ∷ more) = fault_with None more
fault_with fault (Some Refused ∷ more) = Some cause.ValueFilter

-- the fault of the entry at an index, from 0
abbrev pub fault_at : ℕ → List (List Standing) → Option Cause
fault_at place columns = fault_with (Some cause.Name) (map (λ column. slice_get column place) columns)

-- the faults of the entries from an index on; there are as many as the last argument has elements
abbrev pub faults_from : ℕ → List (List Standing) → List (List ℕ) → List Cause
faults_from place columns [] = []
faults_from place columns (t ∷ more) = cons_option (fault_at place columns) (faults_from (place + 1) columns more)

-- the first element, if there is one
abbrev pub first_of : {X : Type 0} → List X → Option X
first_of [] = None
first_of (x ∷ xs) = Some x
