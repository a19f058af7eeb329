-- The entries of `paths` of a rule: which of them name something.
use Rattle.std.specs.Prelude.{ℕ, Bool, true, false, ◌||◌, List, codes, is_some, option_and_then}
use Rattle.std.specs.List.{list_any}
use Rattle.std.specs.Result.{result_ok}
use Rattle.scim_schema.specs.declared.Kind.{Kind}
use Rattle.scim_schema.specs.Lookup.{is_same_text}
use Rattle.scim_path.specs.Targets.{target_in}
use Rattle.scim_policy_file.specs.Paths.{path_on, path_to}
use Rattle.scim_fault_details.specs.declared.path_details.PathScope.{PathScope}

-- whether a text is a path on resources of a kind: one that may have a value filter, as in version 2, or the path of an
-- attribute or sub-attribute, as in version 1
abbrev pub is_path : Bool → List ℕ → Kind → Bool
is_path true text kind = is_some (option_and_then path_to (result_ok (target_in kind text)))
is_path false text kind = is_some (path_on text kind)

-- whether an entry names something on resources of a kind: it is `*` or a path
abbrev pub is_named_on : Bool → List ℕ → Kind → Bool
is_named_on has_filters entry kind = is_same_text entry (codes "*") || is_path has_filters entry kind

-- whether an entry names something on resources of one of the rule's types
abbrev pub is_named : PathScope → List ℕ → Bool
is_named scope entry = list_any (is_named_on scope.has_filters entry) scope.kinds.now
