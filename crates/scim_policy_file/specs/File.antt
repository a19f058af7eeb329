-- The rules of a policy file, or its first fault.
use Rattle.std.specs.Prelude.{ℕ, ◌+◌, Bool, true, ◌&&◌, ◌||◌, not, ◌==◌, nat_lt, List, [], ◌∷◌, length, codes, Option, None, Some, option_map, option_and_then, Result, Ok, Err, if◌then◌else◌}
use Rattle.std.specs.List.{list_any}
use Rattle.json.specs.Json.{Json, Items, no_items, item, Members, no_members, member, document}
use Rattle.json.specs.Find.{get, as_bool, as_str, as_array, as_object, as_number}
use Rattle.scim_schema.specs.declared.limits.TheConstants.{MOST_RULES}
use Rattle.scim_schema.specs.Lookup.{is_same_text, kind_named, operation_named}
use Rattle.scim_policy_file.specs.declared.faults.Cause.{Cause}
use Rattle.scim_policy_file.specs.declared.faults.Cause.TheVariants as cause
use Rattle.scim_policy_file.specs.declared.faults.Cause.TheVariants.{Shape, TooManyRules}
use Rattle.scim_policy_file.specs.declared.faults.PolicyFault.{PolicyFault}
use Rattle.scim_policy_file.specs.declared.versions.FileVersion.{FileVersion}
use Rattle.scim_policy_file.specs.declared.versions.FileVersion.TheVariants.{One, Two}
use Rattle.scim_policy.specs.Rules.{Rule}
use Rattle.scim_policy_file.specs.Lists.{each}
use Rattle.scim_policy_file.specs.Paths.{client_named, paths_named}
use Rattle.scim_policy_file.specs.Targets.{◌>>=◌, or_name, targets_for}

-- the result of reading a part of a file: a value, or a fault with the number of the faulty rule, or with 0
-- if the file itself is faulty
abbrev pub Says : Type 0 → Type 0
Says X = Result X PolicyFault

-- ---- shapes

-- whether each key of an object is one of these words
abbrev pub has_only : List (List ℕ) → Members → Bool
has_only words no_members = true
has_only words (member k d ms) = list_any (is_same_text k) words && has_only words ms

-- the items of an array, as a list
abbrev pub listed : Items → List Json
listed no_items = []
listed (item d ds) = d ∷ listed ds

-- the list, if it isn't empty
abbrev pub filled : {X : Type 0} → List X → Option (List X)
filled [] = None
filled (x ∷ xs) = Some (x ∷ xs)

-- the items of a non-empty array; None for any other value
abbrev pub items_in : Json → Option (List Json)
items_in d = option_and_then (λ ds. filled (listed ds)) (as_array d)

-- the strings of a non-empty array of strings; None for any other value
abbrev pub texts_in : Json → Option (List (List ℕ))
texts_in d = option_and_then (each as_str) (items_in d)

-- the value, if it is an object in which each key is one of these words
abbrev pub object_of_only : List (List ℕ) → Json → Option Json
object_of_only words d = option_and_then (λ ms. if has_only words ms then Some d else None) (as_object d)

-- ---- rules

-- the texts of a rule
pub record RuleTexts : Type 0 where
  pub allow : Bool
  pub clients : List (List ℕ)
  pub ops : List (List ℕ)
  pub types : List (List ℕ)
  pub target : Option (List ℕ)
  pub paths : List (List ℕ)

-- the keys of a rule
abbrev pub rule_keys : List (List ℕ)
rule_keys = codes "allow" ∷ codes "clients" ∷ codes "ops" ∷ codes "types" ∷ codes "target" ∷ codes "paths" ∷ []

-- the value of `allow` in a rule, if it is a boolean
abbrev pub allow_in : Json → Option Bool
allow_in d = option_and_then as_bool (get (codes "allow") d)

-- the strings of the non-empty array at a key; None if the key is missing or has any other value
abbrev pub texts_at : List ℕ → Json → Option (List (List ℕ))
texts_at key d = option_and_then texts_in (get key d)

-- the text of an optional target, Some None if there is no target, or None if the target isn't a string
abbrev pub target_text : Option Json → Option (Option (List ℕ))
target_text None = Some None
target_text (Some d) = option_map (λ t. Some t) (as_str d)

-- the text of a rule's target, Some None if the rule has no target, or None if the target isn't a string
abbrev pub target_in : Json → Option (Option (List ℕ))
target_in d = target_text (get (codes "target") d)

-- the texts of a rule, without a check for unknown keys; None if a key other than `target` is missing, or a
-- value has the wrong type
abbrev pub rule_fields : Json → Option RuleTexts
rule_fields d =
    option_and_then (λ allow. option_and_then (λ clients. option_and_then (λ ops. option_and_then (λ types. option_and_then (λ target. option_map (λ paths.
    record { allow = allow; clients = clients; ops = ops; types = types; target = target; paths = paths })
    (texts_at (codes "paths") d)) (target_in d)) (texts_at (codes "types") d)) (texts_at (codes "ops") d)) (texts_at (codes "clients") d)) (allow_in d)

-- the texts of a rule; None if a key other than `target` is missing, a key is unknown, or a value has the
-- wrong type
unfoldable pub rule_texts : Json → Option RuleTexts
rule_texts d = option_and_then rule_fields (object_of_only rule_keys d)

-- the rule that these texts describe in a file of a version, or the cause of the first fault; the clients,
-- operations and types are read first, then the target, then the paths
unfoldable pub rule_named : FileVersion → RuleTexts → Result Rule Cause
rule_named version t =
    or_name (each client_named t.clients) >>= λ clients. or_name (each operation_named t.ops) >>= λ ops. or_name (each kind_named t.types) >>= λ kinds.
    targets_for kinds t.target >>= λ targets. paths_named version ops kinds t.paths >>= λ paths.
    Ok (record { allow = t.allow; clients = clients; ops = ops; kinds = kinds; targets = targets; paths = paths })

-- the rule, or the fault with this cause and the rule's number
abbrev pub named_or_fault : ℕ → Result Rule Cause → Says Rule
named_or_fault n (Err cause) = Err (record { rule = n; cause = cause })
named_or_fault n (Ok r) = Ok r

-- the n-th rule, which the texts describe, or its first fault; the fault `Shape` if there are no texts
abbrev pub shaped_or_fault : FileVersion → ℕ → Option RuleTexts → Says Rule
shaped_or_fault version n None = Err (record { rule = n; cause = Shape })
shaped_or_fault version n (Some t) = named_or_fault n (rule_named version t)

-- the n-th rule of a file of a version, or its fault
abbrev pub rule_of : FileVersion → ℕ → Json → Says Rule
rule_of version n d = shaped_or_fault version n (rule_texts d)

-- the list of a rule and the rules after it, or the first fault among all of them
abbrev pub and_then : Says Rule → Says (List Rule) → Says (List Rule)
and_then (Err f) rest = Err f
and_then (Ok r) (Err f) = Err f
and_then (Ok r) (Ok rs) = Ok (r ∷ rs)

-- the rules from the n-th on, or the fault of the first faulty rule
abbrev pub rules_from : FileVersion → ℕ → List Json → Says (List Rule)
rules_from version n [] = Ok []
rules_from version n (d ∷ ds) = and_then (rule_of version n d) (rules_from version (n + 1) ds)

-- ---- files

-- the text of the version and the rules of a file
pub record Parts : Type 0 where
  pub version : List ℕ
  pub rules : List Json

-- the keys of a policy file
abbrev pub file_keys : List (List ℕ)
file_keys = codes "version" ∷ codes "rules" ∷ []

-- whether the byte begins the fraction or the exponent of a number: `.`, `e` or `E`
abbrev pub begins_part : ℕ → Bool
begins_part b = (b == 46) || ((b == 101) || (b == 69))

-- whether a number is an integer, of any size: it is written without a fraction or an exponent (RFC 8259
-- section 6)
abbrev pub is_integer : List ℕ → Bool
is_integer t = not (list_any begins_part t)

-- the text of an integer
abbrev pub integer_in : Json → Option (List ℕ)
integer_in d = option_and_then (λ n. if is_integer n then Some n else None) (as_number d)

-- the version and the rules of a file, without a check for unknown keys
abbrev pub parts_in : Json → Option Parts
parts_in d =
    option_and_then (λ version. option_map (λ rules. record { version = version; rules = rules })
    (option_and_then items_in (get (codes "rules") d))) (option_and_then integer_in (get (codes "version") d))

-- the version and the rules of a file; None if a key is missing or unknown, the version isn't an integer, or
-- the rules aren't a non-empty list
unfoldable pub file_parts : Json → Option Parts
file_parts d = option_and_then parts_in (object_of_only file_keys d)

-- the version with this number; None for any other text than `1` and `2`
abbrev pub version_named : List ℕ → Option FileVersion
version_named t = if is_same_text t (codes "1") then Some One else (if is_same_text t (codes "2") then Some Two else None)

-- the rules of a file of a version, or its first fault: `Version` if there is no such version, `TooManyRules` if
-- there are more than 1,000 rules, or the first fault of a rule
abbrev pub rules_in_version : Option FileVersion → List Json → Says (List Rule)
rules_in_version None ds = Err (record { rule = 0; cause = cause.Version })
rules_in_version (Some version) ds = if nat_lt MOST_RULES (length ds) then Err (record { rule = 0; cause = TooManyRules }) else rules_from version 1 ds

-- the rules of a file, or its first fault
abbrev pub rules_or_fault : Parts → Says (List Rule)
rules_or_fault p = rules_in_version (version_named p.version) p.rules

-- the rules of a file with this version and these rules, or its first fault; the fault `Shape` if there is
-- neither
abbrev pub parts_or_fault : Option Parts → Says (List Rule)
parts_or_fault None = Err (record { rule = 0; cause = Shape })
parts_or_fault (Some p) = rules_or_fault p

-- the rules of a JSON value read as a policy file, or its first fault
abbrev pub policy_in : Json → Says (List Rule)
policy_in d = parts_or_fault (file_parts d)

-- the rules of a JSON value read as a policy file, or its first fault; the fault `Json` if there is no value
abbrev pub value_or_fault : Option Json → Says (List Rule)
value_or_fault None = Err (record { rule = 0; cause = cause.Json })
value_or_fault (Some d) = policy_in d

-- the rules of a text read as a policy file, or the first fault; faults of the file come before faults of
-- its rules, and faults of a rule come before faults of later rules
unfoldable pub policy_of : List ℕ → Says (List Rule)
policy_of text = value_or_fault (document text)
