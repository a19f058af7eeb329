-- The target of a rule: a text that is a filter on each of the rule's kinds (RFC 7644 section 3.4.2.2).
use Rattle.std.specs.Prelude.{ℕ, ◌+◌, Bool, true, false, ◌&&◌, List, [], ◌∷◌, map, Option, None, Some, option_map, ok_or, slice_get, Result, Ok, Err, if◌then◌else◌}
use Rattle.std.specs.List.{list_any}
use denote.Enum.Bare.{sameb}
use Rattle.scim_schema.specs.declared.Kind.{Kind}
use Rattle.scim_schema.specs.declared.Attribute.{Attribute}
use Rattle.scim_schema.specs.declared.Attribute.TheVariants.{Groups, Password, Meta, DoorCode}
use Rattle.scim_schema.specs.contracts.Attribute.{the_type as the_attribute}
use Rattle.scim_filter_grammar.specs.declared.mentions.Named.{Named}
use Rattle.scim_filter_grammar.specs.Mentions.{mentioned_names, is_known}
use Rattle.scim_filter_grammar.specs.Spelled.{filter_in}
use Rattle.scim_policy_file.specs.declared.faults.Cause.{Cause}
use Rattle.scim_policy_file.specs.declared.faults.Cause.TheVariants as cause
use Rattle.scim_policy.specs.Rules.{Target}
use Rattle.scim_policy_file.specs.Lists.{each}

-- the result of the second step, applied to the value of the first step, or the fault of the first step
infixl 10 ◌>>=◌
abbrev pub ◌>>=◌ : {A B : Type 0} → Result A Cause → (A → Result B Cause) → Result B Cause
(Ok x) >>= f = f x
(Err e) >>= f = Err e

-- the value, or the fault `Name` if there is no value
abbrev pub or_name : {A : Type 0} → Option A → Result A Cause
or_name o = ok_or o cause.Name

-- a text read as a filter on resources of a kind, as a target; None if it isn't a filter
abbrev pub target_on : List ℕ → Kind → Option Target
target_on text kind = option_map (λ tree. record { kind = kind; tree = tree }) (filter_in kind text)

-- whether there is a name, and the name refers to an attribute
abbrev pub is_known_name : Option Named → Bool
is_known_name None = false
is_known_name (Some n) = is_known n

-- whether the list has a name at this index, from 0, that refers to an attribute
abbrev pub is_known_at : ℕ → List Named → Bool
is_known_at i ns = is_known_name (slice_get ns i)

-- whether, for each index from i on, at least one list has a name at that index that refers to an attribute;
-- there are as many indices as the last argument has elements
abbrev pub are_known_from : ℕ → List (List Named) → List Named → Bool
are_known_from i lists [] = true
are_known_from i lists (n ∷ ns) = list_any (is_known_at i) lists && are_known_from (i + 1) lists ns

-- whether each name refers to an attribute of at least one of the kinds; each list has all names of the
-- target, in order, as read for one of the kinds
abbrev pub are_known : List (List Named) → Bool
are_known [] = true
are_known (ns ∷ more) = are_known_from 0 (ns ∷ more) ns

-- whether the attribute is one of these
abbrev pub is_one_of : List Attribute → Option Attribute → Bool
is_one_of those None = false
is_one_of those (Some a) = list_any (sameb the_attribute a) those

-- whether one of the names refers to one of these attributes
abbrev pub name_one_of : List Attribute → List Named → Bool
name_one_of those ns = list_any (λ (n : Named). is_one_of those n.attribute) ns

-- the targets; the cause `Name` if a name refers to an attribute of none of the kinds, else `TargetNames` if
-- a name refers to `groups`, `password` or `meta`, else `TargetNamesDoorCode` if a name refers to `doorCode`
abbrev pub allowed : List (List Named) → List Target → Result (List Target) Cause
allowed lists ts =
    if are_known lists
    then (if list_any (name_one_of (Groups ∷ Password ∷ Meta ∷ [])) lists then Err cause.TargetNames
    else (if list_any (name_one_of (DoorCode ∷ [])) lists then Err cause.TargetNamesDoorCode else Ok ts))
    else Err cause.Name

-- the attribute names in each of the targets, one list for each target
abbrev pub names_of : List Target → List (List Named)
names_of ts = map (λ (t : Target). mentioned_names t.tree) ts

-- a text read as a filter on each of these kinds, as targets, or the cause of its first fault
unfoldable pub targets_in : List Kind → List ℕ → Result (List Target) Cause
targets_in kinds text = ok_or (each (target_on text) kinds) cause.Target >>= λ ts. allowed (names_of ts) ts

-- the targets of the text, or the cause of its first fault; no targets if there is no text
abbrev pub targets_for : List Kind → Option (List ℕ) → Result (List Target) Cause
targets_for kinds None = Ok []
targets_for kinds (Some text) = targets_in kinds text
