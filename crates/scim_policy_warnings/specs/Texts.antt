-- The texts of warnings, each a line.
use Rattle.std.specs.Prelude.{ℕ, ◌&&◌, ◌==◌, List, [], ◌++◌, codes, decimal, if◌then◌else◌}
use Rattle.std.specs.List.{flat_map}
use Rattle.scim_schema.specs.declared.Kind.{Kind}
use Rattle.scim_schema.specs.declared.Op.{Op}
use Rattle.scim_schema.specs.declared.Op.TheVariants.{Read, Create, Modify, Delete}
use Rattle.scim_schema.specs.declared.Unit.{Unit as AttributeUnit}
use Rattle.scim_schema.specs.Characteristics.{is_multi_valued}
use Rattle.scim_schema.specs.Names.{kind_name, op_name}
use Rattle.scim_audit.specs.Rows.{path_of, leaf_path}
use Rattle.scim_policy.specs.Fits.{is_reading}
use Rattle.scim_explain.specs.Texts.{rule_line}
use Rattle.scim_policy_warnings.specs.declared.clients.Client.{Client}
use Rattle.scim_policy_warnings.specs.declared.clients.Client.TheVariants as client
use Rattle.scim_policy_warnings.specs.declared.needs.Need.{Need}
use Rattle.scim_policy_warnings.specs.declared.losses.Loss.{Loss}
use Rattle.scim_policy_warnings.specs.declared.losses.Scope.{Scope}
use Rattle.scim_policy_warnings.specs.declared.losses.Scope.TheVariants.{Resources, OneUnit}
use Rattle.scim_policy_warnings.specs.declared.policy_warnings.Warning.{Warning}

-- the name of a client, or `any other client`
abbrev pub client_words : Client → List ℕ
client_words (client.Named name) = name
client_words client.Other = codes "any other client"

-- the path of a unit
abbrev pub unit_path : AttributeUnit → List ℕ
unit_path u = path_of u.attribute u.sub_attribute

-- what a client does to no resource
abbrev pub verb : Op → List ℕ
verb Read = codes "sees"
verb Create = codes "can create"
verb Modify = codes "can modify"
verb Delete = codes "can delete"

-- what a client can't do
abbrev pub loss_words : Op → Kind → Scope → List ℕ
loss_words op k Resources = verb op ++ codes " no " ++ kind_name k
loss_words op k (OneUnit u more) = codes "can never " ++ op_name op ++ codes " " ++ unit_path u ++ codes " of " ++ kind_name k

-- the words for the values that must be read: all of a multi-valued attribute
abbrev pub extent_words : Need → List ℕ
extent_words n = if is_reading n.op && is_multi_valued n.leaf.attribute then codes " in all values" else []

-- what a client may never do: the operation and the leaf
abbrev pub need_words : Need → List ℕ
need_words n = op_name n.op ++ codes " " ++ leaf_path n.leaf ++ extent_words n

-- how many more units can't be written
abbrev pub more_words : Scope → List ℕ
more_words Resources = []
more_words (OneUnit u more) = if more == 0 then [] else codes " (" ++ decimal more ++ codes " more like this)"

-- why a client can't do it: what it may never do, and how many more units can't be written
abbrev pub reason_words : Loss → List ℕ
reason_words lost = codes "it may never " ++ need_words lost.missing ++ more_words lost.scope

-- a warning, without the number of its rule
abbrev pub warning_words : Warning → List ℕ
warning_words w = client_words w.client ++ codes " " ++ loss_words w.op w.kind w.loss.scope ++ codes ": " ++ reason_words w.loss

-- the line of a warning
abbrev pub warning_line : Warning → List ℕ
warning_line w = rule_line w.rule (warning_words w)

-- the lines of warnings
abbrev pub warning_lines : List Warning → List ℕ
warning_lines ws = flat_map warning_line ws
