-- Policies: lists of rules, numbered from 1.
use Rattle.std.specs.Prelude.{Bool, List, Option}
use Rattle.scim_schema.specs.declared.Kind.{Kind}
use Rattle.scim_schema.specs.declared.Op.{Op}
use Rattle.scim_schema.specs.declared.SubAttribute.{SubAttribute}
use Rattle.scim_filter_grammar.specs.Tree.{Tree}
use Rattle.scim_policy.specs.declared.rules.ClientName.{ClientName}
use Rattle.scim_policy.specs.declared.rules.PolicyPath.{PolicyPath}

-- the target of a rule for resources of a kind: the filter that they must match
pub record Target : Type 0 where
  pub kind : Kind
  pub tree : Tree

-- a path of a rule with a value filter: a value path (RFC 7644 section 3.5.2), and the sub-attribute after its
-- brackets if there is one
pub record FilteredPath : Type 0 where
  pub tree : Tree
  pub sub_attribute : Option SubAttribute

-- the paths of a rule for resources of a kind, without a value filter and with one
pub record KindPaths : Type 0 where
  pub kind : Kind
  pub paths : List PolicyPath
  pub filtered : List FilteredPath

-- a rule: whether it allows or denies, its clients, operations and kinds, and its target and paths for each
-- kind; the list of targets is empty if the rule has no target
pub record Rule : Type 0 where
  pub allow : Bool
  pub clients : List ClientName
  pub ops : List Op
  pub kinds : List Kind
  pub targets : List Target
  pub paths : List KindPaths
