-- The rules of a policy as sentences.
use Rattle.std.specs.Prelude.{ℕ, List, [], ◌++◌, map, codes, Option, None, Some}
use Rattle.std.specs.List.{flat_map, enumerate_from}
use Rattle.scim_schema.specs.declared.Kind.{Kind}
use Rattle.scim_schema.specs.declared.SubAttribute.{SubAttribute as SubAttributeName}
use Rattle.scim_schema.specs.Names.{kind_name, op_name, sub_attribute_name}
use Rattle.scim_schema.specs.Units.{simple, leaf_at}
use Rattle.scim_audit.specs.Rows.{leaf_path}
use Rattle.scim_policy.specs.declared.rules.ClientName.{ClientName}
use Rattle.scim_policy.specs.declared.rules.ClientName.TheVariants.{Everyone, Named}
use Rattle.scim_policy.specs.declared.rules.PolicyPath.{PolicyPath}
use Rattle.scim_policy.specs.declared.rules.PolicyPath.TheVariants.{Everything, Attribute, SubAttribute}
use Rattle.scim_policy.specs.Rules.{Target, FilteredPath, Rule}
use Rattle.scim_policy.specs.Fits.{filtered_on, paths_on}
use Rattle.scim_policy_sentences.specs.Lists.{joined, listed}
use Rattle.scim_policy_sentences.specs.Targets.{target_on, tree_text}
use Rattle.scim_explain.specs.Texts.{effect_word, rule_line}

-- the name of a client, or `any client` for all clients
abbrev pub client_word : ClientName → List ℕ
client_word Everyone = codes "any client"
client_word (Named name) = name

-- the text of a path as in policy files, or `everything` for all paths
abbrev pub path_word : PolicyPath → List ℕ
path_word Everything = codes "everything"
path_word (Attribute a) = leaf_path (simple a)
path_word (SubAttribute a b) = leaf_path (leaf_at a b)

-- a dot and the sub-attribute; empty if there is none
abbrev pub sub_attribute_words : Option SubAttributeName → List ℕ
sub_attribute_words None = []
sub_attribute_words (Some b) = codes "." ++ sub_attribute_name b

-- the text of a path with a value filter: the value path, and the sub-attribute after its brackets if there is one
abbrev pub filtered_word : FilteredPath → List ℕ
filtered_word p = tree_text p.tree ++ sub_attribute_words p.sub_attribute

-- the rule's paths on resources of a kind, joined as in a sentence; those with a value filter are last
abbrev pub paths_text : Rule → Kind → List ℕ
paths_text r k = listed (map path_word (paths_on k r.paths) ++ map filtered_word (filtered_on k r.paths))

-- the text ` where ` and the target; empty if there is no target
abbrev pub target_clause : Option Target → List ℕ
target_clause None = []
target_clause (Some t) = codes " where " ++ tree_text t.tree

-- the text ` where ` and the rule's target on resources of a kind; empty if there is no target
abbrev pub target_words : Rule → Kind → List ℕ
target_words r k = target_clause (target_on k r.targets)

-- the clause of a rule for a kind: the kind, the target if there is one, and the paths
abbrev pub kind_clause : Rule → Kind → List ℕ
kind_clause r k = kind_name k ++ target_words r k ++ codes ": " ++ paths_text r k

-- the clauses of a rule for each of its kinds, with semicolons between them
abbrev pub kind_clauses : Rule → List ℕ
kind_clauses r = joined (codes "; ") (codes "; ") (map (kind_clause r) r.kinds)

-- the sentence of a rule: whether it allows or denies, the clients, the operations, and the clauses for its
-- kinds
abbrev pub sentence : Rule → List ℕ
sentence r =
    effect_word r.allow ++ codes " " ++ listed (map client_word r.clients) ++ codes " to " ++ listed (map op_name r.ops) ++ codes " " ++ kind_clauses r

-- the line for the rule with this number
abbrev pub sentence_line : ℕ → Rule → List ℕ
sentence_line number r = rule_line number (sentence r)

-- the lines for the rules, numbered from `first`
abbrev pub sentence_lines : ℕ → List Rule → List ℕ
sentence_lines first rules = flat_map (λ (numbered : ℕ × Rule). sentence_line numbered.0 numbered.1) (enumerate_from first rules)

-- the lines for all rules of a policy
abbrev pub rule_sentences : List Rule → List ℕ
rule_sentences policy = sentence_lines 1 policy
