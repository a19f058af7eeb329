-- What a policy decides on a whole resource, and what the server does, as a text.
use Rattle.std.specs.Prelude.{ℕ, List, [], ◌++◌, Option, None, Some, codes, decimal, if◌then◌else◌}
use Rattle.std.specs.List.{flat_map}
use Rattle.scim_schema.specs.declared.Attribute.TheVariants.{Id}
use Rattle.scim_schema.specs.declared.Op.{Op}
use Rattle.scim_schema.specs.declared.Op.TheVariants.{Read, Create, Modify, Delete}
use Rattle.scim_schema.specs.declared.Leaf.{Leaf}
use Rattle.scim_schema.specs.Names.{op_name}
use Rattle.scim_schema.specs.Table.{leaves}
use Rattle.scim_schema.specs.Units.{simple}
use Rattle.scim_cell.specs.Content.{Content}
use Rattle.scim_audit.specs.Rows.{leaf_path}
use Rattle.scim_policy.specs.declared.rules.Decision.{Decision}
use Rattle.scim_policy.specs.Rules.{Rule}
use Rattle.scim_explain.specs.declared.inquiries.Obstacle.{Obstacle}
use Rattle.scim_explain.specs.declared.inquiries.Obstacle.TheVariants.{Denied, ReadOnly, WriteOnly}
use Rattle.scim_explain.specs.Inquiries.{Inquiry, inquiry, obstacle}
use Rattle.scim_explain.specs.Texts.{effect_word}

-- a leaf and the decision on it: the path, the number of the deciding rule or 0, and `allow` or `deny`
abbrev pub decision_text : Leaf → Decision → List ℕ
decision_text l d = leaf_path l ++ codes " rule " ++ decimal d.rule ++ codes " " ++ effect_word d.allow

-- what is in the way of an operation
abbrev pub obstacle_text : Obstacle → List ℕ
obstacle_text (Denied op l d) = op_name op ++ codes " " ++ decision_text l d
obstacle_text ReadOnly = codes "readOnly"
obstacle_text WriteOnly = codes "writeOnly"

-- what an operation does to a leaf
abbrev pub done_word : Op → List ℕ
done_word Read = codes "read"
done_word Create = codes "written"
done_word Modify = codes "written"
done_word Delete = codes "deleted"

-- why an operation isn't done; nothing if nothing is in its way
abbrev pub note : Op → Option Obstacle → List ℕ
note op None = []
note op (Some o) = codes ", but not " ++ done_word op ++ codes ": " ++ obstacle_text o

-- the line of a leaf: the decision on it and, where it allows, why the operation isn't done
abbrev pub leaf_line : Inquiry → Leaf → List ℕ
leaf_line i l = decision_text l (i.on l) ++ (if (i.on l).allow then note i.op (obstacle i l) else []) ++ codes "\n"

-- a line for each leaf
abbrev pub leaf_lines : Inquiry → List Leaf → List ℕ
leaf_lines i ls = flat_map (leaf_line i) ls

-- the word for whether the client sees the resource, by the decision on reading `id`
abbrev pub seen_word : Decision → List ℕ
seen_word d = if d.allow then codes "seen" else codes "not seen"

-- the line that says whether the client sees the resource
abbrev pub seen_line : Inquiry → List ℕ
seen_line i = codes "resource " ++ seen_word (i.access.read (simple Id)) ++ codes ": read " ++ decision_text (simple Id) (i.access.read (simple Id)) ++ codes "\n"

-- what a policy decides on a client's operation on a resource: whether the client sees the resource, and a line for
-- each leaf of its kind, in order; for reading, the decisions on the leaves in all their values
abbrev pub table : List Rule → List ℕ → Op → Content → List ℕ
table policy client op c = seen_line (inquiry policy client op c) ++ leaf_lines (inquiry policy client op c) (leaves c.kind)
