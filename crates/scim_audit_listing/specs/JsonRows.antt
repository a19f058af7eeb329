-- The JSON of an audit row.
use Rattle.std.specs.Prelude.{ℕ, List, Option, None, Some, option_map, codes}
use Rattle.serde_json.specs.Data.{Data, null, number, unsigned, string, object, Members, no_members, member}
use Rattle.scim_schema.specs.Names.{op_name, kind_name}
use Rattle.scim_text.specs.Moments.{moment_text}
use Rattle.scim_cell.specs.Ids.{id_text}
use Rattle.scim_audit.specs.declared.audit_rows.AuditRow.{AuditRow}
use Rattle.scim_audit.specs.Rows.{decided_name, leaf_path, refusal_mark}

-- the JSON of a text, or null if there is none
abbrev pub text_data : Option (List ℕ) → Data
text_data None = null
text_data (Some text) = string text

-- the JSON of a number, or null if there is none
abbrev pub number_data : Option ℕ → Data
number_data None = null
number_data (Some n) = number (unsigned n)

-- the members from `moment` on
abbrev pub later_members : ℕ → AuditRow → Members
later_members n row =
    member (codes "moment") (string (moment_text row.moment)) (member (codes "number") (number_data (Some n)) (member (codes "op") (string (op_name row.op))
    (member (codes "refusal") (text_data (option_map refusal_mark row.refusal)) (member (codes "rule") (number_data row.rule) no_members))))

-- the JSON of an audit row with this number: each word of its line, or null in place of `-`; the keys are in
-- byte order
unfoldable pub row_data : ℕ → AuditRow → Data
row_data n row = object
    (member (codes "client") (string row.client) (member (codes "decision") (string (decided_name row.decided)) (member (codes "id") (text_data (option_map id_text row.id))
    (member (codes "kind") (string (kind_name row.kind)) (member (codes "leaf") (text_data (option_map leaf_path row.leaf)) (later_members n row))))))
