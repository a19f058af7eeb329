-- Audit rows, and the line of text for each row.
use Rattle.std.specs.Prelude.{ℕ, List, [], ◌∷◌, ◌++◌, codes, decimal, Option, None, Some, option_map, unwrap_or}
use Rattle.std.specs.List.{join_with_byte}
use Rattle.scim_schema.specs.declared.Attribute.{Attribute}
use Rattle.scim_schema.specs.declared.SubAttribute.{SubAttribute}
use Rattle.scim_schema.specs.declared.Leaf.{Leaf}
use Rattle.scim_schema.specs.Names.{attribute_name, sub_attribute_name, op_name, kind_name}
use Rattle.scim_text.specs.Moments.{moment_text}
use Rattle.scim_cell.specs.Ids.{id_text}
use Rattle.scim_audit.specs.declared.refusals.Refusal.{Refusal}
use Rattle.scim_audit.specs.declared.audit_rows.Decided.{Decided}
use Rattle.scim_audit.specs.declared.audit_rows.Decided.TheVariants.{Allow, Deny, Hidden, Absent, Refused}
use Rattle.scim_audit.specs.declared.audit_rows.AuditRow.{AuditRow}
use Rattle.scim_audit.specs.Refusals.{number_of}

-- all decisions
unfoldable pub decisions : List Decided
decisions = Allow ∷ Deny ∷ Hidden ∷ Absent ∷ Refused ∷ []

-- the word for a decision
abbrev pub decided_name : Decided → List ℕ
decided_name Allow = codes "Allow"
decided_name Deny = codes "Deny"
decided_name Hidden = codes "Hidden"
decided_name Absent = codes "Absent"
decided_name Refused = codes "Refused"

-- the word for a missing value in an audit line
abbrev pub no_word : List ℕ
no_word = codes "-"

-- the path of an attribute, or of its sub-attribute if one is given (RFC 7644 section 3.10)
abbrev pub path_of : Attribute → Option SubAttribute → List ℕ
path_of attribute None = attribute_name attribute
path_of attribute (Some sub_attribute) = attribute_name attribute ++ codes "." ++ sub_attribute_name sub_attribute

-- the path of a leaf, as in policies
abbrev pub leaf_path : Leaf → List ℕ
leaf_path leaf = path_of leaf.attribute leaf.sub_attribute

-- `F` and the number of a refusal
abbrev pub refusal_mark : Refusal → List ℕ
refusal_mark refusal = codes "F" ++ decimal (number_of refusal)

-- the text of an id, or `-` if there is none
abbrev pub id_word : Option (List ℕ) → List ℕ
id_word id = unwrap_or (option_map id_text id) no_word

-- the number of a rule, or `-` if there is none
abbrev pub rule_word : Option ℕ → List ℕ
rule_word rule = unwrap_or (option_map decimal rule) no_word

-- the path of a leaf, or `-` if there is none
abbrev pub leaf_word : Option Leaf → List ℕ
leaf_word leaf = unwrap_or (option_map leaf_path leaf) no_word

-- `F` and the number of a refusal, or `-` if there is none
abbrev pub refusal_word : Option Refusal → List ℕ
refusal_word refusal = unwrap_or (option_map refusal_mark refusal) no_word

-- the words of the audit line for a row with this number
abbrev pub row_words : ℕ → AuditRow → List (List ℕ)
row_words number row =
    decimal number ∷ moment_text row.moment ∷ row.client ∷ op_name row.op ∷ kind_name row.kind ∷ id_word row.id
    ∷ decided_name row.decided ∷ rule_word row.rule ∷ leaf_word row.leaf ∷ refusal_word row.refusal ∷ []

-- the audit line for a row with this number: the words of `row_words`, separated by spaces
unfoldable pub row_line : ℕ → AuditRow → List ℕ
row_line number row = join_with_byte 32 (row_words number row)
