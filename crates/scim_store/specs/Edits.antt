-- The edits that a change makes to the rows of the tables.
use Rattle.std.specs.Prelude.{◌≡◌, ◌≢◌, ℕ, ◌+◌, Bool, true, false, ◌&&◌, not, List, [], ◌∷◌, ◌++◌, length, map, filter, AllPairs, Option, None, Some, string_bytes, ⊤}
use Rattle.std.specs.Option.{option_map, option_to_list}
use Rattle.std.specs.List.{list_any}
use Rattle.sqlite.specs.Order.{Row}
use Rattle.sqlite.specs.Effect.{Database}
use Rattle.scim_schema.specs.Names.{attribute_name}
use Rattle.scim_cell.specs.Content.{Content}
use Rattle.scim_cell.specs.Ids.{IsId, id_text}
use Rattle.scim_value.specs.declared.uniqueness.UniqueName.{UniqueName}
use Rattle.scim_value.specs.Members.{lists_value}
use Rattle.scim_value.specs.Resource.{HasBase}
use Rattle.scim_value.specs.Uniqueness.{Name, name_of, unique_names}
use Rattle.scim_json.specs.Kept.{IsKept, door_code}
use Rattle.scim_audit.specs.declared.audit_rows.AuditRow.{AuditRow}
use Rattle.scim_shelf.specs.declared.changes.Change.{Change}
use Rattle.scim_shelf.specs.declared.changes.Change.TheVariants.{Nothing, Keep, Remove}
use Rattle.scim_shelf.specs.Stores.{Store, CanKeep, after, is_same_name, of_id}
use Rattle.scim_store_tables.specs.Lists.{Lists, without, has_text, has_texts, resource_values, name_values, member_values, secret_values}
use Rattle.scim_store_tables.specs.Audit.{audit_values}
use Rattle.scim_store_tables.specs.declared.audit.AuditColumns.{AuditColumns}
use Rattle.scim_store.specs.declared.edits.Edits.{Edits}
use Rattle.scim_store.specs.declared.edits.SecretEdit.{SecretEdit}
use Rattle.scim_store.specs.declared.edits.SecretEdit.TheVariants.{Stays, Goes, Comes, Becomes}
use Rattle.scim_store_rows.specs.Audit.{kind_number, audit_row}
use Rattle.scim_store_rows.specs.Stands.{StandsFor, is_among}

-- Whether a row in `taken` has one of these names, with any owner.
abbrev pub is_name : List UniqueName → Row → Bool
is_name names row = list_any (λ n. has_texts (attribute_name n.leaf.attribute) (string_bytes n.text) row) names

-- Whether a row in `member` has the id of the group and one of these values.
abbrev pub is_member : List ℕ → List (List ℕ) → Row → Bool
is_member group_id values row = list_any (λ v. has_texts v group_id row) values

-- The rows of these names, with the id of the resource that has them.
abbrev pub rows_of_names : List ℕ → List UniqueName → List Row
rows_of_names id names = map (λ n. name_values (attribute_name n.leaf.attribute) (string_bytes n.text) id) names

-- The rows of these member values, with the id of the group that lists them.
abbrev pub rows_of_members : List ℕ → List (List ℕ) → List Row
rows_of_members group_id values = map (λ v. member_values v group_id) values

-- Whether an edit removes the row of the old door code.
abbrev pub removes_code : SecretEdit → Bool
removes_code Goes = true
removes_code (Becomes code) = true
removes_code _ = false

-- The door code that an edit adds a row of, if any.
abbrev pub new_code : SecretEdit → Option (List ℕ)
new_code (Comes code) = Some (string_bytes code)
new_code (Becomes code) = Some (string_bytes code)
new_code _ = None

-- Whether a row in `secret` has the id of the user, and the edit removes it.
abbrev pub is_secret : List ℕ → SecretEdit → Row → Bool
is_secret id edit row = removes_code edit && has_text 0 id row

-- The row of the new door code, if any, with the id of the user who has it.
abbrev pub rows_of_secret : List ℕ → SecretEdit → List Row
rows_of_secret id edit = option_to_list (option_map (secret_values id) (new_code edit))

-- The row of the new document, if any.
abbrev pub rows_of_document : Edits → List Row
rows_of_document e = option_to_list (option_map (λ d. resource_values e.id (kind_number e.kind) (string_bytes d)) e.document)

-- The rows after the edits of one resource: the rows to remove are removed, and the rows to add are added.
abbrev pub edited : Edits → Lists → Lists
edited e lists = record lists {
  resources = rows_of_document e ++ without (has_text 0 e.id) lists.resources;
  taken = rows_of_names e.id e.names_come.items ++ without (is_name e.names_gone.items) lists.taken;
  member = rows_of_members e.id e.members_come.items ++ without (is_member e.id e.members_gone.items) lists.member;
  secret = rows_of_secret e.id e.secret ++ without (is_secret e.id e.secret) lists.secret;
}

-- The rows after the edits, if any.
abbrev pub edited_by : Option Edits → Lists → Lists
edited_by None lists = lists
edited_by (Some e) lists = edited e lists

-- The rows with one more audit row.
abbrev pub with_row : Row → Lists → Lists
with_row row lists = record lists { audit = row ∷ lists.audit }

-- The unique names of a resource, if any.
abbrev pub names_in : Option Content → List Name
names_in None = []
names_in (Some c) = unique_names c

-- The names that aren't in `others`.
abbrev pub names_beyond : List Name → List Name → List Name
names_beyond others names = filter (λ n. not (list_any (is_same_name n) others)) names

-- Whether a resource, if any, lists a value among its members.
abbrev pub lists_in : List ℕ → Option Content → Bool
lists_in value None = false
lists_in value (Some c) = lists_value value c

-- The door code of a resource, if any.
abbrev pub code_in : Option Content → Option (List ℕ)
code_in None = None
code_in (Some c) = door_code c

-- The edit turns the old door code, if any, into the new one, if any. It changes rows only if they differ.
abbrev pub TurnsCode : Option (List ℕ) → Option (List ℕ) → SecretEdit → Type 0
TurnsCode old new Stays = new ≡ old
TurnsCode old new Goes = (old ≢ None) × (new ≡ None)
TurnsCode old new (Comes code) = (old ≡ None) × (new ≡ Some (string_bytes code))
TurnsCode old new (Becomes code) = (old ≢ None) × (new ≡ Some (string_bytes code)) × (new ≢ old)

-- The edits have the kind of the resource `c` and a valid document of it without its door code. If there is no
-- resource, the edits have no document.
abbrev pub IsWritten : List ℕ → Option Content → Edits → Type 0
IsWritten base None e = e.document ≡ None
IsWritten base (Some c) e = (e.kind ≡ c.kind) × (text : List ℕ) × (option_map string_bytes e.document ≡ Some text) × IsKept base text (door_code c) c

-- The edits replace the rows of the old resource with this id, if any, by the rows of the new resource, if
-- any. The edits remove the names and member values that only the old resource has, and add the names and
-- member values that only the new resource has, each value once. They turn the old door code into the new one.
pub record Replaces (base : List ℕ) (id : List ℕ) (old new : Option Content) (e : Edits) : Type 0 where
  pub is_id : IsId id
  pub text : e.id ≡ id_text id
  pub names_gone : map name_of e.names_gone.items ≡ names_beyond (names_in new) (names_in old)
  pub names_come : map name_of e.names_come.items ≡ names_beyond (names_in old) (names_in new)
  pub members_gone : (value : List ℕ) → is_among value e.members_gone.items ≡ (lists_in value old && not (lists_in value new))
  pub members_come : (value : List ℕ) → is_among value e.members_come.items ≡ (lists_in value new && not (lists_in value old))
  pub once : AllPairs (λ v w. v ≢ w) e.members_come.items
  pub secret : TurnsCode (code_in old) (code_in new) e.secret
  pub document : IsWritten base new e

-- The edits make the change to the resources `cs`.
abbrev pub AreEdits : List ℕ → List Content → Change → Option Edits → Type 0
AreEdits base cs Nothing edits = edits ≡ None
AreEdits base cs (Keep c) None = ⊥
AreEdits base cs (Keep c) (Some e) = Replaces base c.id (of_id c.id cs) (Some c) e
AreEdits base cs (Remove kind id) None = ⊥
AreEdits base cs (Remove kind id) (Some e) = Replaces base id (of_id id cs) None e

-- The resource that a change stores, if any, has a location below the base URI.
abbrev pub KeepsBelow : List ℕ → Change → Type 0
KeepsBelow base (Keep c) = HasBase base c
KeepsBelow base _ = ⊤

-- If the old tables hold a valid store, then for any change that these edits make and any audit row with
-- these columns, the new tables hold the store after the change with the audit row.
pub record Writes (edits : Option Edits) (columns : AuditColumns) (old new : Database) : Type 0 where
  pub stands : (base : List ℕ) (store : Store) (change : Change) (row : AuditRow) → StandsFor base old store → CanKeep store change → AreEdits base store.resources change edits
      → audit_values columns ≡ audit_row (length store.audit + 1) row → StandsFor base new (after change row store)
