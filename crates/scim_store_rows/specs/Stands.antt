-- The relation between the tables of a database and the store that they hold.
use Rattle.std.specs.Prelude.{◌≡◌, ◌≢◌, ℕ, Bool, false, nat_eq, List, map, All, AllPairs, IsUtf8, Option, IfSome, ⊤}
use Rattle.std.specs.Option.{option_map, option_to_list}
use Rattle.std.specs.List.{flat_map, list_any}
use Rattle.std.specs.Cmp.Lexicographic.{pointwise}
use Rattle.sqlite.specs.Order.{Row}
use Rattle.sqlite.specs.Effect.{Database}
use Rattle.scim_schema.specs.Names.{attribute_name}
use Rattle.scim_schema.specs.declared.schema_urns.Schema.TheVariants.{SiteUser}
use Rattle.scim_cell.specs.Content.{Content}
use Rattle.scim_cell.specs.Rows.{rows}
use Rattle.scim_cell.specs.Ids.{id_text}
use Rattle.scim_value.specs.Members.{lists_value}
use Rattle.scim_value.specs.Uniqueness.{Name, unique_names}
use Rattle.scim_json.specs.Kept.{IsKept}
use Rattle.scim_json.specs.PartData.{has_extension}
use Rattle.scim_audit.specs.declared.audit_rows.AuditRow.{AuditRow}
use Rattle.scim_shelf.specs.Stores.{Store, AreKeyed}
use Rattle.scim_store_tables.specs.declared.versions.Version.{Version}
use Rattle.scim_store_tables.specs.declared.versions.Version.TheVariants.{One, Two}
use Rattle.scim_store_tables.specs.Lists.{Lists, AreIn, resource_values, name_values, member_values, secret_values}
use Rattle.scim_store_rows.specs.Audit.{kind_number, audit_rows}

-- A resource with the text of its document, the values that it lists among its members, and its door code.
pub record Entry : Type 0 where
  pub content : Content
  pub document : List ℕ
  pub members : List (List ℕ)
  pub door_code : Option (List ℕ)

-- Whether a value is in the list.
abbrev pub is_among : List ℕ → List (List ℕ) → Bool
is_among value values = list_any (pointwise nat_eq value) values

-- The values are exactly the ones that a resource lists among its members, each once (RFC 7643 section 4.2).
pub record AreMembers (c : Content) (values : List (List ℕ)) : Type 0 where
  pub once : AllPairs (λ v w. v ≢ w) values
  pub listed : (value : List ℕ) → is_among value values ≡ lists_value value c

-- The entry has a valid document of its resource without the door code, and the door code of the resource, both
-- in UTF-8, and exactly the values that the resource lists among its members.
pub record IsEntry (base : List ℕ) (e : Entry) : Type 0 where
  pub document : IsKept base e.document e.door_code e.content
  pub utf8 : IsUtf8 e.document
  pub code_utf8 : IfSome e.door_code IsUtf8
  pub members : AreMembers e.content e.members

-- The row of a resource in `resource`.
abbrev pub resource_row : Entry → Row
resource_row e = resource_values (id_text e.content.id) (kind_number e.content.kind) e.document

-- The row in `taken` of a unique name of the resource with an id: its attribute and its folded text.
abbrev pub name_row : List ℕ → Name → Row
name_row id n = name_values (attribute_name n.leaf.attribute) n.text (id_text id)

-- The rows in `taken` of all unique names of a resource.
abbrev pub name_rows : Entry → List Row
name_rows e = map (name_row e.content.id) (unique_names e.content)

-- The row in `member` of a value that the group with an id lists.
abbrev pub member_row : List ℕ → List ℕ → Row
member_row id value = member_values value (id_text id)

-- The rows in `member` of all values that a group lists.
abbrev pub member_rows : Entry → List Row
member_rows e = map (member_row e.content.id) e.members

-- The row in `secret` of the door code of a user, if the user has one.
abbrev pub secret_rows : Entry → List Row
secret_rows e = option_to_list (option_map (secret_values (id_text e.content.id)) e.door_code)

-- All rows of these resources and of the audit.
abbrev pub lists_of : List Entry → List AuditRow → Lists
lists_of entries audit = record {
  resources = map resource_row entries;
  taken = flat_map name_rows entries;
  member = flat_map member_rows entries;
  audit = audit_rows 1 audit;
  secret = flat_map secret_rows entries;
}

-- The resource has no attribute of the site extension.
abbrev pub HasNoSite : Content → Type 0
HasNoSite c = has_extension (rows c) SiteUser ≡ false

-- Tables of a version may hold the resource. Version 1 doesn't know the site extension.
abbrev pub MayHave : Version → Content → Type 0
MayHave One c = HasNoSite c
MayHave Two c = ⊤

-- A database of a version holds a store of resources with locations below the base URI. It has exactly the
-- tables of the version. `resource` has a row with a valid document for each resource; `taken` has a row for
-- each unique name of each resource; `member` has a row for each value that a group lists; `secret` has a row
-- for each user with a door code; and `audit` has the audit rows of the store, numbered from 1. The resources
-- of the store are in order of id, and no two share a unique name.
pub record StandsForIn (version : Version) (base : List ℕ) (db : Database) (store : Store) : Type 0 where
  pub entries : List Entry
  pub resources : map (λ e. e.content) entries ≡ store.resources
  pub sound : All (IsEntry base) entries
  pub keyed : AreKeyed store.resources
  pub tables : AreIn version db (lists_of entries store.audit)
  pub may : All (MayHave version) store.resources

-- A database of version 2 holds a store.
abbrev pub StandsFor : List ℕ → Database → Store → Type 0
StandsFor = StandsForIn Two

-- A database of version 1 holds a store.
abbrev pub StandsForOld : List ℕ → Database → Store → Type 0
StandsForOld = StandsForIn One
