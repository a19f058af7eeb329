-- The results of the steps of a read.
use Rattle.std.specs.Prelude.{◌≡◌, ℕ, true, List, String, map, find, All, IsTrue, Option, Some, if◌then◌else◌, string_bytes}
use Rattle.std.specs.Option.{option_map}
use Rattle.std.specs.Str.{bytes_eq}
use Rattle.std.specs.BTreeMap.{BTreeMap, get_by_text}
use Rattle.std.specs.declared.alloc.Global.{Global}
use Rattle.sqlite.specs.declared.types.Value.{Value}
use Rattle.sqlite.specs.declared.types.Value.TheVariants.{Text}
use Rattle.sqlite.specs.Order.{Row, column}
use Rattle.sqlite.specs.State.{State, IsUnchanged}
use Rattle.scim_schema.specs.declared.Kind.{Kind}
use Rattle.scim_schema.specs.declared.Kind.TheVariants.{Group}
use Rattle.scim_cell.specs.Content.{Content}
use Rattle.scim_cell.specs.Ids.{id_text}
use Rattle.scim_cell.specs.Kinds.{is_of, of_kind}
use Rattle.scim_json.specs.Kept.{door_code}
use Rattle.scim_value.specs.Uniqueness.{Name}
use Rattle.scim_shelf.specs.Stores.{Store, is_at, has_name}
use Rattle.scim_store_rows.specs.Stands.{Entry, IsEntry}
use Rattle.scim_store_rows.specs.Finding.{IsFound}

-- The result is the id of the resource that has the unique name, if any, and nothing is changed.
abbrev pub FindsOwnerId : Name → Store → State → State → Option (List ℕ) → Type 0
FindsOwnerId name store = IsFound (option_map (λ c. c.id) (find (has_name name) store.resources))

-- The text of a resource's id, as a value of SQL.
abbrev pub id_value : Content → Value
id_value c = Text (id_text c.id)

-- A content is a group of the store.
abbrev pub IsGroupOf : Store → Content → Type 0
IsGroupOf store c = find (is_at Group c.id) store.resources ≡ Some c

-- The results are the groups of the store whose ids are in the first columns of the rows, and nothing is
-- changed.
pub record AreGroups (store : Store) (rows : List Row) (old new : State) (groups : List Content) : Type 0 where
  pub unchanged : IsUnchanged old new
  pub ids : map id_value groups ≡ map (λ row. column row 0) rows
  pub kept : All (IsGroupOf store) groups

-- Door codes by the texts of the ids of their users.
abbrev pub Codes : Type 0
Codes = BTreeMap (String Global) (String Global)

-- The door code of the user whose id has the text, if any.
abbrev pub code_at : Codes → List ℕ → Option (List ℕ)
code_at codes id = option_map string_bytes (get_by_text codes id)

-- The door code of a row of `secret` is added, in the place of any of the same id.
pub record AddsCode (row : Row) (old new : Codes) : Type 0 where
  pub id : List ℕ
  pub code : List ℕ
  pub id_is : column row 0 ≡ Text id
  pub code_is : column row 1 ≡ Text code
  pub added : (q : List ℕ) → code_at new q ≡ (if bytes_eq id q then Some code else code_at old q)

-- The door codes are those of the kind's resources.
abbrev pub HasCodes : Kind → Codes → Store → Type 0
HasCodes kind codes store = All (λ c. code_at codes (id_text c.id) ≡ door_code c) (of_kind kind store.resources)

-- If the connection is open, the door codes are those of the kind's resources.
abbrev pub KnowsCodes : Kind → Codes → State → Store → Type 0
KnowsCodes kind codes s store = IsTrue s.is_open → HasCodes kind codes store

-- The entry is valid, and its door code is known if it is of the kind.
pub record IsCoded (base : List ℕ) (kind : Kind) (codes : Codes) (e : Entry) : Type 0 where
  pub entry : IsEntry base e
  pub code : is_of kind e.content ≡ true → code_at codes (id_text e.content.id) ≡ e.door_code
