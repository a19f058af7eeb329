-- The rows of one resource, as the code compares them.
use Rattle.std.specs.Prelude.{◌≡◌, ◌<◌, ◌≤◌, ◌-◌, ℕ, pos, ◌==◌, Bool, true, false, ◌&&◌, List, [], ◌∷◌, length, get_or, map, All, Option, None, Some, IsUtf8}
use Rattle.std.specs.Option.{option_map, option_to_list}
use Rattle.std.specs.Ordering.{int_eq, nat_cmp}
use Rattle.std.specs.Cmp.Lexicographic.{slice_cmp}
use Rattle.std.specs.List.{flat_map}
use Rattle.std.specs.List.Sorted.{IsStrictlySortedBy}
use Rattle.scim_value.specs.Members.{lists_value}
use Rattle.scim_store_rows.specs.Stands.{is_among, MayHave}
use Rattle.scim_store.specs.Owners.{HasOwner}
use Rattle.scim_store.specs.Damage.{Tables}
use Rattle.sqlite.specs.declared.types.Value.{Value}
use Rattle.sqlite.specs.declared.types.Value.TheVariants.{Int, Text}
use Rattle.sqlite.specs.Order.{Row, column}
use Rattle.scim_store_tables.specs.Lists.{has_text, resource_values, secret_values}
use Rattle.scim_store_tables.specs.declared.versions.Version.{Version}
use Rattle.scim_cell.specs.Content.{Content}
use Rattle.scim_cell.specs.Ids.{id_text}
use Rattle.scim_json.specs.Kept.{IsKept, door_code}
use Rattle.scim_store_rows.specs.Audit.{kind_number}
use Rattle.scim_schema.specs.Names.{attribute_name}
use Rattle.scim_schema.specs.UniqueLeaves.{unique_leaves_by_name}
use Rattle.scim_value.specs.Resource.{first_at}
use Rattle.scim_value.specs.Uniqueness.{Name, name_at}

-- A row of two texts.
abbrev pub pair_of : List ℕ → List ℕ → Row
pair_of first second = Text first ∷ Text second ∷ []

-- A row of three texts.
abbrev pub triple_of : List ℕ → List ℕ → List ℕ → Row
triple_of first second third = Text first ∷ Text second ∷ Text third ∷ []

-- Whether a row is exactly these two texts.
abbrev pub is_pair : List ℕ → List ℕ → Row → Bool
is_pair first second row = length row == 2 && (has_text 0 first row && has_text 1 second row)

-- Whether a row is exactly these three texts.
abbrev pub is_triple : List ℕ → List ℕ → List ℕ → Row → Bool
is_triple first second third row = length row == 3 && (has_text 0 first row && (has_text 1 second row && has_text 2 third row))

-- The row of a unique name, with the id of the resource that has it in the first column.
abbrev pub owned_name : List ℕ → Name → Row
owned_name id n = triple_of id (attribute_name n.leaf.attribute) n.text

-- The row of a member value, with the id of the group that lists it in the first column.
abbrev pub owned_member : List ℕ → List ℕ → Row
owned_member id value = pair_of id value

-- Whether a value is the number.
abbrev pub is_number : ℕ → Value → Bool
is_number number (Int n) = int_eq n (pos number)
is_number number _ = false

-- Whether a row of `resource` has this id, kind and document.
abbrev pub is_row : List ℕ → ℕ → List ℕ → Row → Bool
is_row id kind document row = length row == 3 && (has_text 0 id row && (is_number kind (column row 1) && has_text 2 document row))

-- The text of a value, if it is a text.
abbrev pub text_in : Value → Option (List ℕ)
text_in (Text t) = Some t
text_in _ = None

-- A row has the id, the kind and a valid document of the resource, in UTF-8, and the resource has this door
-- code. The location of the resource is below the base URI, and the tables of the version may have it.
pub record IsRowOf (version : Version) (base : List ℕ) (row : Row) (code : Option (List ℕ)) (c : Content) : Type 0 where
  pub document : List ℕ
  pub row_is : row ≡ resource_values (id_text c.id) (kind_number c.kind) document
  pub kept : IsKept base document code c
  pub utf8 : IsUtf8 document
  pub may : MayHave version c

-- The unique names of a resource, in byte order of the names of their attributes.
abbrev pub ordered_names : Content → List Name
ordered_names c = flat_map (λ l. name_at c.kind l (first_at l c)) (unique_leaves_by_name c.kind)

-- The rows of the unique names of a resource, in byte order of attribute.
abbrev pub owned_names : Content → List Row
owned_names c = map (owned_name (id_text c.id)) (ordered_names c)

-- The row of a door code, if there is one, with the id of its user in the first column.
abbrev pub owned_code : List ℕ → Option (List ℕ) → List Row
owned_code id code = option_to_list (option_map (secret_values id) code)

-- `names`, `members` and `secrets` are exactly the rows of the unique names, of the member values and of the
-- door code of the resource: names in byte order of attribute, members in byte order of value.
pub record HasRows (c : Content) (names members secrets : List Row) : Type 0 where
  pub named : names ≡ owned_names c
  pub values : List (List ℕ)
  pub rising : IsStrictlySortedBy (slice_cmp nat_cmp) values
  pub listed : (v : List ℕ) → is_among v values ≡ lists_value v c
  pub members_are : members ≡ map (owned_member (id_text c.id)) values
  pub coded : secrets ≡ owned_code (id_text c.id) (door_code c)

-- These are the rows of one door code or none: this one, in UTF-8.
abbrev pub HasCode : List Row → Option (List ℕ) → Type 0
HasCode [] code = code ≡ None
HasCode (row ∷ []) code = (text : List ℕ) × (code ≡ Some text) × (column row 1 ≡ Text text) × IsUtf8 text
HasCode (row ∷ other ∷ rows) code = ⊥

-- There are no rows, or exactly the rows of one valid resource.
abbrev pub AreOfOne : Version → List ℕ → List Row → List Row → List Row → List Row → Type 0
AreOfOne version base [] names members secrets = (names ≡ []) × (members ≡ []) × (secrets ≡ [])
AreOfOne version base (row ∷ []) names members secrets = (c : Content) × (code : Option (List ℕ)) × HasCode secrets code × IsRowOf version base row code c × HasRows c names members secrets
AreOfOne version base (row ∷ other ∷ rows) names members secrets = ⊥

-- The attribute and the text in the row of a unique name are texts.
abbrev pub HasName : Row → Type 0
HasName row = (attribute : List ℕ) × (text : List ℕ) × (column row 1 ≡ Text attribute) × (column row 2 ≡ Text text)

-- Each row of the tables belongs to an id.
pub record AreAllOwned (tables : Tables) : Type 0 where
  pub resources : All HasOwner tables.resources
  pub names : All HasOwner tables.names
  pub members : All HasOwner tables.members
  pub secrets : All HasOwner tables.secrets

-- The row before `place`, if there is one, passes the test, and the row at `place`, if there is one, doesn't.
pub record IsPartedAt (test : Row → Bool) (rows : List Row) (place : ℕ) : Type 0 where
  pub within : place ≤ length rows
  pub before : (d : Row) → 0 < place → test (get_or rows (place - 1) d) ≡ true
  pub behind : (d : Row) → place < length rows → test (get_or rows place d) ≡ false
