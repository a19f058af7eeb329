-- One pass over the rows of resources, in order of id.
use Rattle.std.specs.Prelude.{◌≡◌, ℕ, List, ◌++◌, drop, length, map, All, Option, None, Some, IfSome, IsUtf8, ⊤}
use Rattle.std.specs.Ordering.{nat_cmp}
use Rattle.std.specs.declared.cmp.Ordering.TheVariants.{Less}
use Rattle.std.specs.Cmp.Lexicographic.{slice_cmp}
use Rattle.std.specs.List.{flat_map, FoldsTo, AllByRecursion}
use Rattle.std.specs.List.Sorted.{IsStrictlySortedBy}
use Rattle.sqlite.specs.Order.{Row}
use Rattle.scim_cell.specs.Content.{Content}
use Rattle.scim_store_tables.specs.declared.versions.Version.{Version}
use Rattle.scim_store_tables.specs.Reading.{group_first}
use Rattle.scim_store_rows.specs.Stands.{Entry, resource_row, member_rows, secret_rows}
use Rattle.scim_store.specs.declared.passing.Passed.{Passed}
use Rattle.scim_store.specs.Damage.{Tables, IsEntryIn, AreThoseOf}
use Rattle.scim_store.specs.code.Damage.{IsRowOf, HasRows, owned_names}

-- The id is above the last one, if there is one.
abbrev pub IsAbove : List ℕ → Option (List ℕ) → Type 0
IsAbove id None = ⊤
IsAbove id (Some last) = slice_cmp nat_cmp last id ≡ Less

-- The rows `next` are those between two places.
abbrev pub AreNext : List Row → ℕ → List Row → ℕ → Type 0
AreNext rows place next end = drop place rows ≡ next ++ drop end rows

-- The next rows of names, members and door codes are those of the resource, and its id is above the last one.
pub record Follows (tables : Tables) (c : Content) (old new : Passed) : Type 0 where
  pub above : IsAbove c.id old.last
  pub own_names : List Row
  pub own_members : List Row
  pub own_secrets : List Row
  pub has : HasRows c own_names own_members own_secrets
  pub names : AreNext tables.names old.names own_names new.names
  pub members : AreNext tables.members old.members own_members new.members
  pub secrets : AreNext tables.secrets old.secrets own_secrets new.secrets
  pub last : new.last ≡ Some c.id

-- The row is that of a valid resource, whose names, members and door code follow, and the visitor took the
-- resource.
pub record Passes {V : Type 0} (Takes : V → Content → V → Type 0) (version : Version) (base : List ℕ) (tables : Tables) (row : Row) (old new : Passed) (before after : V) : Type 0 where
  pub content : Content
  pub code : Option (List ℕ)
  pub code_utf8 : IfSome code IsUtf8
  pub row_is : IsRowOf version base row code content
  pub follows : Follows tables content old new
  pub took : Takes before content after

-- The rows are those of valid resources in order of id, the first names, members and door codes are theirs,
-- and the visitor took the resources.
pub record PassesAll {V : Type 0} (Takes : V → Content → V → Type 0) (version : Version) (base : List ℕ) (tables : Tables) (rows : List Row) (passed : Passed) (before after : V) : Type 0 where
  pub entries : List Entry
  pub sound : All (IsEntryIn version base) entries
  pub resources : rows ≡ map resource_row entries
  pub rising : IsStrictlySortedBy (λ (a b : Entry). slice_cmp nat_cmp a.content.id b.content.id) entries
  pub below : (id : List ℕ) → IsAbove id passed.last → AllByRecursion (λ (e : Entry). slice_cmp nat_cmp e.content.id id ≡ Less) entries
  pub names : tables.names ≡ flat_map (λ e. owned_names e.content) entries ++ drop passed.names tables.names
  pub members : tables.members ≡ map group_first (flat_map member_rows entries) ++ drop passed.members tables.members
  pub secrets : tables.secrets ≡ flat_map secret_rows entries ++ drop passed.secrets tables.secrets
  pub took : FoldsTo Takes before (map (λ (e : Entry). e.content) entries) after

-- All rows of names, members and door codes have passed.
pub record IsAtEnd (tables : Tables) (passed : Passed) : Type 0 where
  pub names : passed.names ≡ length tables.names
  pub members : passed.members ≡ length tables.members
  pub secrets : passed.secrets ≡ length tables.secrets

-- The rows of the tables are exactly those of these valid resources, in order of id, and the visitor took the
-- resources.
pub record ShowsSound {V : Type 0} (Takes : V → Content → V → Type 0) (version : Version) (base : List ℕ) (tables : Tables) (before after : V) : Type 0 where
  pub entries : List Entry
  pub are : AreThoseOf version base entries tables
  pub resources : tables.resources ≡ map resource_row entries
  pub secrets : tables.secrets ≡ flat_map secret_rows entries
  pub rising : IsStrictlySortedBy (λ (a b : Entry). slice_cmp nat_cmp a.content.id b.content.id) entries
  pub took : FoldsTo Takes before (map (λ (e : Entry). e.content) entries) after
