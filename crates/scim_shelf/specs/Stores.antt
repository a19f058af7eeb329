-- The store that a shelf represents, and how a change alters it.
use Rattle.std.specs.Prelude.{◌≡◌, ◌≢◌, ℕ, Bool, false, ◌&&◌, List, [], ◌∷◌, ◌++◌, find, filter, nat_eq, take, drop, All, AllPairs, Option, None, Some, ⊤, if◌then◌else◌}
use Rattle.std.specs.List.{list_any}
use Rattle.std.specs.List.Sorted.{IsStrictlySortedBy, IsPermutation}
use Rattle.std.specs.Ordering.{nat_cmp, is_lt, is_gt}
use Rattle.std.specs.Cmp.Lexicographic.{slice_cmp, pointwise}
use Rattle.scim_schema.specs.declared.Kind.{Kind}
use Rattle.scim_schema.specs.declared.Kind.TheVariants.{Group}
use Rattle.scim_schema.specs.declared.Leaf.{Leaf}
use Rattle.scim_schema.specs.Characteristics.{is_case_exact}
use Rattle.scim_schema.specs.Units.{is_same_leaf, unit_of}
use Rattle.scim_text.specs.Names.{folded}
use Rattle.scim_cell.specs.declared.atoms.Atom.{Atom}
use Rattle.scim_cell.specs.declared.atoms.Atom.TheVariants.{Text}
use Rattle.scim_cell.specs.Content.{Content}
use Rattle.scim_cell.specs.Equality.{is_same_id}
use Rattle.scim_cell.specs.Kinds.{is_of, of_kind}
use Rattle.scim_cell.specs.Order.{id_cmp}
use Rattle.scim_cell.specs.Rows.{Row, rows, values, atom_in}
use Rattle.scim_value.specs.Members.{lists_value}
use Rattle.scim_value.specs.Resource.{IsResource, HasBase}
use Rattle.scim_value.specs.Uniqueness.{Name, unique_names, AreApart}
use Rattle.scim_audit.specs.declared.audit_rows.AuditRow.{AuditRow}
use Rattle.scim_shelf.specs.declared.changes.Change.{Change}
use Rattle.scim_shelf.specs.declared.leaf_texts.LeafText.{LeafText}
use Rattle.scim_shelf.specs.declared.changes.Change.TheVariants.{Nothing, Keep, Remove}

-- A store: its resources in order of id, and its audit rows, numbered from 1.
pub record Store : Type 0 where
  pub resources : List Content
  pub audit : List AuditRow

-- The ids are strictly ascending, and no two resources share a unique name (RFC 7643 sections 2.2 and 3.1).
pub record AreKeyed (cs : List Content) : Type 0 where
  pub ascending : IsStrictlySortedBy id_cmp cs
  pub apart : AllPairs AreApart cs

-- A store of valid resources whose locations are below the base URI.
pub record IsStore (base : List ℕ) (store : Store) : Type 0 where
  pub sound : All (λ c. IsResource c × HasBase base c) store.resources
  pub keyed : AreKeyed store.resources

-- A new store of the resources `cs`, in order of id, with no audit rows.
pub record IsNewStore (cs : List Content) (store : Store) : Type 0 where
  pub members : IsPermutation cs store.resources
  pub keyed : AreKeyed store.resources
  pub no_rows : store.audit ≡ []

-- Whether a resource is of the kind and has the id.
abbrev pub is_at : Kind → List ℕ → Content → Bool
is_at kind id c = is_of kind c && is_same_id id c.id

-- Whether two unique names are the same: at the same leaf and with the same text.
abbrev pub is_same_name : Name → Name → Bool
is_same_name n m = is_same_leaf n.leaf m.leaf && pointwise nat_eq n.text m.text

-- Whether a resource has the unique name.
abbrev pub has_name : Name → Content → Bool
has_name name c = list_any (is_same_name name) (unique_names c)

-- Whether a resource has a unique name that one of the resources `cs` has too (RFC 7643 section 2.2,
-- uniqueness).
abbrev pub is_taken : List Content → Content → Bool
is_taken cs c = list_any (λ n. list_any (has_name n) cs) (unique_names c)

-- Whether a user or group among `cs` has the id (RFC 7643 section 3.1).
abbrev pub is_used : List Content → List ℕ → Bool
is_used cs id = list_any (λ d. is_same_id id d.id) cs

-- The user or group with the id, if there is one (RFC 7643 section 3.1).
abbrev pub of_id : List ℕ → List Content → Option Content
of_id id cs = find (λ c. is_same_id id c.id) cs

-- Whether a resource is a group that lists the value among its members (RFC 7643 section 4.2).
abbrev pub is_group_with : List ℕ → Content → Bool
is_group_with value c = is_of Group c && lists_value value c

-- The text that comparisons at a leaf use: unchanged if the leaf is caseExact, otherwise folded (RFC 7643
-- section 2.2).
abbrev pub compared_text : Leaf → List ℕ → List ℕ
compared_text leaf t = if is_case_exact leaf then t else folded t

-- Whether the option contains a text that compares as `text` at the leaf.
abbrev pub is_compared : Leaf → List ℕ → Option Atom → Bool
is_compared leaf text (Some (Text t)) = pointwise nat_eq text (compared_text leaf t)
is_compared leaf text _ = false

-- Whether one of these values has the text at the leaf, as comparisons use it.
abbrev pub has_text_in : Leaf → List ℕ → List Row → Bool
has_text_in leaf text rs = list_any (λ (r : Row). is_compared leaf text (atom_in leaf r.fields)) rs

-- Whether a value of the resource has the text at the leaf, as comparisons use it.
abbrev pub has_text : Leaf → List ℕ → Content → Bool
has_text leaf text c = has_text_in leaf text (values (unit_of leaf) (rows c))

-- Whether a resource has one of these texts at its leaf.
abbrev pub has_some_text : List LeafText → Content → Bool
has_some_text texts c = list_any (λ (t : LeafText). has_text t.leaf t.text.now c) texts

-- The resources of the kind that have one of these texts at its leaf, in the order of the list.
abbrev pub with_some_text : Kind → List LeafText → List Content → List Content
with_some_text kind texts cs = filter (has_some_text texts) (of_kind kind cs)

-- The resource that a look-up found, if any, as a list.
abbrev pub those_found : Option Content → List Content
those_found None = []
those_found (Some c) = c ∷ []

-- The resource of the kind with the id, if there is one, as a list.
abbrev pub those_at : Kind → List ℕ → List Content → List Content
those_at kind id cs = those_found (find (is_at kind id) cs)

-- The `count` resources after the first `skipped`, or as many as there are.
abbrev pub window : ℕ → ℕ → List Content → List Content
window skipped count cs = take count (drop skipped cs)

-- The resources whose ids are less than `id`.
abbrev pub below : List ℕ → List Content → List Content
below id cs = filter (λ c. is_lt (slice_cmp nat_cmp c.id id)) cs

-- The resources whose ids are greater than `id`.
abbrev pub above : List ℕ → List Content → List Content
above id cs = filter (λ c. is_gt (slice_cmp nat_cmp c.id id)) cs

-- The resources with `c` inserted in order of id. A resource with the same id is replaced.
abbrev pub keep : Content → List Content → List Content
keep c cs = below c.id cs ++ c ∷ above c.id cs

-- The resources without the one that has the id.
abbrev pub without : List ℕ → List Content → List Content
without id cs = below id cs ++ above id cs

-- The resources after a change. No two resources have the same id, even if they are of different kinds (RFC
-- 7643 section 3.1).
abbrev pub changed : Change → List Content → List Content
changed Nothing cs = cs
changed (Keep c) cs = keep c cs
changed (Remove kind id) cs = without id cs

-- `old` is the user or group that has the id of the change before the change is made, if any. For `Nothing`,
-- `old` may be anything.
abbrev pub IsOld : List Content → Change → Option Content → Type 0
IsOld cs Nothing old = ⊤
IsOld cs (Keep c) old = of_id c.id cs ≡ old
IsOld cs (Remove kind id) old = of_id id cs ≡ old

-- The store after a change, with the audit row `row` added at the end.
abbrev pub after : Change → AuditRow → Store → Store
after change row store = record { resources = changed change store.resources; audit = store.audit ++ row ∷ [] }

-- Each resource with the id is of the kind.
abbrev pub AreOf : Kind → List ℕ → List Content → Type 0
AreOf kind id cs = All (λ d. d.id ≡ id → d.kind ≡ kind) cs

-- No resource of the other kind has the id of `c`, and no resource with another id shares a unique name with
-- `c`.
pub record HasPlace (cs : List Content) (c : Content) : Type 0 where
  pub kinds : AreOf c.kind c.id cs
  pub names : All (λ d. d.id ≢ c.id → AreApart c d) cs

-- A change may be made. For `Keep`, no stored resource of the other kind has the id of `c`, and no stored
-- resource with another id shares a unique name with `c`.
abbrev pub CanKeep : Store → Change → Type 0
CanKeep store (Keep c) = HasPlace store.resources c
CanKeep store _ = ⊤

-- The largest number of an audit row, 2^63 - 1.
abbrev pub last_number : ℕ
last_number = 9223372036854775807
