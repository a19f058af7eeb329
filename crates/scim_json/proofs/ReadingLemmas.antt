-- What the reader finds in a value, and what it makes of it.
use Rattle.std.proofs.Common.{◌≡◌, ◌↔◌, List, ℕ, Option, None, Some, IsSome, IfSome, sym, ap, ◌∙◌}
use Rattle.std.specs.FinMap.{entries, same_entries_map}
use Rattle.serde_json.specs.Data.{Data}
use Rattle.scim_schema.specs.declared.Kind.{Kind}
use Rattle.scim_schema.specs.Names.{kind_name}
use Rattle.scim_cell.specs.Ids.{IsId, IsIdText, id_text}
use Rattle.scim_cell.specs.Content.{Content, AreSortedPartCells}
use Rattle.scim_cell.proofs.Facts.{IsIdText-id_text, id_text-injective}
use Rattle.scim_value.proofs.Facts.{sorted_entries}
use Rattle.scim_json.specs.Found.{cells_below, id_in, resource_type_in}
use Rattle.scim_json.specs.Stored.{IsDocument}
use Rattle.scim_json.proofs.Back.{found_stored, id_stored, resource_type_stored}

-- the id that is read of a text is the one whose text it is
pub id_read : (text : List ℕ) (d : Option (List ℕ)) (r : Option (List ℕ)) → d ≡ Some text → IsSome r ↔ IsIdText text → IfSome r (λ id. text ≡ id_text id) → IfSome r IsId
    → (id : List ℕ) → IsId id → (r ≡ Some id) ↔ (d ≡ Some (id_text id))
id_read text d None there form value own id is = (
  λ none. cc,
  λ same. let one : text ≡ id_text id = cc in let some : IsSome {T = List ℕ} None = form.1 (rw one (IsIdText-id_text id)) in cc,
)
id_read text d (Some found) there form value own id is = (
  λ same. let one : found ≡ id = cc in there ∙ ap Some (value ∙ ap id_text one),
  λ same. let one : text ≡ id_text id = cc in ap Some (id_text-injective found id own is (sym value ∙ one)),
)

-- what is found is the kind that `meta.resourceType` names
abbrev pub IsKindIn : Data → Option Kind → Type 0
IsKindIn d r = (kind : Kind) → (r ≡ Some kind) ↔ (resource_type_in d ≡ Some (kind_name kind))

-- what is found is the id that `id` is the text of
abbrev pub IsIdIn : Data → Option (List ℕ) → Type 0
IsIdIn d r = (id : List ℕ) → IsId id → (r ≡ Some id) ↔ (id_in d ≡ Some (id_text id))

-- in a document the kind of its resource is found
pub document_kind : (base : List ℕ) (d : Data) (r : Option Kind) → IsKindIn d r → (c : Content) → IsDocument base d c → r ≡ Some c.kind
document_kind base d r found c is = (found c.kind).1 (ap resource_type_in is.1 ∙ resource_type_stored c is.0.0)

-- and its id
pub document_id : (base : List ℕ) (d : Data) (r : Option (List ℕ)) → IsIdIn d r → (c : Content) → IsDocument base d c → r ≡ Some c.id
document_id base d r found c is = (found c.id is.0.0.identified.0).1 (ap id_in is.1 ∙ id_stored c is.0.0)

module _ (base : List ℕ) (d : Data) (kind : Kind) (id : List ℕ) (is_kind : IsKindIn d (Some kind)) (is_id : IsIdIn d (Some id)) where
  -- it has the kind and the id that are found, and its cells
  has_cells : (c : Content) → IsDocument base d c → (kind ≡ c.kind) × (id ≡ c.id) × (cells_below base kind id d ≡ entries c.cells)
  has_cells c is =
      let k : kind ≡ c.kind = (let e = document_kind base d (Some kind) is_kind c is in cc) in
      let j : id ≡ c.id = (let e = document_id base d (Some id) is_id c is in cc) in
      (k, j, (λ i. cells_below base (k i) (j i) (is.1 i)) ∙ found_stored base c is.0.0 is.0.1)

  -- cells that no part has are of no document
  pub no_part : (AreSortedPartCells kind (cells_below base kind id d) → ⊥) → (c : Content) → IsDocument base d c → ⊥
  no_part none c is =
      let f = has_cells c is in
      none (rw (f.2, f.0) (sorted_entries c, is.0.0.part))

  -- a part with these cells is the resource
  pub one_part : (p : Content) → p.kind ≡ kind → p.id ≡ id → entries p.cells ≡ cells_below base kind id d → (c : Content) → IsDocument base d c → p ≡ c
  one_part p k j cells c is =
      let f = has_cells c is in
      let kinds = k ∙ f.0 in
      let ids = j ∙ f.1 in
      let same = same_entries_map p.cells c.cells (cells ∙ f.2) in
      λ i. record { kind = kinds i; id = ids i; cells = same i }
