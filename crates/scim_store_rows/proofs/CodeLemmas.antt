-- The door code of a resource, by the rows of `secret`.
use Rattle.std.proofs.Common.{◌≡◌, ℕ, refl, sym, ◌∙◌, ap, subst, Bool, true, false, cond, List, [], ◌∷◌, ◌++◌, append-nil, filter, reverse}
use Rattle.std.specs.Prelude.{All, Option, None, Some, IsPermutation, String, string_bytes, if◌then◌else◌}
use Rattle.std.proofs.Common.{Bor}
use Rattle.std.specs.Str.{bytes_eq}
use Rattle.std.specs.declared.alloc.Global.{Global}
use Rattle.std.specs.BTreeMap.{Updates, get_by_text}
use Rattle.std.specs.String.{string_cmp}
use Rattle.std.proofs.lemmas.Map.Text.{btree_map_updates_text, is_eq-slice_cmp}
use Rattle.std.specs.Option.{option_map, option_to_list, option_copied}
use Rattle.std.specs.List.{flat_map}
use Rattle.std.proofs.lemmas.List.{nil_from_length, reverse-append}
use Rattle.std.proofs.lemmas.List.Elements.{All-head, All-tail, All-weaker, filter-append}
use Rattle.std.proofs.lemmas.List.Sorted.{length_permutation, IsPermutation-reverse, IsPermutation-trans}
use Rattle.sqlite_trees.proofs.ListLemmas.{IsPermutation-filter}
use Rattle.sqlite.proofs.Callers.{one_permutation}
use Rattle.sqlite.specs.declared.types.Value.TheVariants.{Text}
use Rattle.sqlite.specs.Order.{Row, column}
use Rattle.scim_schema.specs.declared.Kind.TheVariants.{Group}
use Rattle.scim_cell.specs.Ids.{IsId, id_text}
use Rattle.scim_json.proofs.Facts.{group_code}
use Rattle.scim_shelf.proofs.Facts.{by_bool}
use Rattle.sqlite.specs.State.{State}
use Rattle.scim_store_tables.specs.Lists.{Lists, has_text, is_text, secret_values}
use Rattle.scim_store_tables.specs.Reading.{IsTextOfFirst, Finds}
use Rattle.scim_store_rows.specs.code.Finding.{Codes, code_at, AddsCode}
use Rattle.scim_store_rows.proofs.LookLemmas.{CodesTold}
use Rattle.scim_store_rows.specs.Stands.{Entry, IsEntry, secret_rows}
use Rattle.scim_store_rows.proofs.PlaceLemmas.{own}
use Rattle.scim_store_rows.proofs.IdLemmas.{text_own}

filter_single : (p : Row → Bool) (r : Row) (b : Bool) → p r ≡ b → filter p (r ∷ []) ≡ cond b (r ∷ []) []
filter_single p r true e = rw e refl
filter_single p r false e = rw e refl

-- of the rows of a resource all are of its id
of_entry : (id : List ℕ) (e : Entry) → IsId e.content.id → IsId id → filter (has_text 0 (id_text id)) (secret_rows e) ≡ cond (own id e) (secret_rows e) []
of_entry id e one two = go e.door_code
  where
    none : (b : Bool) → [] ≡ cond {A = List Row} b [] []
    none true = refl
    none false = refl

    go : (o : Option (List ℕ)) → filter (has_text 0 (id_text id)) (option_to_list (option_map (secret_values (id_text e.content.id)) o)) ≡ cond (own id e) (option_to_list (option_map (secret_values (id_text e.content.id)) o)) []
    go None = none (own id e)
    go (Some code) = filter_single (has_text 0 (id_text id)) (secret_values (id_text e.content.id) code) (own id e) (text_own id e one two)

-- so those of an id are those of the resource of the id
pub of_id_rows : (id : List ℕ) (es : List Entry) → IsId id → All (λ (e : Entry). IsId e.content.id) es → filter (has_text 0 (id_text id)) (flat_map secret_rows es) ≡ flat_map secret_rows (filter (own id) es)
of_id_rows id [] is_id ids = refl
of_id_rows id (e ∷ es) is_id ids =
    let rest = of_id_rows id es is_id (All-tail (λ (x : Entry). IsId x.content.id) e es ids) in
    let first = of_entry id e (All-head (λ (x : Entry). IsId x.content.id) e es ids) is_id in
    filter-append (has_text 0 (id_text id)) (secret_rows e) (flat_map secret_rows es) ∙ (λ i. first i ++ rest i) ∙ by_bool (own id e) (λ t. rw t refl) (λ f. rw f refl)

-- the code in the one row of a resource is its own
code_in : (id : List ℕ) (o : Option (List ℕ)) (ordered : List Row) (code : Option (List ℕ)) → IsPermutation (option_to_list (option_map (secret_values id) o)) ordered → IsTextOfFirst 1 ordered code → code ≡ o
code_in id None ordered code same told = subst (λ (rows : List Row). IsTextOfFirst 1 rows code) (nil_from_length ordered (length_permutation [] ordered same)) told
code_in id (Some c) ordered code same told =
    let text = subst (λ (rows : List Row). IsTextOfFirst 1 rows code) (one_permutation (secret_values id c) ordered same) told in
    text.1 ∙ ap (λ t. Some t) (text_one text.0 text.2)
  where
    text_one : (t : List ℕ) → Text c ≡ Text t → t ≡ c
    text_one t h = cc

-- the code that is found of an id is that of the resource
pub code_found : (id : List ℕ) (es : List Entry) (e : Entry) (ordered : List Row) (code : Option (List ℕ)) → IsId id → All (λ (x : Entry). IsId x.content.id) es → filter (own id) es ≡ e ∷ []
    → IsPermutation (filter (has_text 0 (id_text id)) (flat_map secret_rows es)) ordered → IsTextOfFirst 1 ordered code → code ≡ e.door_code
code_found id es e ordered code is_id ids only same told =
    let rows : filter (has_text 0 (id_text id)) (flat_map secret_rows es) ≡ secret_rows e = of_id_rows id es is_id ids ∙ ap (flat_map secret_rows) only ∙ append-nil (secret_rows e) in
    code_in (id_text e.content.id) e.door_code ordered code (subst (λ (xs : List Row). IsPermutation xs ordered) rows same) told

-- a group has none
pub group_none : (base : List ℕ) (e : Entry) → IsEntry base e → e.content.kind ≡ Group → e.door_code ≡ None
group_none base e entry group = entry.document.code ∙ group_code e.content entry.document.below.0.part group

-- the ids of valid entries are ids
pub entry_ids : (base : List ℕ) (es : List Entry) → All (IsEntry base) es → All (λ (e : Entry). IsId e.content.id) es
entry_ids base es sound = All-weaker (IsEntry base) (λ (e : Entry). IsId e.content.id) (λ e x. x.document.below.0.identified.0) es sound

-- a string that is lent
pub shown_copied : (o : Option (Bor (String Global))) → option_map (λ (s : Bor (String Global)). string_bytes s.now) o ≡ option_map string_bytes (option_copied o)
shown_copied None = refl
shown_copied (Some s) = refl

-- ---- the map of door codes

-- of several codes of an id the map has the last
abbrev pub AreCodes : List Row → Codes → Type 0
AreCodes rows codes = (id : List ℕ) → IsTextOfFirst 1 (filter (has_text 0 id) (reverse rows)) (code_at codes id)

cond_map : (b : Bool) (code : String Global) (o : Option (String Global)) → option_map string_bytes (cond b (Some code) o) ≡ (if b then Some (string_bytes code) else option_map string_bytes o)
cond_map true code o = refl
cond_map false code o = refl

-- a row's code goes into the map
pub adds : (row : Row) (m n : Codes) (id code : String Global) → column row 0 ≡ Text (string_bytes id) → column row 1 ≡ Text (string_bytes code) → Updates string_cmp m n id (Some code) → AddsCode row m n
adds row m n id code first second updates = record {
  id = string_bytes id;
  code = string_bytes code;
  id_is = first;
  code_is = second;
  added = λ q. ap (option_map string_bytes) (btree_map_updates_text (string_bytes id) m n (Some code) updates q) ∙ cond_map (bytes_eq (string_bytes id) q) code (get_by_text m q);
}

-- one row more
pub codes_push : (rows : List Row) (row : Row) (old new : Codes) → AreCodes rows old → AddsCode row old new → AreCodes (rows ++ row ∷ []) new
codes_push rows row old new are adds id =
    subst (λ (xs : List Row). IsTextOfFirst 1 (filter (has_text 0 id) xs) (code_at new id)) (sym (reverse-append rows (row ∷ [])))
    (by (bytes_eq adds.id id) (ap (is_text id) adds.id_is ∙ is_eq-slice_cmp adds.id id) (adds.added id))
  where
    by : (b : Bool) → has_text 0 id row ≡ b → code_at new id ≡ (if b then Some adds.code else code_at old id) → IsTextOfFirst 1 (filter (has_text 0 id) (row ∷ reverse rows)) (code_at new id)
    by true t is = rw t (adds.code, is, adds.code_is)
    by false f is = rw f (subst (IsTextOfFirst 1 (filter (has_text 0 id) (reverse rows))) (sym is) (are id))

-- the codes of all rows are found
pub codes_find : (old new : State) (lists : Lists) (rows : List Row) (codes : Codes) → CodesTold old new lists rows → AreCodes rows codes → (id : List ℕ) → Finds 1 (filter (has_text 0 id) lists.secret) old new (code_at codes id)
codes_find old new lists rows codes told are id = record {
  unchanged = told.unchanged;
  ordered = filter (has_text 0 id) (reverse rows);
  same = IsPermutation-filter (has_text 0 id) lists.secret (reverse rows) (IsPermutation-trans _ _ _ told.same (IsPermutation-reverse rows));
  first = are id;
}
