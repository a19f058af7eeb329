-- What was shown the rows of a database has copied the resources of each store that its tables hold.
use Rattle.std.proofs.Common.{◌≡◌, ℕ, refl, sym, ◌∙◌, ap, subst, false, List, [], ◌∷◌, ◌++◌, map, filter}
use Rattle.std.specs.Prelude.{All, Option, None, Some}
use Rattle.std.specs.Option.{option_map, option_to_list}
use Rattle.std.specs.Ordering.{nat_cmp, is_eq, ordering_then, ordering_reverse}
use Rattle.std.specs.declared.cmp.Ordering.TheVariants.{Less, Equal}
use Rattle.std.specs.Cmp.Lexicographic.{slice_cmp}
use Rattle.std.specs.List.{flat_map, AllByRecursion, FoldsTo}
use Rattle.std.specs.List.Sorted.{IsStrictlySortedBy}
use Rattle.std.proofs.lemmas.Cmp.{tied_itself, nat_list_cmp_total}
use Rattle.std.proofs.lemmas.List.{append-nil, append_cancel_left}
use Rattle.std.proofs.lemmas.List.Elements.{All-head, All-tail, All-weaker}
use Rattle.std.proofs.lemmas.Map.Keys.{sorted_head, sorted_tail}
use Rattle.sqlite_trees.specs.Tree.{IsAscending}
use Rattle.sqlite_trees.proofs.ListLemmas.{all-append, all_weaker, filter_none}
use Rattle.sqlite.specs.Effect.{Database}
use Rattle.sqlite.specs.Order.{Row, value_cmp}
use Rattle.sqlite_value.proofs.OrderLemmas.{value_cmp-Text}
use Rattle.scim_cell.specs.Content.{Content}
use Rattle.scim_cell.specs.Ids.{IsId, id_text}
use Rattle.scim_cell.specs.Order.{id_cmp}
use Rattle.scim_cell.proofs.Facts.{slice_cmp-id_text}
use Rattle.scim_json.specs.Kept.{IsKept}
use Rattle.scim_json.proofs.Facts.{kept_parts_determine}
use Rattle.scim_shelf_cache.specs.declared.contents.CacheContents.{CacheContents}
use Rattle.scim_shelf_cache.specs.Caches.{Caches, HasCached}
use Rattle.scim_shelf_cache.proofs.Facts.{cached_all}
use Rattle.scim_store_tables.specs.declared.versions.Version.{Version}
use Rattle.scim_store_tables.specs.declared.versions.Version.TheVariants.{Two}
use Rattle.scim_store_tables.specs.Lists.{has_text, secret_values}
use Rattle.scim_store_tables.specs.Reading.{columns_cmp, shown_in}
use Rattle.scim_store_tables.specs.Whole.{AreRowsOf}
use Rattle.scim_store_tables.specs.declared.database_kinds.TableRows.{TableRows}
use Rattle.scim_store_tables.proofs.Facts.{order_rising, rows_of}
use Rattle.scim_store_rows.specs.Stands.{Entry, IsEntry, resource_row, secret_rows, lists_of}
use Rattle.scim_store_rows.proofs.Facts.{contents, own, resources_rise}
use Rattle.scim_store.specs.Owners.{is_of}
use Rattle.scim_store.specs.Damage.{IsEntryIn}
use Rattle.scim_store.specs.Opening.{resource_tables, HasCopied}
use Rattle.scim_store.specs.code.Passing.{ShowsSound}
use Rattle.scim_store.proofs.SoundLemmas.{sound_id, secrets_at}

-- ---- door codes in order of id

abbrev HasId : Entry → Type 0
HasId e = IsId e.content.id

abbrev Rising : List Entry → Type 0
Rising = IsStrictlySortedBy (λ (a b : Entry). slice_cmp nat_cmp a.content.id b.content.id)

abbrev IsBefore : Row → Row → Type 0
IsBefore a b = columns_cmp (0 ∷ []) a b ≡ Less

-- the rows of the door codes of two resources
code_before : (x y text code : List ℕ) → IsId x → IsId y → slice_cmp nat_cmp x y ≡ Less → IsBefore (secret_values (id_text x) text) (secret_values (id_text y) code)
code_before x y text code one two less = ap (λ o. ordering_then o Equal) (value_cmp-Text (id_text x) (id_text y) ∙ sym (slice_cmp-id_text x y one two) ∙ less)

each_code : (P : Row → Type 0) (e : Entry) → ((text : List ℕ) → P (secret_values (id_text e.content.id) text)) → AllByRecursion P (secret_rows e)
each_code P e each = go e.door_code
  where
    go : (o : Option (List ℕ)) → AllByRecursion P (option_to_list (option_map (secret_values (id_text e.content.id)) o))
    go None = tt
    go (Some text) = (each text, tt)

codes_after : (e : Entry) (text : List ℕ) (es : List Entry) → HasId e → All HasId es → AllByRecursion (λ (d : Entry). slice_cmp nat_cmp e.content.id d.content.id ≡ Less) es → AllByRecursion (IsBefore (secret_values (id_text e.content.id) text)) (flat_map secret_rows es)
codes_after e text [] one are up = tt
codes_after e text (d ∷ es) one are up =
    all-append (IsBefore (secret_values (id_text e.content.id) text)) (secret_rows d) (flat_map secret_rows es)
    (each_code (IsBefore (secret_values (id_text e.content.id) text)) d (λ code. code_before e.content.id d.content.id text code one (All-head HasId d es are) up.0))
    (codes_after e text es one (All-tail HasId d es are) up.1)

codes_rise : (es : List Entry) → All HasId es → Rising es → IsAscending IsBefore (flat_map secret_rows es)
codes_rise [] are up = tt
codes_rise (e ∷ es) are up =
    front e.door_code
    (λ text. codes_after e text es (All-head HasId e es are) (All-tail HasId e es are) (sorted_head (λ (a b : Entry). slice_cmp nat_cmp a.content.id b.content.id) e es up))
    (codes_rise es (All-tail HasId e es are) (sorted_tail (λ (a b : Entry). slice_cmp nat_cmp a.content.id b.content.id) e es up))
  where
    front : (o : Option (List ℕ)) → ((text : List ℕ) → AllByRecursion (IsBefore (secret_values (id_text e.content.id) text)) (flat_map secret_rows es)) → IsAscending IsBefore (flat_map secret_rows es)
        → IsAscending IsBefore (option_to_list (option_map (secret_values (id_text e.content.id)) o) ++ flat_map secret_rows es)
    front None after rest = rest
    front (Some text) after rest = (after text, rest)

-- ---- entries with the same rows

-- the first of entries in order of id is the one with its id
first_own : (e : Entry) (es : List Entry) → Rising (e ∷ es) → filter (own e.content.id) (e ∷ es) ≡ e ∷ []
first_own e es up =
    rw (ap is_eq (tied_itself nat_list_cmp_total e.content.id)) (ap (λ l. e ∷ l) (filter_none (own e.content.id) es
    (all_weaker (λ (d : Entry). slice_cmp nat_cmp e.content.id d.content.id ≡ Less) (λ d. own e.content.id d ≡ false) (λ d less. ap is_eq (nat_list_cmp_total.antisymm d.content.id e.content.id ∙ ap ordering_reverse less)) es
    (sorted_head (λ (a b : Entry). slice_cmp nat_cmp a.content.id b.content.id) e es up))))

module _ (base : List ℕ) where
  in_two : (es : List Entry) → All (IsEntry base) es → All (IsEntryIn Two base) es
  in_two es sound = All-weaker (IsEntry base) (IsEntryIn Two base) (λ e s. record { entry = s; may = tt }) es sound

  have_ids : (es : List Entry) → All (IsEntry base) es → All HasId es
  have_ids es sound = All-weaker (IsEntryIn Two base) HasId (λ e s. sound_id Two base e s) es (in_two es sound)

  -- the door code of the first is that of its rows
  first_code : (e : Entry) (es : List Entry) → All (IsEntry base) (e ∷ es) → Rising (e ∷ es) → filter (is_of e.content.id) (flat_map secret_rows (e ∷ es)) ≡ secret_rows e
  first_code e es sound up = secrets_at Two base e.content.id (All-head HasId e es (have_ids (e ∷ es) sound)) (e ∷ es) (in_two (e ∷ es) sound) ∙ ap (flat_map secret_rows) (first_own e es up) ∙ append-nil (secret_rows e)

  -- entries with the same rows are of the same resources
  same_contents : (es ds : List Entry) → All (IsEntry base) es → All (IsEntry base) ds → Rising es → Rising ds → map resource_row es ≡ map resource_row ds → flat_map secret_rows es ≡ flat_map secret_rows ds → contents es ≡ contents ds
  same_contents [] [] one two up vp same coded = refl
  same_contents [] (d ∷ ds) one two up vp same coded = absurd cc
  same_contents (e ∷ es) [] one two up vp same coded = absurd cc
  same_contents (e ∷ es) (d ∷ ds) one two up vp same coded =
      let row = row_first same in
      let text : e.document ≡ d.document = document_one row in
      let test : is_of e.content.id ≡ is_of d.content.id = ap (λ t. has_text 0 t) (id_one row) in
      let codes : secret_rows e ≡ secret_rows d = sym (first_code e es one up) ∙ (λ i. filter (test i) (coded i)) ∙ first_code d ds two vp in
      let code : e.door_code ≡ d.door_code = code_one e.door_code d.door_code codes in
      let head : e.content ≡ d.content =
      kept_parts_determine base e.document e.door_code e.content d.content (All-head (IsEntry base) e es one).document (subst (λ (o : Option (List ℕ)). IsKept base e.document o d.content) (sym code) (subst (λ (t : List ℕ). IsKept base t d.door_code d.content) (sym text) (All-head (IsEntry base) d ds two).document)) in
      let left : flat_map secret_rows es ≡ flat_map secret_rows ds = append_cancel_left (secret_rows e) (flat_map secret_rows es) (flat_map secret_rows ds) (coded ∙ ap (λ l. l ++ flat_map secret_rows ds) (sym codes)) in
      (λ i. head i ∷ same_contents es ds (All-tail (IsEntry base) e es one) (All-tail (IsEntry base) d ds two) (sorted_tail (λ (a b : Entry). slice_cmp nat_cmp a.content.id b.content.id) e es up) (sorted_tail (λ (a b : Entry). slice_cmp nat_cmp a.content.id b.content.id) d ds vp) (rest_of same) left i)
    where
      row_first : {a b : Row} {xs ys : List Row} → a ∷ xs ≡ b ∷ ys → a ≡ b
      row_first h = cc

      rest_of : {a b : Row} {xs ys : List Row} → a ∷ xs ≡ b ∷ ys → xs ≡ ys
      rest_of h = cc

      document_one : resource_row e ≡ resource_row d → e.document ≡ d.document
      document_one h = cc

      id_one : resource_row e ≡ resource_row d → id_text e.content.id ≡ id_text d.content.id
      id_one h = cc

      code_one : (a b : Option (List ℕ)) → option_to_list (option_map (secret_values (id_text e.content.id)) a) ≡ option_to_list (option_map (secret_values (id_text d.content.id)) b) → a ≡ b
      code_one None None h = refl
      code_one None (Some b) h = absurd cc
      code_one (Some a) None h = absurd cc
      code_one (Some a) (Some b) h = (let one : a ≡ b = cc in ap (λ (t : List ℕ). Some t) one)

-- ---- the store that the tables hold

contents_rising : (es : List Entry) → IsStrictlySortedBy id_cmp (contents es) → Rising es
unfolding IsStrictlySortedBy
contents_rising [] up = tt
contents_rising (e ∷ es) up = (above es up.0, contents_rising es up.1)
  where
    above : (ds : List Entry) → AllByRecursion (λ (c : Content). id_cmp e.content c ≡ Less) (contents ds) → AllByRecursion (λ (d : Entry). slice_cmp nat_cmp e.content.id d.content.id ≡ Less) ds
    above [] h = tt
    above (d ∷ ds) h = (h.0, above ds h.1)

-- what was shown the rows of the tables of a version has copied the resources of each store that they hold
pub copied_all : (version : Version) (base : List ℕ) (db : Database) (rows : TableRows) (before after : CacheContents) → AreRowsOf (shown_in version db) rows → HasCached [] before → ShowsSound Caches version base (resource_tables rows) before after → HasCopied version base db after
copied_all version base db rows before after read empty it = λ store stands.
    let ds = stands.entries in
    let told = rows_of db (lists_of ds store.audit) rows stands.tables read in
    let ids = have_ids base ds stands.sound in
    let up = subst (IsStrictlySortedBy id_cmp) (sym stands.resources) stands.keyed.ascending in
    let shown_sound : All (IsEntry base) it.entries = All-weaker (IsEntryIn version base) (IsEntry base) (λ e s. s.entry) it.entries it.are.sound in
    let rows_are : rows.resources.items ≡ map resource_row ds = order_rising (0 ∷ []) (map resource_row ds) rows.resources.items (resources_rise resource_row (λ e. refl) ds ids up) told.resources.same read.resources.order in
    let codes_are : rows.secrets.items ≡ flat_map secret_rows ds = order_rising (0 ∷ []) (flat_map secret_rows ds) rows.secrets.items (codes_rise ds ids (contents_rising ds up)) told.secrets.same read.secrets.order in
    let same = same_contents base it.entries ds shown_sound stands.sound it.rising (contents_rising ds up) (sym it.resources ∙ rows_are) (sym it.secrets ∙ codes_are) in
    cached_all store.resources before after stands.keyed empty (subst (λ (cs : List Content). FoldsTo Caches before cs after) (same ∙ stands.resources) it.took)
