-- The row of a resource, found by its id and kind.
use Rattle.std.proofs.Common.{◌≡◌, ℕ, refl, sym, ◌∙◌, ap, subst, subst₂, ◌⊎◌, Bool, true, false, ◌&&◌, List, [], ◌∷◌, map, filter, IsTrue}
use Rattle.std.specs.Prelude.{All, find, Option, None, Some, IsPermutation, pos}
use Rattle.std.specs.Option.{option_map, option_to_list}
use Rattle.std.specs.Ordering.{is_eq}
use Rattle.std.proofs.lemmas.List.{nil_from_length}
use Rattle.std.proofs.lemmas.List.Elements.{All-head, All-filter, recursion_from_All, All-weaker, filter_passes}
use Rattle.std.proofs.lemmas.List.Sorted.{length_permutation}
use Rattle.sqlite_trees.proofs.ListLemmas.{filter-map, filter-filter, filter_same}
use Rattle.sqlite.proofs.Callers.{one_permutation, unchanged_then}
use Rattle.sqlite.specs.declared.types.Value.TheVariants.{Int, Text}
use Rattle.sqlite.specs.Order.{Row, value_cmp}
use Rattle.sqlite.specs.Effect.{Database}
use Rattle.sqlite.specs.State.{State, IsUnchanged}
use denote.Enum.Bare.{sameb, same_true}
use Rattle.scim_schema.specs.declared.Kind.{Kind}
use Rattle.scim_schema.specs.declared.Kind.TheVariants.{User, Group}
use Rattle.scim_schema.specs.contracts.Kind.{the_type as the_kind}
use Rattle.scim_schema.proofs.Facts.{and_first, and_second}
use Rattle.scim_cell.specs.Content.{Content}
use Rattle.scim_cell.specs.Equality.{is_same_id}
use Rattle.scim_cell.specs.Ids.{IsId, id_text}
use Rattle.scim_cell.specs.Kinds.{is_of}
use Rattle.scim_json.specs.Kept.{IsKept}
use Rattle.scim_json.proofs.Facts.{kept_parts_determine}
use Rattle.scim_shelf.specs.Stores.{Store, AreKeyed, is_at, of_id}
use Rattle.scim_shelf.proofs.Facts.{by_bool}
use Rattle.scim_store_tables.specs.Lists.{Lists, Are, has_text}
use Rattle.scim_store_tables.specs.Reading.{Rests, HasTables, Holds, Finds, IsTextOfFirst, is_resource}
use Rattle.scim_store_tables.specs.Lists.{no_rows}
use Rattle.scim_store_rows.specs.Audit.{kind_number}
use Rattle.scim_store_rows.specs.Stands.{StandsFor, Entry, IsEntry, lists_of, resource_row}
use Rattle.scim_store_rows.specs.Finding.{StandsIn, FindsById, FindsOld}
use Rattle.scim_store_rows.proofs.PlaceLemmas.{own, found, own_same}
use Rattle.scim_store_rows.proofs.IdLemmas.{same_id, text_own}
use Rattle.scim_store_rows.proofs.CodeLemmas.{code_found, group_none, entry_ids}

-- whether a resource is of the kind and the id
abbrev is_the : Kind → List ℕ → Entry → Bool
is_the kind id e = is_at kind id e.content

same_kind : (k l : Kind) → is_eq (value_cmp (Int (pos (kind_number k))) (Int (pos (kind_number l)))) ≡ sameb the_kind k l
unfolding value_cmp lib.Ieee.is_nan lib.Ieee.lt
same_kind User User = refl
same_kind User Group = refl
same_kind Group User = refl
same_kind Group Group = refl

and_turned : (a b : Bool) → (a && b) ≡ (b && a)
and_turned true true = refl
and_turned true false = refl
and_turned false true = refl
and_turned false false = refl

-- its row passes just where it does
row_passes : (kind : Kind) (id : List ℕ) (e : Entry) → IsId e.content.id → IsId id → is_resource (id_text id) (kind_number kind) (resource_row e) ≡ is_the kind id e
row_passes kind id e one two = (λ i. same_id e.content.id id one two i && same_kind e.content.kind kind i) ∙ and_turned (is_same_id id e.content.id) (sameb the_kind e.content.kind kind)

first : List Content → Option Content
first [] = None
first (c ∷ cs) = Some c

find_first : (p : Content → Bool) (cs : List Content) → find p cs ≡ first (filter p cs)
unfolding first
find_first p [] = refl
find_first p (c ∷ cs) = by_bool (p c) (λ t. rw t refl) (λ f. rw f (find_first p cs))

-- at most one is of the id
record One (kind : Kind) (id : List ℕ) (es : List Entry) : Type 0 where
  entry : Option Entry
  only : filter (is_the kind id) es ≡ option_to_list entry
  own_only : (e : Entry) → entry ≡ Some e → filter (own id) es ≡ e ∷ []

filter_one : (p : Entry → Bool) (o : Option Entry) → (h : Option Entry) × (filter p (option_to_list o) ≡ option_to_list h) × ((e : Entry) → h ≡ Some e → o ≡ Some e)
filter_one p None = (None, refl, λ e same. same)
filter_one p (Some e) = by_bool (p e) (λ t. (Some e, rw t refl, λ d same. same)) (λ f. (None, rw f refl, λ d same. none d same))
  where
    none : (d : Entry) → None ≡ Some d → Some e ≡ Some d
    none d same = cc

one : (kind : Kind) (id : List ℕ) (es : List Entry) → AreKeyed (map (λ (e : Entry). e.content) es) → One kind id es
one kind id es keyed =
    let f = found id es keyed in
    let h = filter_one (is_the kind id) f.entry in
    record {
      entry = h.0;
      only =
          sym (filter-filter (is_the kind id) (own id) (λ e t. sym (own_same id e) ∙ and_second (is_of kind e.content) (is_same_id id e.content.id) t) es)
          ∙ ap (filter (is_the kind id)) f.only ∙ h.1;
      own_only = λ e same. f.only ∙ ap option_to_list (h.2 e same);
    }

first_one : (h : Option Entry) → first (map (λ (e : Entry). e.content) (option_to_list h)) ≡ option_map (λ (e : Entry). e.content) h
unfolding first
first_one None = refl
first_one (Some e) = refl

-- What is read of a document and a door code, if there is a document.
abbrev pub Reads : List ℕ → Option (List ℕ) → Option (List ℕ) → Option Content → Type 0
Reads base None code None = Unit {0}
Reads base (Some text) code (Some c) = IsKept base text code c
Reads base _ code _ = ⊥

-- what is read of the parts of a resource is the resource
pub read_entry : (base : List ℕ) (e : Entry) (text : List ℕ) (code : Option (List ℕ)) (c : Content) → IsEntry base e → text ≡ e.document → code ≡ e.door_code → IsKept base text code c → c ≡ e.content
read_entry base e text code c entry t d is = kept_parts_determine base e.document e.door_code c e.content (subst₂ (λ x y. IsKept base x y c) t d is) entry.document

-- what is read of the row that is found is the resource
reads_the : (base : List ℕ) (h : Option Entry) (ordered : List Row) (document code : Option (List ℕ)) (r : Option Content) → All (IsEntry base) (option_to_list h) → IsPermutation (map resource_row (option_to_list h)) ordered
    → ((e : Entry) → h ≡ Some e → code ≡ e.door_code) → IsTextOfFirst 2 ordered document → Reads base document code r → r ≡ option_map (λ (e : Entry). e.content) h
reads_the base None ordered document code r sound same coded told reads =
    let none : ordered ≡ [] = nil_from_length ordered (length_permutation [] ordered same) in
    let no : document ≡ None = subst (λ (rows : List Row). IsTextOfFirst 2 rows document) none told in
    read_none r (subst (λ (d : Option (List ℕ)). Reads base d code r) no reads)
  where
    read_none : (r : Option Content) → Reads base None code r → r ≡ None
    read_none None h = refl
    read_none (Some c) h = absurd h
reads_the base (Some e) ordered document code r sound same coded told reads =
    let row : ordered ≡ resource_row e ∷ [] = one_permutation (resource_row e) ordered same in
    let text = subst (λ (rows : List Row). IsTextOfFirst 2 rows document) row told in
    let is : document ≡ Some e.document = text.1 ∙ ap (λ t. Some t) (text_one text.0 text.2) in
    read_some r (subst (λ (d : Option (List ℕ)). Reads base d code r) is reads)
  where
    text_one : (t : List ℕ) → Text e.document ≡ Text t → t ≡ e.document
    text_one t h = cc

    read_some : (r : Option Content) → Reads base (Some e.document) code r → r ≡ Some e.content
    read_some None h = absurd h
    read_some (Some c) h = ap (λ x. Some x) (read_entry base e e.document code c (All-head (IsEntry base) e [] sound) refl (coded e refl) h)

-- what is found of the id alone is the resource of it, whatever its kind
found_old : (base : List ℕ) (es : List Entry) (id : List ℕ) (old new : State) (document code : Option (List ℕ)) (r : Option Content) (keyed : AreKeyed (map (λ (e : Entry). e.content) es)) → All (IsEntry base) es → IsId id
    → Finds 2 (filter (has_text 0 (id_text id)) (map resource_row es)) old new document → ((e : Entry) → (found id es keyed).entry ≡ Some e → code ≡ e.door_code) → Reads base document code r → r ≡ of_id id (map (λ (e : Entry). e.content) es)
found_old base es id old new document code r keyed sound is_id finds coded reads =
    let f = found id es keyed in
    let each = All-weaker (IsEntry base) (λ e. has_text 0 (id_text id) (resource_row e) ≡ own id e) (λ e s. text_own id e s.document.below.0.identified.0 is_id) es sound in
    let values : filter (has_text 0 (id_text id)) (map resource_row es) ≡ map resource_row (option_to_list f.entry) =
    filter-map (has_text 0 (id_text id)) resource_row es
    ∙ ap (map resource_row) (filter_same (λ e. has_text 0 (id_text id) (resource_row e)) (own id) es (recursion_from_All (λ e. has_text 0 (id_text id) (resource_row e) ≡ own id e) es each) ∙ f.only) in
    let sound_f : All (IsEntry base) (option_to_list f.entry) = subst (All (IsEntry base)) f.only (All-filter (own id) (IsEntry base) es sound) in
    reads_the base f.entry finds.ordered document code r sound_f (subst (λ (xs : List Row). IsPermutation xs finds.ordered) values finds.same) coded finds.first reads ∙ sym f.is

found_the : (base : List ℕ) (es : List Entry) (kind : Kind) (id : List ℕ) (old new : State) (document code : Option (List ℕ)) (r : Option Content) (keyed : AreKeyed (map (λ (e : Entry). e.content) es)) → All (IsEntry base) es → IsId id
    → Finds 2 (filter (is_resource (id_text id) (kind_number kind)) (map resource_row es)) old new document → ((e : Entry) → (one kind id es keyed).entry ≡ Some e → code ≡ e.door_code) → Reads base document code r → r ≡ find (is_at kind id) (map (λ (e : Entry). e.content) es)
found_the base es kind id old new document code r keyed sound is_id finds coded reads =
    let o = one kind id es keyed in
    let each = All-weaker (IsEntry base) (λ e. is_resource (id_text id) (kind_number kind) (resource_row e) ≡ is_the kind id e) (λ e s. row_passes kind id e s.document.below.0.identified.0 is_id) es sound in
    let values : filter (is_resource (id_text id) (kind_number kind)) (map resource_row es) ≡ map resource_row (option_to_list o.entry) =
    filter-map (is_resource (id_text id) (kind_number kind)) resource_row es
    ∙ ap (map resource_row) (filter_same (λ e. is_resource (id_text id) (kind_number kind) (resource_row e)) (is_the kind id) es (recursion_from_All (λ e. is_resource (id_text id) (kind_number kind) (resource_row e) ≡ is_the kind id e) es each) ∙ o.only) in
    let sound_h : All (IsEntry base) (option_to_list o.entry) = subst (All (IsEntry base)) o.only (All-filter (is_the kind id) (IsEntry base) es sound) in
    reads_the base o.entry finds.ordered document code r sound_h (subst (λ (xs : List Row). IsPermutation xs finds.ordered) values finds.same) coded finds.first reads
    ∙ sym (find_first (is_at kind id) (map (λ (e : Entry). e.content) es) ∙ ap first (filter-map (is_at kind id) (λ (e : Entry). e.content) es ∙ ap (map (λ (e : Entry). e.content)) o.only) ∙ first_one o.entry)

-- the code of a resource
code_of : Option Entry → Option (List ℕ)
code_of None = None
code_of (Some e) = e.door_code

code_of-some : (h : Option Entry) (e : Entry) → h ≡ Some e → code_of h ≡ e.door_code
unfolding code_of
code_of-some h e same = ap code_of same

-- a shut connection holds any rows
pub shut_holds : (s : State) (lists : Lists) → s.is_open ≡ false → Holds s lists
shut_holds s lists shut opened = (let c : true ≡ false = sym opened ∙ shut in cc)

-- how the tables answer a look by id: the document, if any, and the door code
module _ (base : List ℕ) (id : List ℕ) (is_id : IsId id) (store : Store) where
  -- nothing is found
  pub by_id_none : (kind : Kind) (old new : State) → ((lists : Lists) → Holds old lists → Finds 2 (filter (is_resource (id_text id) (kind_number kind)) lists.resources) old new None) → StandsIn base old store → FindsById kind id store old new None
  by_id_none kind old new finds stands =
      by_bool old.is_open
      (λ t.
      (let s = stands t in
      let keyed = subst AreKeyed (sym s.resources) s.keyed in
      let it = finds (lists_of s.entries store.audit) (λ _. s.tables) in
      let h = (one kind id s.entries keyed).entry in
      record {
        is = found_the base s.entries kind id old new None (code_of h) None keyed s.sound is_id it (code_of-some h) tt ∙ ap (find (is_at kind id)) s.resources;
        unchanged = it.unchanged;
      }))
      (λ f. (let c : true ≡ false = sym (finds no_rows (shut_holds old no_rows f)).unchanged.0.was_open ∙ f in cc))

  pub old_none : (old new : State) → ((lists : Lists) → Holds old lists → Finds 2 (filter (has_text 0 (id_text id)) lists.resources) old new None) → StandsIn base old store → FindsOld id store old new None
  old_none old new finds stands =
      by_bool old.is_open
      (λ t.
      (let s = stands t in
      let keyed = subst AreKeyed (sym s.resources) s.keyed in
      let it = finds (lists_of s.entries store.audit) (λ _. s.tables) in
      let h = (found id s.entries keyed).entry in
      record {
        is = found_old base s.entries id old new None (code_of h) None keyed s.sound is_id it (code_of-some h) tt ∙ ap (of_id id) s.resources;
        unchanged = it.unchanged;
      }))
      (λ f. (let c : true ≡ false = sym (finds no_rows (shut_holds old no_rows f)).unchanged.0.was_open ∙ f in cc))

  -- the code of the resource of the id
  known : (old mid new : State) (s : StandsFor base old.now store) (e : Entry) (code : Option (List ℕ)) → IsUnchanged old mid → filter (own id) s.entries ≡ e ∷ []
      → ((lists : Lists) → Holds mid lists → Finds 1 (filter (has_text 0 (id_text id)) lists.secret) mid new code) → code ≡ e.door_code
  known old mid new s e code same only finds =
      let holds : Are mid.now (lists_of s.entries store.audit) = subst (λ (db : Database). Are db (lists_of s.entries store.audit)) (sym same.0.now_is) s.tables in
      let it = finds (lists_of s.entries store.audit) (λ _. holds) in
      code_found id s.entries e it.ordered code is_id (entry_ids base s.entries s.sound) only it.same it.first

  -- a document and a door code are found
  pub by_id_some : (kind : Kind) (old mid new : State) (text : List ℕ) (code : Option (List ℕ)) (c : Content)
      → ((lists : Lists) → Holds old lists → Finds 2 (filter (is_resource (id_text id) (kind_number kind)) lists.resources) old mid (Some text))
      → (kind ≡ User → (lists : Lists) → Holds mid lists → Finds 1 (filter (has_text 0 (id_text id)) lists.secret) mid new code) → (kind ≡ Group → code ≡ None)
      → (HasTables mid → IsTrue mid.is_open → IsUnchanged mid new) → IsKept base text code c → StandsIn base old store → FindsById kind id store old new (Some c)
  by_id_some kind old mid new text code c finds user group same is stands =
      by_bool old.is_open
      (λ t.
      (let s = stands t in
      let keyed = subst AreKeyed (sym s.resources) s.keyed in
      let it = finds (lists_of s.entries store.audit) (λ _. s.tables) in
      let schema : HasTables mid = λ _. ap (λ (db : Database). db.schema) it.unchanged.0.now_is ∙ s.tables.schema in
      let o = one kind id s.entries keyed in
      record {
        is = found_the base s.entries kind id old mid (Some text) code (Some c) keyed s.sound is_id it (λ e same. coded s keyed it.unchanged kind user group e same) is ∙ ap (find (is_at kind id)) s.resources;
        unchanged = unchanged_then old mid new it.unchanged (same schema it.unchanged.0.is_open);
      }))
      (λ f. (let c : true ≡ false = sym (finds no_rows (shut_holds old no_rows f)).unchanged.0.was_open ∙ f in cc))
    where
      coded : (s : StandsFor base old.now store) (keyed : AreKeyed (map (λ (e : Entry). e.content) s.entries)) → IsUnchanged old mid → (k : Kind) → (k ≡ User → (lists : Lists) → Holds mid lists → Finds 1 (filter (has_text 0 (id_text id)) lists.secret) mid new code) → (k ≡ Group → code ≡ None)
          → (e : Entry) → (one k id s.entries keyed).entry ≡ Some e → code ≡ e.door_code
      coded s keyed unchanged User user group e same = known old mid new s e code unchanged ((one User id s.entries keyed).own_only e same) (user refl)
      coded s keyed unchanged Group user group e same =
          let o = one Group id s.entries keyed in
          let only : filter (is_the Group id) s.entries ≡ e ∷ [] = o.only ∙ ap option_to_list same in
          let passes = All-head (λ d. is_the Group id d ≡ true) e [] (subst (All (λ d. is_the Group id d ≡ true)) only (filter_passes (is_the Group id) s.entries)) in
          let entry = All-head (IsEntry base) e [] (subst (All (IsEntry base)) only (All-filter (is_the Group id) (IsEntry base) s.entries s.sound)) in
          group refl ∙ sym (group_none base e entry (same_true the_kind tt e.content.kind Group (and_first (is_of Group e.content) (is_same_id id e.content.id) passes)))

  pub old_some : (old mid new : State) (text : List ℕ) (code : Option (List ℕ)) (c : Content)
      → ((lists : Lists) → Holds old lists → Finds 2 (filter (has_text 0 (id_text id)) lists.resources) old mid (Some text))
      → ((lists : Lists) → Holds mid lists → Finds 1 (filter (has_text 0 (id_text id)) lists.secret) mid new code)
      → (HasTables mid → IsTrue mid.is_open → IsUnchanged mid new) → IsKept base text code c → StandsIn base old store → FindsOld id store old new (Some c)
  old_some old mid new text code c finds secrets same is stands =
      by_bool old.is_open
      (λ t.
      (let s = stands t in
      let keyed = subst AreKeyed (sym s.resources) s.keyed in
      let it = finds (lists_of s.entries store.audit) (λ _. s.tables) in
      let schema : HasTables mid = λ _. ap (λ (db : Database). db.schema) it.unchanged.0.now_is ∙ s.tables.schema in
      let f = found id s.entries keyed in
      record {
        is = found_old base s.entries id old mid (Some text) code (Some c) keyed s.sound is_id it (λ e same. known old mid new s e code it.unchanged (f.only ∙ ap option_to_list same) secrets) is ∙ ap (of_id id) s.resources;
        unchanged = unchanged_then old mid new it.unchanged (same schema it.unchanged.0.is_open);
      }))
      (λ f. (let c : true ≡ false = sym (finds no_rows (shut_holds old no_rows f)).unchanged.0.was_open ∙ f in cc))

pub rests_where : (base : List ℕ) (old new : State) → ((lists : Lists) → Holds old lists → Rests old new) → (store : Store) → StandsIn base old store → Rests old new
rests_where base old new rests store stands =
    by_bool old.is_open
    (λ t. (let s = stands t in rests (lists_of s.entries store.audit) (λ _. s.tables)))
    (λ f. rests no_rows (shut_holds old no_rows f))

-- where nothing is changed, the tables stand for what they stood for
pub stands_still : (base : List ℕ) (old new : State) (store : Store) → IsUnchanged old new → StandsIn base old store → StandsIn base new store
stands_still base old new store same stands opened = subst (λ (db : Database). StandsFor base db store) (sym same.0.now_is) (stands same.0.was_open)

-- where a look fails after one that changed nothing
pub rests_then : (old mid new : State) → IsUnchanged old mid → Rests mid new → Rests old new
rests_then old mid new same rests = record {
  was_open = λ opened. same.0.was_open;
  now = λ opened. subst₂ (λ (now committed : Database). (new.now ≡ now) ⊎ (new.now ≡ committed)) same.0.now_is same.0.committed_is (rests.now opened);
  committed = λ opened. rests.committed opened ∙ same.0.committed_is;
}
