-- A walk through the rows of the resources.
use denote.Enum.Bare.{sameb, same_true}
use Rattle.scim_schema.specs.contracts.Kind.{the_type as the_kind}
use Rattle.scim_schema.specs.declared.Kind.TheVariants.{User, Group}
use Rattle.scim_store_rows.specs.Audit.{kind_number}
use Rattle.scim_store_rows.proofs.FindLemmas.{read_entry}
use Rattle.std.proofs.Common.{◌≡◌, pos, inl, inr, ℕ, refl, sym, ◌∙◌, ap, subst, Bool, true, false, List, [], ◌∷◌, ◌++◌, map, filter, get_or, IsTrue, None}
use Rattle.std.specs.Prelude.{All, Option, IsPermutation, Result, Ok, Err, IfErr, IsErrAnd}
use Rattle.std.specs.List.{FoldsTo}
use Rattle.std.proofs.lemmas.List.Elements.{All-nil, All-cons, All-head, All-tail, All-weaker, All-map, All-filter, filter-append, filter_passes}
use Rattle.std.proofs.lemmas.List.{map-append}
use Rattle.std.proofs.lemmas.List.Sorted.{IsPermutation-trans, IsPermutation-sym}
use Rattle.sqlite_trees.specs.declared.store.Store as store
use Rattle.sqlite.specs.declared.types.Value.TheVariants.{Int, Text}
use Rattle.sqlite.specs.Order.{Row, column}
use Rattle.sqlite.specs.Effect.{Database}
use Rattle.sqlite.specs.Held.{Held, state}
use Rattle.sqlite.specs.Given.{HasGiven, HasBegun, IsPlain}
use Rattle.sqlite.specs.Listing.{understood}
use Rattle.sqlite.specs.Clock.{timed}
use Rattle.sqlite.specs.State.{State, IsUnchanged, Shown, Begins}
use Rattle.sqlite.proofs.Callers.{begun_plain, begins_shown, unchanged_then, EndsIn}
use Rattle.scim_schema.specs.declared.Kind.{Kind}
use Rattle.scim_cell.specs.Content.{Content, IsPart}
use Rattle.scim_cell.specs.Ids.{IsId, id_text}
use Rattle.scim_json.specs.Kept.{IsKept, door_code}
use Rattle.scim_cell.specs.Order.{id_cmp}
use Rattle.std.specs.List.Sorted.{IsStrictlySortedBy}
use Rattle.scim_cell.specs.Kinds.{is_of, of_kind}
use Rattle.scim_shelf.specs.Stores.{Store, AreKeyed}
use Rattle.scim_json.proofs.Facts.{group_code}
use Rattle.scim_shelf.specs.Shelves.{TookPrefix}
use Rattle.sqlite.specs.Query.{Query}
use Rattle.scim_store_tables.specs.Asks.{asked, IsAsk}
use Rattle.scim_store_tables.specs.Lists.{Lists, triple, has_text}
use Rattle.scim_store_tables.specs.declared.versions.Version.{Version}
use Rattle.scim_store_tables.specs.Reading.{HasTables, HasTablesIn, Holds, Tells, Finds}
use Rattle.scim_store_tables.proofs.Facts.{resources_text, asks_resources}
use Rattle.scim_store_tables.proofs.Facts.{shown_open, answered}
use Rattle.scim_store_tables.proofs.Facts.{resources_told}
use Rattle.scim_store_tables.proofs.Facts.{told_rising}
use Rattle.scim_store_rows.specs.Stands.{Entry, IsEntry, resource_row, lists_of}
use Rattle.scim_store_rows.proofs.PlaceLemmas.{own_each}
use Rattle.scim_store_rows.proofs.CodeLemmas.{code_found, entry_ids}
use Rattle.scim_store_rows.specs.Finding.{StandsIn, Shows}
use Rattle.scim_store_rows.specs.code.Finding.{Codes, code_at, HasCodes, KnowsCodes, IsCoded}
use Rattle.scim_store_rows.specs.Stands.{StandsFor}
use Rattle.scim_store_rows.proofs.OwnerLemmas.{contents}
use Rattle.scim_store_rows.proofs.GroupLemmas.{rows_rise}

-- the front of rows of resources is that of the first of them
record Parts (P : Entry → Type 0) (front back : List Row) (es : List Entry) : Type 0 where
  first : List Entry
  rest : List Entry
  front_is : front ≡ map resource_row first
  back_is : back ≡ map resource_row rest
  whole : es ≡ first ++ rest
  all_first : All P first
  all_rest : All P rest

parts : (P : Entry → Type 0) (front back : List Row) (es : List Entry) → All P es → front ++ back ≡ map resource_row es → Parts P front back es
parts P [] back es all e = record { first = []; rest = es; front_is = refl; back_is = e; whole = refl; all_first = All-nil P; all_rest = all }
parts P (row ∷ front) back [] all e = absurd cc
parts P (row ∷ front) back (x ∷ es) all e = go (parts P front back es (All-tail P x es all) (tail e))
  where
    head : {p : List Row} {q : List Row} → row ∷ p ≡ resource_row x ∷ q → row ≡ resource_row x
    head h = cc

    tail : {p : List Row} {q : List Row} → row ∷ p ≡ resource_row x ∷ q → p ≡ q
    tail h = cc

    go : Parts P front back es → Parts P (row ∷ front) back (x ∷ es)
    go s = record {
      first = x ∷ s.first;
      rest = s.rest;
      front_is = rw (head e, s.front_is) refl;
      back_is = s.back_is;
      whole = ap (λ (l : List Entry). x ∷ l) s.whole;
      all_first = All-cons P x s.first (All-head P x es all) s.all_first;
      all_rest = s.all_rest;
    }

folds_then : {P A : Type 0} (R : P → A → P → Type 0) (p q u : P) (xs ys : List A) → FoldsTo R p xs q → FoldsTo R q ys u → FoldsTo R p (xs ++ ys) u
folds_then R p q u [] ys before next = subst (λ x. FoldsTo R x ys u) (sym before) next
folds_then R p q u (x ∷ xs) ys before next = (before.0, before.1, folds_then R before.0 q u xs ys before.2 next)

pub unchanged_itself : (a b : State) → IsUnchanged a b → IsUnchanged b b
unchanged_itself a b same = (
  record { was_open = same.0.is_open; is_open = same.0.is_open; now_is = refl; committed_is = refl; mode = refl },
  record { changes = refl; last_rowid = refl },
  refl,
)

-- those of a kind, split as all are
kind_split : (kind : Kind) (cs : List Content) (es first rest : List Entry) → contents es ≡ cs → es ≡ first ++ rest → of_kind kind (contents first) ++ of_kind kind (contents rest) ≡ of_kind kind cs
kind_split kind cs es first rest same whole =
    sym (filter-append (is_of kind) (contents first) (contents rest))
    ∙ ap (of_kind kind) (sym (map-append (λ (d : Entry). d.content) first rest) ∙ ap contents (sym whole) ∙ same)

module _ {V : Type 0} (Takes : V → Content → V → Type 0) (base : List ℕ) (kind : Kind) (codes : Codes) where
  -- the visitor has been shown the resources of the kind of these rows
  abbrev pub TookRows : V → List Row → V → Type 0
  TookRows before rows after = (es : List Entry) → All (IsCoded base kind codes) es → rows ≡ map resource_row es → FoldsTo Takes before (of_kind kind (contents es)) after

  pub took_none : (v : V) → TookRows v [] v
  took_none v [] all e = refl
  took_none v (x ∷ es) all e = absurd cc

  pub took_more : (before mid after : V) (rows : List Row) (row : Row) → TookRows before rows mid
      → ((e : Entry) → IsCoded base kind codes e → row ≡ resource_row e → FoldsTo Takes mid (of_kind kind (e.content ∷ [])) after) → TookRows before (rows ++ row ∷ []) after
  took_more before mid after rows row took one es all e = go (parts (IsCoded base kind codes) rows (row ∷ []) es all e)
    where
      last : (first rest : List Entry) → es ≡ first ++ rest → rows ≡ map resource_row first → row ∷ [] ≡ map resource_row rest → All (IsCoded base kind codes) first → All (IsCoded base kind codes) rest → FoldsTo Takes before (of_kind kind (contents es)) after
      last first [] whole front back all_first all_rest = absurd cc
      last first (x ∷ y ∷ more) whole front back all_first all_rest = absurd cc
      last first (x ∷ []) whole front back all_first all_rest =
          let is : row ≡ resource_row x = cc in
          let next = one x (All-head (IsCoded base kind codes) x [] all_rest) is in
          let shown : of_kind kind (contents es) ≡ of_kind kind (contents first) ++ of_kind kind (x.content ∷ []) =
          ap (λ (l : List Entry). of_kind kind (contents l)) whole ∙ ap (of_kind kind) (map-append (λ (d : Entry). d.content) first (x ∷ [])) ∙ filter-append (is_of kind) (contents first) (x.content ∷ []) in
          subst (λ (cs : List Content). FoldsTo Takes before cs after) (sym shown) (folds_then Takes before mid after (of_kind kind (contents first)) (of_kind kind (x.content ∷ [])) (took first all_first front) next)

      go : Parts (IsCoded base kind codes) rows (row ∷ []) es → FoldsTo Takes before (of_kind kind (contents es)) after
      go s = last s.first s.rest s.whole s.front_is s.back_is s.all_first s.all_rest

  -- the rows are those of the resources, in order
  all_rows : (first mid new : State) (rows : List Row) (store : Store) (s : StandsFor base first.now store) → IsUnchanged first mid → Shown resources_text [] mid new rows → rows ≡ map resource_row s.entries
  all_rows first mid new rows store s same_mid shown =
      let es = s.entries in
      let now : mid.now ≡ first.now = same_mid.0.now_is in
      let told = resources_told mid new rows same_mid.0.is_open (λ q is has. answered resources_text q [] mid new rows is has shown) (λ _. ap (λ (d : Database). d.schema) now ∙ s.tables.schema) in
      let values : IsPermutation (map resource_row es) (map triple (mid.now.trees 2)) = IsPermutation-sym _ _ (subst (λ (d : Database). IsPermutation (map triple (d.trees 2)) (map resource_row es)) (sym now) s.tables.resources.same) in
      let listed : Tells (0 ∷ []) (map resource_row es) mid new rows = record { unchanged = told.unchanged; same = IsPermutation-trans _ _ _ values told.same; order = told.order } in
      let ids : All (λ (e : Entry). IsId e.content.id) es = All-weaker (IsEntry base) (λ (e : Entry). IsId e.content.id) (λ e x. x.document.below.0.identified.0) es s.sound in
      told_rising (0 ∷ []) (map resource_row es) rows mid new (rows_rise resource_row (λ e. refl) es ids (subst (λ cs. IsStrictlySortedBy id_cmp cs) (sym s.resources) s.keyed.ascending)) listed

  -- the entries are valid, and their door codes are known
  all_coded : (s : Store) (es : List Entry) → contents es ≡ s.resources → All (IsEntry base) es → HasCodes kind codes s → All (IsCoded base kind codes) es
  all_coded s es same sound has = go es sound (subst (λ (cs : List Content). All (λ (c : Content). code_at codes (id_text c.id) ≡ door_code c) (of_kind kind cs)) (sym same) has)
    where
      P : Content → Type 0
      P c = code_at codes (id_text c.id) ≡ door_code c

      one : (e : Entry) → IsEntry base e → (is_of kind e.content ≡ true → P e.content) → IsCoded base kind codes e
      one e entry known = record { entry = entry; code = λ of. known of ∙ sym entry.document.code }

      go : (xs : List Entry) → All (IsEntry base) xs → All P (of_kind kind (contents xs)) → All (IsCoded base kind codes) xs
      go [] all known = All-nil (IsCoded base kind codes)
      go (x ∷ xs) all known = by (is_of kind x.content) refl (go xs)
        where
          by : (b : Bool) → is_of kind x.content ≡ b → (All (IsEntry base) xs → All P (of_kind kind (contents xs)) → All (IsCoded base kind codes) xs) → All (IsCoded base kind codes) (x ∷ xs)
          by true t rest =
              let both : All P (x.content ∷ of_kind kind (contents xs)) = rw t at known in
              All-cons (IsCoded base kind codes) x xs (one x (All-head (IsEntry base) x xs all) (λ _. All-head P x.content _ both)) (rest (All-tail (IsEntry base) x xs all) (All-tail P x.content _ both))
          by false f rest =
              let left : All P (of_kind kind (contents xs)) = rw f at known in
              All-cons (IsCoded base kind codes) x xs (one x (All-head (IsEntry base) x xs all) (λ t. (let no : true ≡ false = sym t ∙ f in cc))) (rest (All-tail (IsEntry base) x xs all) left)

  -- the rows are all given
  pub took_all : (first mid new : State) (rows : List Row) (before after : V) (store : Store) → StandsIn base first store → KnowsCodes kind codes first store → IsUnchanged first mid → IsUnchanged first new → Shown resources_text [] mid new rows → TookRows before rows after → Shows Takes kind store first new before after
  took_all first mid new rows before after store stands coded same_mid same shown took =
      let s = stands same_mid.0.was_open in
      record {
        took = subst (λ cs. FoldsTo Takes before (of_kind kind cs) after) s.resources (took s.entries (all_coded store s.entries s.resources s.sound (coded same_mid.0.was_open)) (all_rows first mid new rows store s same_mid shown));
        unchanged = same;
      }

  -- the rows given so far are a prefix
  pub took_prefix : (first mid : State) (rows : List Row) (before after : V) (store : Store) → StandsIn base first store → KnowsCodes kind codes first store → IsUnchanged first mid → Begins resources_text [] mid rows → TookRows before rows after → TookPrefix Takes before (of_kind kind store.resources) after
  took_prefix first mid rows before after store stands coded same begins took =
      let s = stands same.0.was_open in
      let schema = ap (λ (d : Database). d.schema) same.0.now_is ∙ s.tables.schema in
      let whole = begins_shown resources_text [] mid mid rows begins (unchanged_itself first mid same)
      (λ c db it source.
      -- the query has no recursion
      (let known = subst (λ k. understood k resources_text ≡ Ok c) schema it.is in
      let command = sym (ap asked known) ∙ asks_resources.command in
      subst (λ k. EndsIn k db (timed [] c.formats it.now)) (sym command) tt)) in
      let all = all_rows first mid mid (rows ++ whole.0) store s same whole.1 in
      let split = parts (IsCoded base kind codes) rows whole.0 s.entries (all_coded store s.entries s.resources s.sound (coded same.0.was_open)) all in
      record {
        taken = of_kind kind (contents split.first);
        left = of_kind kind (contents split.rest);
        whole = kind_split kind store.resources s.entries split.first split.rest s.resources split.whole;
        took = took split.first split.all_first split.front_is;
      }

-- ---- the door codes of a kind

-- an open connection that nothing is done to
pub unchanged_open : (s : State) → IsTrue s.is_open → IsUnchanged s s
unchanged_open s opened = (
  record { was_open = opened; is_open = opened; now_is = refl; committed_is = refl; mode = refl },
  record { changes = refl; last_rowid = refl },
  refl,
)

module _ (base : List ℕ) (old : State) (store : Store) (codes : Codes) (stands : StandsIn base old store) where
  abbrev P : Content → Type 0
  P c = code_at codes (id_text c.id) ≡ door_code c

  -- groups have none
  pub group_codes : ((id : List ℕ) → code_at codes id ≡ None) → KnowsCodes Group codes old store
  group_codes none opened =
      let s = stands opened in
      let parts : All IsPart store.resources = subst (All IsPart) s.resources (All-map IsPart (λ (e : Entry). e.content) s.entries (All-weaker (IsEntry base) (λ (e : Entry). IsPart e.content) (λ e x. x.document.below.0.part) s.entries s.sound)) in
      λ k d l. (let c = get_or (of_kind Group store.resources) k d in
      none (id_text c.id) ∙ sym (group_code c (All-filter (is_of Group) IsPart store.resources parts k d l) (same_true the_kind tt c.kind Group (filter_passes (is_of Group) store.resources k d l))))

  -- those of users are read
  pub user_codes : (mid : State) → ((lists : Lists) → Holds old lists → (id : List ℕ) → Finds 1 (filter (has_text 0 id) lists.secret) old mid (code_at codes id)) → KnowsCodes User codes old store
  user_codes mid finds opened =
      let s = stands opened in
      let es = s.entries in
      let keyed = subst AreKeyed (sym s.resources) s.keyed in
      let ids = entry_ids base es s.sound in
      let each : All (λ (e : Entry). P e.content) es = λ k d l. (let e = get_or es k d in
      let it = finds (lists_of es store.audit) (λ _. s.tables) (id_text e.content.id) in
      code_found e.content.id es e it.ordered (code_at codes (id_text e.content.id)) (ids k d l) ids (own_each es keyed k d l) it.same it.first ∙ (s.sound k d l).document.code) in
      All-filter (is_of User) P store.resources (subst (All P) s.resources (All-map P (λ (e : Entry). e.content) es each))

-- a walk behind a look that changes nothing
pub shows_then : {V : Type 0} (Takes : V → Content → V → Type 0) (kind : Kind) (store : Store) (old mid new : State) (before after : V) → IsUnchanged old mid → Shows Takes kind store mid new before after → Shows Takes kind store old new before after
shows_then Takes kind store old mid new before after same shows = record { took = shows.took; unchanged = unchanged_then old mid new same shows.unchanged }

-- the codes that were read are known later on
pub knows_still : (kind : Kind) (codes : Codes) (old mid : State) (store : Store) → IsUnchanged old mid → KnowsCodes kind codes old store → KnowsCodes kind codes mid store
knows_still kind codes old mid store same knows = λ _. knows same.0.was_open

-- what holds in any case holds of the error of a result
pub any_err : {T E : Type 0} (r : Result T E) (P : E → Type 0) (Q : Type 0) → Q → IfErr r (λ e. P e → Q)
any_err (Ok x) P Q h = tt
any_err (Err e) P Q h = λ _. h

-- and what follows for each error follows for it
pub err_then : {T E : Type 0} (r : Result T E) (P Q : E → Type 0) → ((e : E) → P e → Q e) → IfErr r P → IfErr r Q
err_then (Ok x) P Q f h = tt
err_then (Err e) P Q f h = f e h

-- and what holds of the one that it is
pub same_err : {T E : Type 0} (r : Result T E) (e : E) (P : E → Type 0) → IsErrAnd r (λ f. f ≡ e) → P e → IfErr r P
same_err (Ok x) e P is h = tt
same_err (Err f) e P is h = subst P (sym is) h

-- no resource is taken
pub took_nothing : {V : Type 0} (Takes : V → Content → V → Type 0) (cs : List Content) (v : V) → TookPrefix Takes v cs v
took_nothing Takes cs v = record { taken = []; left = cs; whole = refl; took = refl }

-- a query is at its start, since it writes nothing
pub begun_here : {v : Version} {S : Type 0} (g : store.Ghosts S) (text : List ℕ) (q : Query) → IsAsk v text q → (old new : Held S) → HasTablesIn v (state g old) → HasBegun g text [] old new → HasGiven g text [] new [] × IsUnchanged (state g old) (state g new)
begun_here g text q is old new has (inl h) = h
begun_here g text q is old new has (inr h) =
    let schema = has (shown_open text [] (state g old) (state g new) _ h.1) in
    begun_plain g text [] old new (subst (λ s. IsPlain (understood s text)) (sym schema) is.plain) (inr h)

-- the tables are those of a store
pub stands_tables : (base : List ℕ) (s : State) (store : Store) → StandsIn base s store → HasTables s
stands_tables base s store stands opened = (stands opened).tables.schema

-- ---- one row

kind_same : (k l : Kind) → kind_number k ≡ kind_number l → sameb the_kind k l ≡ true
kind_same User User e = refl
kind_same User Group e = absurd cc
kind_same Group User e = absurd cc
kind_same Group Group e = refl

-- what is read of the row of a resource of the kind is the resource
pub row_read : (base : List ℕ) (kind : Kind) (codes : Codes) (e : Entry) (number : ℕ) (id document : List ℕ) (code : Option (List ℕ)) (c : Content) → IsCoded base kind codes e → number ≡ kind_number kind
    → column (resource_row e) 0 ≡ Text id → column (resource_row e) 1 ≡ Int (pos number) → column (resource_row e) 2 ≡ Text document → code ≡ code_at codes id → IsKept base document code c → c ∷ [] ≡ of_kind kind (e.content ∷ [])
row_read base kind codes e number id document code c coded is zeroth first second known kept =
    let same : kind_number e.content.kind ≡ number = int_one first in
    let of : is_of kind e.content ≡ true = kind_same e.content.kind kind (same ∙ is) in
    let text : document ≡ e.document = text_one second in
    let own : id ≡ id_text e.content.id = text_one zeroth in
    let here : c ≡ e.content = read_entry base e document code c coded.entry text (known ∙ ap (code_at codes) own ∙ coded.code of) kept in
    rw (of, here) refl
  where
    int_one : {a b : ℕ} → Int (pos a) ≡ Int (pos b) → a ≡ b
    int_one h = cc

    text_one : {a b : List ℕ} → Text a ≡ Text b → b ≡ a
    text_one h = cc
