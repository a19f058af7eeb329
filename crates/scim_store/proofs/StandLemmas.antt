-- What the tables stand for after a change.
use Rattle.std.proofs.Common.{◌≡◌, ◌≢◌, ℕ, ◌+◌, refl, sym, ◌∙◌, ap, subst, subst₂, get_or, Bool, true, false, not, ◌&&◌, ◌||◌, List, [], ◌∷◌, ◌++◌, map, filter, length, arith}
use Rattle.std.specs.Prelude.{All, AllPairs, Option, None, Some, IfSome, IsPermutation, IsUtf8, String, string_bytes}
use Rattle.std.specs.Option.{option_map, option_to_list}
use Rattle.std.specs.List.{flat_map}
use Rattle.std.specs.Ordering.{nat_cmp, is_lt, is_gt}
use Rattle.std.specs.Cmp.Lexicographic.{slice_cmp}
use Rattle.std.proofs.lemmas.List.{append-nil, map-append}
use Rattle.std.proofs.lemmas.Str.{IsUtf8-string_bytes}
use Rattle.std.proofs.lemmas.List.Elements.{All-nil, All-cons, All-head, All-append, All-filter, All-map, All-weaker, filter_passes}
use Rattle.std.proofs.lemmas.List.Folds.{list_any-append}
use Rattle.std.proofs.lemmas.List.Sorted.{IsPermutation-refl, IsPermutation-cons, IsPermutation-map, IsPermutation-middle, IsPermutation-trans, IsPermutation-sym}
use Rattle.sqlite_trees.proofs.ListLemmas.{IsPermutation-same, filter-map, filter_none, map-map}
use Rattle.sqlite.specs.Order.{Row}
use Rattle.sqlite.specs.Effect.{Database}
use Rattle.scim_cell.specs.Content.{Content}
use Rattle.scim_cell.specs.Ids.{IsId, id_text}
use Rattle.std.specs.Str.{bytes_eq}
use Rattle.scim_value.specs.declared.uniqueness.UniqueName.{UniqueName}
use Rattle.scim_value.specs.Uniqueness.{Name, AreApart, name_of, unique_names}
use Rattle.scim_value.specs.Members.{lists_value}
use Rattle.scim_audit.specs.declared.audit_rows.AuditRow.{AuditRow}
use Rattle.scim_shelf.specs.declared.changes.Change.{Change}
use Rattle.scim_shelf.specs.declared.changes.Change.TheVariants.{Nothing, Keep, Remove}
use Rattle.scim_shelf.specs.Stores.{Store, AreKeyed, CanKeep, below, above, after, of_id}
use Rattle.scim_shelf.proofs.Facts.{keep_keyed, without_keyed}
use Rattle.scim_store_tables.specs.Lists.{Lists, Are, has_text, resource_values}
use Rattle.scim_store_tables.specs.Audit.{audit_values}
use Rattle.scim_store_tables.specs.declared.audit.AuditColumns.{AuditColumns}
use Rattle.scim_store.specs.declared.edits.Edits.{Edits}
use Rattle.scim_store_rows.specs.Audit.{kind_number, audit_row, audit_rows}
use Rattle.scim_json.specs.Kept.{door_code}
use Rattle.scim_store_rows.specs.Stands.{Entry, StandsFor, IsEntry, AreMembers, is_among, lists_of, resource_row, name_row, name_rows, member_row, member_rows, secret_rows}
use Rattle.scim_store.specs.declared.edits.SecretEdit.{SecretEdit}
use Rattle.scim_store.specs.Edits.{is_name, is_member, is_secret, rows_of_names, rows_of_members, rows_of_secret, rows_of_document, edited, edited_by, with_row, names_in, names_beyond, lists_in, code_in, Replaces, AreEdits, Writes}
use Rattle.scim_store.proofs.RowLemmas.{reordered}
use Rattle.scim_store_rows.proofs.Facts.{own, lower, upper, others, split, found, own_id, other_own, own_apart, others_all, ids_apart}
use Rattle.scim_store.proofs.EntryLemmas.{replaced, each_one, resource_goes, resource_stays, own_member, other_member, staying, among_staying, none_among, once_more, code_rows, code_left, secret_left, secret_stays, turned, turned_utf8}
use Rattle.scim_store.proofs.NameLemmas.{names_kept, names_stay, none_named, swapped}

abbrev content : Entry → Content
content e = e.content

-- the values that are listed, where there is a resource
abbrev members_in : Option Entry → List (List ℕ)
members_in None = []
members_in (Some e) = e.members

members_listed : (base : List ℕ) (o : Option Entry) → All (IsEntry base) (option_to_list o) → (v : List ℕ) → is_among v (members_in o) ≡ lists_in v (option_map content o)
members_listed base None sound v = refl
members_listed base (Some e) sound v = (All-head (IsEntry base) e [] sound).members.listed v

no_pairs : AllPairs (λ (v w : List ℕ). v ≢ w) []
no_pairs = λ i j d h k. absurd (omega (arith, k))

members_once : (base : List ℕ) (o : Option Entry) → All (IsEntry base) (option_to_list o) → AllPairs (λ v w. v ≢ w) (members_in o)
members_once base None sound = no_pairs
members_once base (Some e) sound = (All-head (IsEntry base) e [] sound).members.once

-- the door code, where there is a resource
abbrev code_of : Option Entry → Option (List ℕ)
code_of None = None
code_of (Some e) = e.door_code

code_known : (base : List ℕ) (o : Option Entry) → All (IsEntry base) (option_to_list o) → code_of o ≡ code_in (option_map content o)
code_known base None sound = refl
code_known base (Some e) sound = (All-head (IsEntry base) e [] sound).document.code

code_utf8 : (base : List ℕ) (o : Option Entry) → All (IsEntry base) (option_to_list o) → IfSome (code_of o) IsUtf8
code_utf8 base None sound = tt
code_utf8 base (Some e) sound = (All-head (IsEntry base) e [] sound).code_utf8

-- the resource has the id, where there is one
abbrev HasId : List ℕ → Option Content → Type 0
HasId id None = Unit {0}
HasId id (Some c) = c.id ≡ id

-- ---- what is left of the old rows

resource_left : (id : List ℕ) (o : Option Entry) → All (λ x. own id x ≡ true) (option_to_list o) → filter (λ r. not (has_text 0 (id_text id) r)) (flat_map (λ x. resource_row x ∷ []) (option_to_list o)) ≡ []
resource_left id None own_o = refl
resource_left id (Some x) own_o = filter_none (λ r. not (has_text 0 (id_text id) r)) (resource_row x ∷ []) (resource_goes id x (own_id id x (All-head (λ y. own id y ≡ true) x [] own_o)), tt)

-- the names that stay where some go
abbrev names_staying : List Name → Option Content → List Name
names_staying new old = names_beyond (names_beyond new (names_in old)) (names_in old)

names_left : (id : List ℕ) (gone : List UniqueName) (new : List Name) (o : Option Entry) → All (λ x. own id x ≡ true) (option_to_list o) → map name_of gone ≡ names_beyond new (names_in (option_map content o))
    → filter (λ r. not (is_name gone r)) (flat_map name_rows (option_to_list o)) ≡ map (name_row id) (names_staying new (option_map content o))
names_left id gone new None own_o is = refl
names_left id gone new (Some x) own_o is =
    ap (filter (λ r. not (is_name gone r))) (append-nil (name_rows x) ∙ ap (λ y. map (name_row y) (unique_names x.content)) (own_id id x (All-head (λ y. own id y ≡ true) x [] own_o)))
    ∙ names_kept id gone new (Some x.content) is

members_left : (id : List ℕ) (gone : List (List ℕ)) (o : Option Entry) → All (λ x. own id x ≡ true) (option_to_list o)
    → filter (λ r. not (is_member (id_text id) gone r)) (flat_map member_rows (option_to_list o)) ≡ map (member_row id) (staying gone (members_in o))
members_left id gone None own_o = refl
members_left id gone (Some x) own_o =
    ap (filter (λ r. not (is_member (id_text id) gone r))) (append-nil (member_rows x) ∙ ap (λ y. map (member_row y) x.members) (own_id id x (All-head (λ y. own id y ≡ true) x [] own_o)))
    ∙ filter-map (λ r. not (is_member (id_text id) gone r)) (member_row id) x.members
    ∙ ap (map (member_row id)) (λ i. filter (λ v. not (own_member id gone v i)) x.members)

secrets_left : (id : List ℕ) (edit : SecretEdit) (o : Option Entry) → All (λ x. own id x ≡ true) (option_to_list o) → filter (λ r. not (is_secret (id_text id) edit r)) (flat_map secret_rows (option_to_list o)) ≡ code_rows id (code_left edit (code_of o))
secrets_left id edit None own_o = secret_left id edit None
secrets_left id edit (Some x) own_o =
    ap (filter (λ r. not (is_secret (id_text id) edit r))) (append-nil (secret_rows x) ∙ ap (λ y. code_rows y x.door_code) (own_id id x (All-head (λ y. own id y ≡ true) x [] own_o)))
    ∙ secret_left id edit x.door_code

-- ---- what comes

-- the resource that comes, with its rows
record IsNew (base : List ℕ) (id : List ℕ) (c : Option Content) (e : Edits) (named : List Name) (values : List (List ℕ)) (code : Option (List ℕ)) : Type 0 where
  entry : Option Entry
  is : option_map content entry ≡ c
  sound : All (IsEntry base) (option_to_list entry)
  resources : rows_of_document e ≡ flat_map (λ x. resource_row x ∷ []) (option_to_list entry)
  names : IsPermutation (rows_of_names e.id e.names_come.items ++ map (name_row id) named) (flat_map name_rows (option_to_list entry))
  members : rows_of_members e.id e.members_come.items ++ map (member_row id) values ≡ flat_map member_rows (option_to_list entry)
  secrets : rows_of_secret e.id e.secret ++ code_rows id code ≡ flat_map secret_rows (option_to_list entry)

-- a value is listed after the edits just where the new resource lists it
listed_new : (new old : Bool) → ((new && not old) || (old && not (old && not new))) ≡ new
listed_new true true = refl
listed_new true false = refl
listed_new false true = refl
listed_new false false = refl

none_left : (old : Bool) → (old && not (old && not false)) ≡ false
none_left true = refl
none_left false = refl

new_only : (new old : Bool) → (new && not old) ≡ true → old ≡ false
new_only true true h = cc
new_only true false h = refl
new_only false old h = cc

-- the row of a document that is there
pub document_rows : {X : Type 0} (bytes : X → List ℕ) (o : Option X) (id : List ℕ) (kind : ℕ) (text : List ℕ) → option_map bytes o ≡ Some text → option_to_list (option_map (λ d. resource_values id kind (bytes d)) o) ≡ resource_values id kind text ∷ []
document_rows bytes None id kind text h = cc
document_rows bytes (Some d) id kind text h = ap (λ t. resource_values id kind t ∷ []) (some_one h)
  where
    some_one : Some (bytes d) ≡ Some text → bytes d ≡ text
    some_one h = cc

-- a document that is there is in UTF-8
pub document_utf8 : {Z : Type 0} (o : Option (String Z)) (text : List ℕ) → option_map string_bytes o ≡ Some text → IsUtf8 text
document_utf8 None text h = cc
document_utf8 (Some d) text h = subst IsUtf8 (some_one h) (IsUtf8-string_bytes d)
  where
    some_one : Some (string_bytes d) ≡ Some text → string_bytes d ≡ text
    some_one h = cc

module _ (base : List ℕ) (id : List ℕ) (old : Option Content) (e : Edits) (o : Option Entry) (was : old ≡ option_map content o) (sound_o : All (IsEntry base) (option_to_list o)) where
  -- whether a value was listed
  was_listed : (v : List ℕ) → is_among v (members_in o) ≡ lists_in v old
  was_listed v = members_listed base o sound_o v ∙ ap (lists_in v) (sym was)

  -- whether a value stays
  stays_listed : (c : Option Content) → Replaces base id old c e → (v : List ℕ) → is_among v (staying e.members_gone.items (members_in o)) ≡ (lists_in v old && not (lists_in v old && not (lists_in v c)))
  stays_listed c replaces v = among_staying v e.members_gone.items (members_in o) ∙ (λ i. was_listed v i && not (replaces.members_gone v i))

  new_names : (c : Option Content) → Replaces base id old c e → IsPermutation (rows_of_names e.id e.names_come.items ++ map (name_row id) (names_staying (names_in c) old)) (map (name_row id) (names_in c))
  new_names c replaces =
      let come : rows_of_names e.id e.names_come.items ≡ map (name_row id) (names_beyond (names_in old) (names_in c)) =
      ap (λ t. rows_of_names t e.names_come.items) replaces.text
      ∙ sym (map-map (name_row id) name_of e.names_come.items)
      ∙ ap (map (name_row id)) replaces.names_come in
      let both : rows_of_names e.id e.names_come.items ++ map (name_row id) (names_staying (names_in c) old) ≡ map (name_row id) (names_beyond (names_in old) (names_in c) ++ names_staying (names_in c) old) =
      (λ i. come i ++ map (name_row id) (names_staying (names_in c) old))
      ∙ sym (map-append (name_row id) (names_beyond (names_in old) (names_in c)) (names_staying (names_in c) old)) in
      IsPermutation-trans _ _ _ (IsPermutation-same _ _ both) (IsPermutation-map (name_row id) _ _ (swapped old c))

  new_members : (c : Content) → Replaces base id old (Some c) e → AreMembers c (e.members_come.items ++ staying e.members_gone.items (members_in o))
  new_members c replaces = record {
    once = once_more e.members_come.items e.members_gone.items (members_in o) replaces.once (members_once base o sound_o) (λ v h. was_listed v ∙ new_only (lists_value v c) (lists_in v old) (sym (replaces.members_come v) ∙ h));
    listed = λ v. list_any-append (bytes_eq v) e.members_come.items (staying e.members_gone.items (members_in o)) ∙ (λ i. replaces.members_come v i || stays_listed (Some c) replaces v i) ∙ listed_new (lists_value v c) (lists_in v old);
  }

  old_code : code_of o ≡ code_in old
  old_code = code_known base o sound_o ∙ ap code_in (sym was)

  new_secrets : (c : Option Content) → Replaces base id old c e → rows_of_secret e.id e.secret ++ code_rows id (code_left e.secret (code_of o)) ≡ code_rows id (code_in c)
  new_secrets c replaces =
      ap (λ t. rows_of_secret t e.secret ++ code_rows id (code_left e.secret (code_of o))) replaces.text
      ∙ ap (λ code. rows_of_secret (id_text id) e.secret ++ code_rows id (code_left e.secret code)) old_code
      ∙ turned id (code_in old) (code_in c) e.secret replaces.secret

  new_entry : (c : Option Content) → HasId id c → Replaces base id old c e → IsNew base id c e (names_staying (names_in c) old) (staying e.members_gone.items (members_in o)) (code_left e.secret (code_of o))
  new_entry None has replaces =
      let come : e.members_come.items ≡ [] = none_among e.members_come.items replaces.members_come in
      let stay : staying e.members_gone.items (members_in o) ≡ [] = none_among (staying e.members_gone.items (members_in o)) (λ v. stays_listed None replaces v ∙ none_left (lists_in v old)) in
      record {
        entry = None;
        is = refl;
        sound = All-nil (IsEntry base);
        resources = ap (λ d. option_to_list (option_map (λ t. resource_values e.id (kind_number e.kind) (string_bytes t)) d)) replaces.document;
        names = new_names None replaces;
        members = λ i. rows_of_members e.id (come i) ++ map (member_row id) (stay i);
        secrets = new_secrets None replaces;
      }
  new_entry (Some c) has replaces =
      let stay : List (List ℕ) = staying e.members_gone.items (members_in o) in
      let written = replaces.document in
      let entry : Entry = record { content = c; document = written.1; members = e.members_come.items ++ stay; door_code = door_code c } in
      let in_utf8 : IfSome (door_code c) IsUtf8 = turned_utf8 (code_in old) (door_code c) e.secret replaces.secret (subst (λ code. IfSome code IsUtf8) old_code (code_utf8 base o sound_o)) in
      let text : e.id ≡ id_text c.id = replaces.text ∙ ap id_text (sym has) in
      record {
        entry = Some entry;
        is = refl;
        sound = All-cons (IsEntry base) entry [] (record { document = written.3; utf8 = document_utf8 e.document written.1 written.2; code_utf8 = in_utf8; members = new_members c replaces }) (All-nil (IsEntry base));
        resources = document_rows string_bytes e.document e.id (kind_number e.kind) written.1 written.2 ∙ (λ i. resource_values (text i) (kind_number (written.0 i)) written.1 ∷ []);
        names = IsPermutation-trans _ _ _ (new_names (Some c) replaces) (IsPermutation-same _ _ (ap (λ x. map (name_row x) (unique_names c)) (sym has) ∙ sym (append-nil (name_rows entry))));
        members = ap (λ t. rows_of_members t e.members_come.items ++ map (member_row id) stay) replaces.text ∙ sym (map-append (member_row id) e.members_come.items stay) ∙ ap (λ x. map (member_row x) (e.members_come.items ++ stay)) (sym has) ∙ sym (append-nil (member_rows entry));
        secrets = new_secrets (Some c) replaces ∙ ap (λ x. code_rows x (door_code c)) (sym has) ∙ sym (append-nil (secret_rows entry));
      }

-- ---- the others stay

others_names : (gone : List UniqueName) (new : List Name) (id : List ℕ) (es : List Entry) (o : Option Entry) → AreKeyed (map content es) → filter (own id) es ≡ option_to_list o → map name_of gone ≡ names_beyond new (names_in (option_map content o))
    → All (λ d. All (λ r. not (is_name gone r) ≡ true) (name_rows d)) (others id es)
others_names gone new id es None keyed only is = others_all (λ d. All (λ r. not (is_name gone r) ≡ true) (name_rows d)) id es (λ k d low _. none_named gone (name_rows (get_or es k d)) is)
others_names gone new id es (Some x) keyed only is =
    others_all (λ d. All (λ r. not (is_name gone r) ≡ true) (name_rows d)) id es
    (All-weaker (λ d. own id d ≡ false → AreApart x.content d.content) (λ d. own id d ≡ false → All (λ r. not (is_name gone r) ≡ true) (name_rows d)) (λ d apart other. names_stay gone new x.content d is (apart other)) es (own_apart id x es keyed only))

others_resources : (base id : List ℕ) (es : List Entry) → IsId id → All (IsEntry base) es → All (λ d. All (λ r. not (has_text 0 (id_text id) r) ≡ true) (resource_row d ∷ [])) (others id es)
others_resources base id es is_id sound =
    others_all (λ d. All (λ r. not (has_text 0 (id_text id) r) ≡ true) (resource_row d ∷ [])) id es
    (All-weaker (IsEntry base) (λ d. own id d ≡ false → All (λ r. not (has_text 0 (id_text id) r) ≡ true) (resource_row d ∷ []))
    (λ d s other. All-cons (λ r. not (has_text 0 (id_text id) r) ≡ true) (resource_row d) [] (resource_stays id d s.document.below.0.identified.0 is_id (other_own id d other)) (All-nil (λ r. not (has_text 0 (id_text id) r) ≡ true))) es sound)

others_members : (base id : List ℕ) (gone : List (List ℕ)) (es : List Entry) → IsId id → All (IsEntry base) es → All (λ d. All (λ r. not (is_member (id_text id) gone r) ≡ true) (member_rows d)) (others id es)
others_members base id gone es is_id sound =
    others_all (λ d. All (λ r. not (is_member (id_text id) gone r) ≡ true) (member_rows d)) id es
    (All-weaker (IsEntry base) (λ d. own id d ≡ false → All (λ r. not (is_member (id_text id) gone r) ≡ true) (member_rows d))
    (λ d s other. All-map (λ r. not (is_member (id_text id) gone r) ≡ true) (member_row d.content.id) d.members (λ k v low. ap not (other_member d.content.id id gone (get_or d.members k v) (ids_apart d.content.id id s.document.below.0.identified.0 is_id (other_own id d other))))) es sound)

others_secrets : (base id : List ℕ) (edit : SecretEdit) (es : List Entry) → IsId id → All (IsEntry base) es → All (λ d. All (λ r. not (is_secret (id_text id) edit r) ≡ true) (secret_rows d)) (others id es)
others_secrets base id edit es is_id sound =
    others_all (λ d. All (λ r. not (is_secret (id_text id) edit r) ≡ true) (secret_rows d)) id es
    (All-weaker (IsEntry base) (λ d. own id d ≡ false → All (λ r. not (is_secret (id_text id) edit r) ≡ true) (secret_rows d))
    (λ d s other. secret_stays d.content.id id edit d.door_code (ids_apart d.content.id id s.document.below.0.identified.0 is_id (other_own id d other))) es sound)

-- ---- a resource is replaced

into_place : (lows highs : List Entry) (n : Option Entry) → IsPermutation (option_to_list n ++ (lows ++ highs)) (lows ++ (option_to_list n ++ highs))
into_place lows highs None = IsPermutation-refl (lows ++ highs)
into_place lows highs (Some x) = IsPermutation-sym _ _ (IsPermutation-middle lows x highs)

contents_of : (n : Option Entry) → map content (option_to_list n) ≡ option_to_list (option_map content n)
contents_of None = refl
contents_of (Some x) = refl

-- the resources with another in the place of an id, or none
abbrev put_in : List ℕ → Option Content → List Content → List Content
put_in id c cs = below id cs ++ (option_to_list c ++ above id cs)

-- the resources after the edits, whose rows are the edited ones in some order
record AreReplaced (base : List ℕ) (es : List Entry) (id : List ℕ) (c : Option Content) (e : Edits) (audit : List AuditRow) : Type 0 where
  entries : List Entry
  contents : map content entries ≡ put_in id c (map content es)
  sound : All (IsEntry base) entries
  resources : IsPermutation (edited e (lists_of es audit)).resources (map resource_row entries)
  taken : IsPermutation (edited e (lists_of es audit)).taken (flat_map name_rows entries)
  member : IsPermutation (edited e (lists_of es audit)).member (flat_map member_rows entries)
  secret : IsPermutation (edited e (lists_of es audit)).secret (flat_map secret_rows entries)

are_replaced : (base : List ℕ) (es : List Entry) (id : List ℕ) (c : Option Content) (e : Edits) (audit : List AuditRow) → AreKeyed (map content es) → All (IsEntry base) es → HasId id c → Replaces base id (of_id id (map content es)) c e
    → AreReplaced base es id c e audit
are_replaced base es id c e audit keyed sound has replaces =
    let f = found id es keyed in
    let o : Option Entry = f.entry in
    let lows : List Entry = filter (lower id) es in
    let highs : List Entry = filter (upper id) es in
    let sound_o : All (IsEntry base) (option_to_list o) = subst (All (IsEntry base)) f.only (All-filter (own id) (IsEntry base) es sound) in
    let own_o : All (λ x. own id x ≡ true) (option_to_list o) = subst (All (λ x. own id x ≡ true)) f.only (filter_passes (own id) es) in
    let from : IsPermutation es (option_to_list o ++ others id es) = subst (λ (l : List Entry). IsPermutation es (l ++ others id es)) f.only (split id es) in
    let new = new_entry base id (of_id id (map content es)) e o f.is sound_o c has replaces in
    let entries : List Entry = lows ++ (option_to_list new.entry ++ highs) in
    let into : IsPermutation (option_to_list new.entry ++ others id es) entries = into_place lows highs new.entry in
    let named : map name_of e.names_gone.items ≡ names_beyond (names_in c) (names_in (option_map content o)) = replaces.names_gone ∙ ap (λ (x : Option Content). names_beyond (names_in c) (names_in x)) f.is in
    let remain : filter (λ r. not (is_name e.names_gone.items r)) (flat_map name_rows (option_to_list o)) ≡ map (name_row id) (names_staying (names_in c) (of_id id (map content es))) =
    names_left id e.names_gone.items (names_in c) o own_o named ∙ ap (λ (x : Option Content). map (name_row id) (names_staying (names_in c) x)) (sym f.is) in
    let all : All (IsEntry base) entries =
    All-append (IsEntry base) lows (option_to_list new.entry ++ highs) (All-filter (lower id) (IsEntry base) es sound) (All-append (IsEntry base) (option_to_list new.entry) highs new.sound (All-filter (upper id) (IsEntry base) es sound)) in
    let goes : filter (λ r. not (has_text 0 e.id r)) (flat_map (λ x. resource_row x ∷ []) (option_to_list o)) ≡ [] = subst (λ (t : List ℕ). filter (λ r. not (has_text 0 t r)) (flat_map (λ x. resource_row x ∷ []) (option_to_list o)) ≡ []) (sym replaces.text) (resource_left id o own_o) in
    let leave : filter (λ r. not (is_member e.id e.members_gone.items r)) (flat_map member_rows (option_to_list o)) ≡ map (member_row id) (staying e.members_gone.items (members_in o)) =
    subst (λ (t : List ℕ). filter (λ r. not (is_member t e.members_gone.items r)) (flat_map member_rows (option_to_list o)) ≡ map (member_row id) (staying e.members_gone.items (members_in o))) (sym replaces.text) (members_left id e.members_gone.items o own_o) in
    let resources_stay = subst (λ (t : List ℕ). All (λ d. All (λ r. not (has_text 0 t r) ≡ true) (resource_row d ∷ [])) (others id es)) (sym replaces.text) (others_resources base id es replaces.is_id sound) in
    let members_stay = subst (λ (t : List ℕ). All (λ d. All (λ r. not (is_member t e.members_gone.items r) ≡ true) (member_rows d)) (others id es)) (sym replaces.text) (others_members base id e.members_gone.items es replaces.is_id sound) in
    let one = replaced (λ x. resource_row x ∷ []) (λ r. not (has_text 0 e.id r)) es (option_to_list o) (others id es) (option_to_list new.entry) entries (rows_of_document e) from resources_stay (IsPermutation-same _ _ (ap (λ (l : List Row). rows_of_document e ++ l) goes ∙ append-nil (rows_of_document e) ∙ new.resources)) into in
    let two = replaced name_rows (λ r. not (is_name e.names_gone.items r)) es (option_to_list o) (others id es) (option_to_list new.entry) entries (rows_of_names e.id e.names_come.items) from (others_names e.names_gone.items (names_in c) id es o keyed f.only named)
    (IsPermutation-trans _ _ _ (IsPermutation-same _ _ (ap (λ (l : List Row). rows_of_names e.id e.names_come.items ++ l) remain)) new.names) into in
    let three = replaced member_rows (λ r. not (is_member e.id e.members_gone.items r)) es (option_to_list o) (others id es) (option_to_list new.entry) entries (rows_of_members e.id e.members_come.items) from members_stay
    (IsPermutation-same _ _ (ap (λ (l : List Row). rows_of_members e.id e.members_come.items ++ l) leave ∙ new.members)) into in
    let code_leaves : filter (λ r. not (is_secret e.id e.secret r)) (flat_map secret_rows (option_to_list o)) ≡ code_rows id (code_left e.secret (code_of o)) =
    subst (λ (t : List ℕ). filter (λ r. not (is_secret t e.secret r)) (flat_map secret_rows (option_to_list o)) ≡ code_rows id (code_left e.secret (code_of o))) (sym replaces.text) (secrets_left id e.secret o own_o) in
    let secrets_stay = subst (λ (t : List ℕ). All (λ d. All (λ r. not (is_secret t e.secret r) ≡ true) (secret_rows d)) (others id es)) (sym replaces.text) (others_secrets base id e.secret es replaces.is_id sound) in
    let four = replaced secret_rows (λ r. not (is_secret e.id e.secret r)) es (option_to_list o) (others id es) (option_to_list new.entry) entries (rows_of_secret e.id e.secret) from secrets_stay
    (IsPermutation-same _ _ (ap (λ (l : List Row). rows_of_secret e.id e.secret ++ l) code_leaves ∙ new.secrets)) into in
    record {
      entries = entries;
      contents =
          map-append content lows (option_to_list new.entry ++ highs)
          ∙ (λ i. sym (filter-map (λ (x : Content). is_lt (slice_cmp nat_cmp x.id id)) content es) i ++ map-append content (option_to_list new.entry) highs i)
          ∙ (λ i. below id (map content es) ++ ((contents_of new.entry ∙ ap option_to_list new.is) i ++ sym (filter-map (λ (x : Content). is_gt (slice_cmp nat_cmp x.id id)) content es) i));
      sound = all;
      resources = subst₂ (λ (xs ys : List Row). IsPermutation (rows_of_document e ++ filter (λ r. not (has_text 0 e.id r)) xs) ys) (sym (each_one resource_row es)) (sym (each_one resource_row entries)) one;
      taken = two;
      member = three;
      secret = four;
    }

-- ---- the audit

-- a row with the next number
last_row : (k : ℕ) (rows : List AuditRow) (n : ℕ) (row : AuditRow) → n ≡ k + length rows → IsPermutation (audit_row n row ∷ audit_rows k rows) (audit_rows k (rows ++ row ∷ []))
last_row k [] n row e = IsPermutation-same _ _ (let same : n ≡ k = omega (arith, e) in ap (λ m. audit_row m row ∷ []) same)
last_row k (b ∷ more) n row e =
    IsPermutation-trans _ _ _ (IsPermutation-middle (audit_row n row ∷ []) (audit_row k b) (audit_rows (k + 1) more))
    (IsPermutation-cons _ _ _ (last_row (k + 1) more n row (omega (arith, e))))

pub next_row : (store : Store) (row : AuditRow) (v : Row) → v ≡ audit_row (length store.audit + 1) row → IsPermutation (v ∷ audit_rows 1 store.audit) (audit_rows 1 (store.audit ++ row ∷ []))
next_row store row v told = subst (λ (r : Row). IsPermutation (r ∷ audit_rows 1 store.audit) (audit_rows 1 (store.audit ++ row ∷ []))) (sym told) (last_row 1 store.audit (length store.audit + 1) row (omega arith))

-- ---- a whole change

module _ (base : List ℕ) (new : Database) (store : Store) (row : AuditRow) (v : Row) (told : v ≡ audit_row (length store.audit + 1) row) (es : List Entry) (are : map content es ≡ store.resources) (sound : All (IsEntry base) es) (keyed : AreKeyed store.resources) where
  stands_same : Are new (with_row v (lists_of es store.audit)) → StandsFor base new (after Nothing row store)
  stands_same tables = record {
    entries = es;
    resources = are;
    sound = sound;
    keyed = keyed;
    tables = reordered new _ _ tables (IsPermutation-refl _) (IsPermutation-refl _) (IsPermutation-refl _) (next_row store row v told) (IsPermutation-refl _);
    may = λ _ _ _. tt;
  }

  stands_replaced : (id : List ℕ) (c : Option Content) (e : Edits) (change : Change) → HasId id c → Replaces base id (of_id id store.resources) c e → (after change row store).resources ≡ put_in id c store.resources → AreKeyed (put_in id c store.resources)
      → Are new (with_row v (edited e (lists_of es store.audit))) → StandsFor base new (after change row store)
  stands_replaced id c e change has replaces is sorted tables =
      let all = are_replaced base es id c e store.audit (subst AreKeyed (sym are) keyed) sound has (subst (λ (cs : List Content). Replaces base id (of_id id cs) c e) (sym are) replaces) in
      record {
        entries = all.entries;
        resources = all.contents ∙ ap (put_in id c) are ∙ sym is;
        sound = all.sound;
        keyed = subst AreKeyed (sym is) sorted;
        tables = reordered new _ _ tables all.resources all.taken all.member (next_row store row v told) all.secret;
        may = λ _ _ _. tt;
      }

-- the edits of a change and its row of the audit make of tables that stand for a store those that stand for the store after it
writes_all : (edits : Option Edits) (columns : AuditColumns) (old new : Database) → ((lists : Lists) → Are old lists → Are new (with_row (audit_values columns) (edited_by edits lists)))
    → (base : List ℕ) (store : Store) (change : Change) (row : AuditRow) → StandsFor base old store → CanKeep store change → AreEdits base store.resources change edits → audit_values columns ≡ audit_row (length store.audit + 1) row
    → StandsFor base new (after change row store)
writes_all None columns old new did base store Nothing row stands can are told = stands_same base new store row (audit_values columns) told stands.entries stands.resources stands.sound stands.keyed (did _ stands.tables)
writes_all (Some e) columns old new did base store Nothing row stands can are told = cc
writes_all None columns old new did base store (Keep c) row stands can are told = absurd are
writes_all (Some e) columns old new did base store (Keep c) row stands can are told =
    stands_replaced base new store row (audit_values columns) told stands.entries stands.resources stands.sound stands.keyed c.id (Some c) e (Keep c) refl are refl (keep_keyed c store.resources stands.keyed can.names) (did _ stands.tables)
writes_all None columns old new did base store (Remove kind id) row stands can are told = absurd are
writes_all (Some e) columns old new did base store (Remove kind id) row stands can are told =
    stands_replaced base new store row (audit_values columns) told stands.entries stands.resources stands.sound stands.keyed id None e (Remove kind id) tt are refl (without_keyed id store.resources stands.keyed) (did _ stands.tables)

pub writes : (edits : Option Edits) (columns : AuditColumns) (old new : Database) → ((lists : Lists) → Are old lists → Are new (with_row (audit_values columns) (edited_by edits lists))) → Writes edits columns old new
writes edits columns old new did = record { stands = writes_all edits columns old new did }
