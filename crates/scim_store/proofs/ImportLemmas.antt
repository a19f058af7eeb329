-- The rows of resources that are brought into an empty database.
use Rattle.std.proofs.Common.{◌≡◌, ℕ, refl, sym, ◌∙◌, ap, subst, Bool, true, false, ◌&&◌, List, [], ◌∷◌, ◌++◌, map, filter, inr, IsTrue, IsErr, IsErrAnd, IfErr, Result, Ok, Err}
use Rattle.std.specs.Prelude.{None, Some, IsPermutation, string_bytes}
use Rattle.std.specs.List.{flat_map}
use Rattle.std.proofs.lemmas.List.{append-nil}
use Rattle.std.proofs.lemmas.List.Elements.{All-nil, All-cons, All-contains, Contains-push}
use Rattle.std.proofs.lemmas.List.Sorted.{IsPermutation-refl, IsPermutation-cons, IsPermutation-middle, IsPermutation-trans, IsPermutation-sym, IsPermutation-map, All-permutation}
use Rattle.sqlite_trees.proofs.ListLemmas.{IsPermutation-same, IsPermutation-flat_map, map-map, pull_back}
use Rattle.sqlite.specs.declared.transaction.Transaction.{Transaction}
use Rattle.sqlite.specs.Effect.{Database}
use Rattle.sqlite.specs.State.{State, IsLive, Survives}
use Rattle.sqlite.specs.Tree.{Trees}
use Rattle.sqlite.proofs.StateLemmas.{survives_weaker}
use Rattle.sqlite_trees.specs.declared.store.Store.{Ghosts}
use Rattle.scim_text.specs.Failures.{IfBecause}
use Rattle.scim_text.specs.declared.memory.Failed.{Failed}
use Rattle.scim_text.specs.declared.memory.Failed.TheVariants as failed
use Rattle.scim_cell.specs.Content.{Content}
use Rattle.scim_value.specs.Resource.{HasBase}
use Rattle.scim_json.specs.Stored.{IsResourceBelow}
use Rattle.scim_json.specs.Documents.{IsDocumentsText, IsDamagedAt}
use Rattle.scim_json.specs.declared.faults.DamagedItem.{DamagedItem}
use Rattle.scim_json.specs.DocumentReading.{HasRead}
use Rattle.scim_json.specs.declared.users_files.DocumentReader.{DocumentReader}
use Rattle.scim_value.specs.Uniqueness.{name_of, unique_names}
use Rattle.scim_shelf.specs.Stores.{Store, IsNewStore}
use Rattle.scim_store_tables.specs.Lists.{Lists, Are, no_rows, resource_values}
use Rattle.scim_store_tables.specs.Reading.{Rests}
use Rattle.scim_store_tables.specs.Steps.{DoesIn, Became, Undoes, Leaves}
use Rattle.scim_store_tables.specs.Tables.{no_schema}
use Rattle.scim_store_tables.proofs.Facts.{HasDone}
use Rattle.scim_store.specs.declared.edits.Edits.{Edits}
use Rattle.scim_store_rows.specs.Audit.{kind_number}
use Rattle.scim_json.specs.Kept.{door_code}
use Rattle.scim_store.specs.Edits.{rows_of_names, rows_of_members, rows_of_secret, rows_of_document, Replaces}
use Rattle.scim_store.specs.declared.importing.ImportFault.{ImportFault}
use Rattle.scim_store.specs.code.Importing.{IsFillFault}
use Rattle.scim_store.specs.Importing.{of_reading, HoldRowsOf, HoldUsers, Fills, LeavesUsers, HasImported}
use Rattle.scim_store_rows.specs.Stands.{Entry, StandsFor, IsEntry, lists_of, resource_row, name_row, name_rows, member_rows, secret_rows}
use Rattle.scim_store.proofs.RowLemmas.{reordered}
use Rattle.scim_store.proofs.NewStoreLemmas.{holds_new}
use Rattle.scim_store.proofs.EntryLemmas.{first_turned, turned_utf8}
use Rattle.scim_store.proofs.StandLemmas.{document_rows, document_utf8}

-- ---- no rows, and more

pub hold_none : (base : List ℕ) (db : Database) → Are db no_rows → HoldRowsOf base [] db
hold_none base db are = record { entries = []; resources = IsPermutation-refl []; sound = All-nil (IsEntry base); tables = are }

all_stay : {X : Type 0} (xs : List X) → filter (λ x. true) xs ≡ xs
all_stay [] = refl
all_stay (x ∷ xs) = ap (λ l. x ∷ l) (all_stay xs)

and_true : (b : Bool) → (b && true) ≡ b
and_true true = refl
and_true false = refl

-- the edits of a resource that isn't there put in its rows
pub hold_more : (base : List ℕ) (cs : List Content) (c : Content) (e : Edits) (old new : Database) → Replaces base c.id None (Some c) e
    → ((lists : Lists) → Are old lists
    → Are new (record lists { resources = rows_of_document e ++ lists.resources; taken = rows_of_names e.id e.names_come.items ++ lists.taken; member = rows_of_members e.id e.members_come.items ++ lists.member; secret = rows_of_secret e.id e.secret ++ lists.secret }))
    → HoldRowsOf base cs old → HoldRowsOf base (c ∷ cs) new
hold_more base cs c e old new replaces did hold =
    let written = replaces.document in
    let es : List Entry = hold.entries in
    let entry : Entry = record { content = c; document = written.1; members = e.members_come.items; door_code = door_code c } in
    let document : rows_of_document e ≡ resource_row entry ∷ [] =
    document_rows string_bytes e.document e.id (kind_number e.kind) written.1 written.2 ∙ (λ i. resource_values (replaces.text i) (kind_number (written.0 i)) written.1 ∷ []) in
    let names : rows_of_names e.id e.names_come.items ≡ name_rows entry =
    ap (λ t. rows_of_names t e.names_come.items) replaces.text
    ∙ sym (map-map (name_row c.id) name_of e.names_come.items)
    ∙ ap (map (name_row c.id)) (replaces.names_come ∙ all_stay (unique_names c)) in
    let members : rows_of_members e.id e.members_come.items ≡ member_rows entry = ap (λ t. rows_of_members t e.members_come.items) replaces.text in
    let secrets : rows_of_secret e.id e.secret ≡ secret_rows entry = ap (λ t. rows_of_secret t e.secret) replaces.text ∙ first_turned c.id (door_code c) e.secret replaces.secret in
    record {
      entries = entry ∷ es;
      resources = IsPermutation-cons _ _ _ hold.resources;
      sound = All-cons (IsEntry base) entry es (record { document = written.3; utf8 = document_utf8 e.document written.1 written.2; code_utf8 = turned_utf8 None (door_code c) e.secret replaces.secret tt; members = record { once = replaces.once; listed = λ v. replaces.members_come v ∙ and_true _ } }) hold.sound;
      tables = subst (Are new) (λ i. record { resources = document i ++ map resource_row es; taken = names i ++ flat_map name_rows es; member = members i ++ flat_map member_rows es; audit = []; secret = secrets i ++ flat_map secret_rows es }) (did (lists_of es []) hold.tables);
    }

-- resources in another order have the same rows
pub hold_reordered : (base : List ℕ) (cs ds : List Content) (db : Database) → IsPermutation cs ds → HoldRowsOf base cs db → HoldRowsOf base ds db
hold_reordered base cs ds db same hold = record { entries = hold.entries; resources = IsPermutation-trans _ _ _ hold.resources same; sound = hold.sound; tables = hold.tables }

-- one more of the resources, behind those so far
pub hold_behind : (base : List ℕ) (cs : List Content) (c : Content) (db : Database) → HoldRowsOf base (c ∷ cs) db → HoldRowsOf base (cs ++ c ∷ []) db
hold_behind base cs c db =
    let moved : IsPermutation (c ∷ cs) (cs ++ c ∷ []) =
    IsPermutation-sym _ _ (IsPermutation-trans _ _ _ (IsPermutation-middle cs c []) (IsPermutation-same _ _ (ap (λ l. c ∷ l) (append-nil cs)))) in
    hold_reordered base (c ∷ cs) (cs ++ c ∷ []) db moved

-- the resource that a reader has read last stands below the base
pub read_below : (base users : List ℕ) (cs : List Content) (c : Content) (r : DocumentReader) → HasRead base users (cs ++ c ∷ []) r → HasBase base c
read_below base users cs c r read = (All-contains (IsResourceBelow base) (cs ++ c ∷ []) c read.have.below.below (Contains-push cs c)).1

-- ---- a fault behind steps that succeeded

pub stops : {S T E : Type 0} (g : Ghosts S) (a b : Transaction S) (r : Result T E) (P Q : Database → Database → Type 0) → HasDone g a b P → IsErr r → DoesIn g a b r Q
stops g a b (Ok y) P Q did fails = absurd cc
stops g a b (Err f) P Q did fails = record { same_reference = did.same_reference; went = λ clean inside. tt; kept = did.kept; survives = did.survives }

-- a file that can't be read is damaged at the item that is told
pub fault_read : {T : Type 0} (base users : List ℕ) (r : Result T ImportFault) (e : Failed DamagedItem) → IsErrAnd r (λ f. f ≡ of_reading e) → IfBecause (λ item. IsDamagedAt base users item.0) e → IfErr r (IsFillFault base users)
fault_read base users (Ok x) e is damaged = tt
fault_read base users (Err f) (failed.Because item) is damaged = subst (IsFillFault base users) (sym is) damaged
fault_read base users (Err f) failed.NoMemory is damaged = subst (IsFillFault base users) (sym is) tt

-- ---- a new store

-- the tables with the rows of resources are those of each new store of them
pub stands_new : (base : List ℕ) (cs : List Content) (db : Database) (store : Store) → HoldRowsOf base cs db → IsNewStore cs store → StandsFor base db store
stands_new base cs db store hold new =
    let pulled = pull_back (λ (e : Entry). e.content) _ _ (IsPermutation-trans _ _ _ hold.resources new.members) hold.entries refl in
    record {
      entries = pulled.0;
      resources = sym pulled.2;
      sound = All-permutation (IsEntry base) _ _ pulled.1 hold.sound;
      keyed = new.keyed;
      tables = subst (λ audit. Are db (lists_of pulled.0 audit)) (sym new.no_rows)
          (reordered db _ _ hold.tables (IsPermutation-map resource_row _ _ pulled.1) (IsPermutation-flat_map name_rows _ _ pulled.1) (IsPermutation-flat_map member_rows _ _ pulled.1) (IsPermutation-refl _) (IsPermutation-flat_map secret_rows _ _ pulled.1));
      may = λ _ _ _. tt;
    }

-- what a crash may leave of the tables with all resources of a users file
leaves_users : (base users : List ℕ) (old : State) (db : Database) (trees : Trees) → old.now.schema ≡ no_schema → trees ≡ db.trees → HoldUsers base users db → LeavesUsers base users old trees
leaves_users base users old db trees empty is held = (held.0, held.1, (empty, (db, is, held.2, λ store new. stands_new base held.0 db store held.2 new)))

module _ (base users : List ℕ) (old new : State) (empty : old.now.schema ≡ no_schema) where
  pub import_made : IsLive new → Became old new (Fills base users) → (cs : List Content) × IsDocumentsText base users cs × HasImported base cs old new
  import_made live became =
      let held = became.changed empty in
      let made = holds_new base held.0 new.now (live became.is_open).0 held.2 in (
        held.0,
        held.1,
        record { was_empty = empty; is_open = became.is_open; settled = became.settled; store = made.0; is_new = made.1; stands = stands_new base held.0 new.now made.0 held.2 made.1 },
      )

  -- the law is the store's: what a crash leaves of an open one is its last commit
  pub import_lasts : ((trees : Trees) → IsTrue new.is_open → new.may_leave trees → trees ≡ new.committed.trees) → Became old new (Fills base users) → (trees : Trees) → new.may_leave trees → LeavesUsers base users old trees
  import_lasts law became trees left =
      leaves_users base users old new.now trees empty (law trees became.is_open left ∙ ap (λ (db : Database). db.trees) (sym became.settled)) (became.changed empty)

  pub import_survives : Survives old new (Leaves (Fills base users) old.now) → Survives old new (LeavesUsers base users old)
  import_survives = survives_weaker old new _ _ (λ _ trees leaves. leaves_users base users old leaves.0 trees empty leaves.1 (leaves.2 empty))

pub rests_undone : (old new : State) → Undoes old new → Rests old new
rests_undone old new undoes = record { was_open = undoes.was_open; now = λ o. inr (undoes.now o); committed = undoes.committed }
