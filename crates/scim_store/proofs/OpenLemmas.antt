-- What the rows of a database tell of the store that its tables stand for.
use Rattle.std.proofs.Common.{◌≡◌, ◌≤◌, ℕ, refl, sym, inl, inr, IsTrue, ap, subst, ◌∙◌, List, [], ◌∷◌, length}
use Rattle.std.specs.Prelude.{Option, Some, None, All, map, IsPermutation, Result, Ok, Err, IfOk, IfErr, OnOk, ◌⊎◌}
use Rattle.std.specs.List.{AllByRecursion}
use Rattle.std.proofs.lemmas.Result.{IfOk-weaker}
use Rattle.std.proofs.lemmas.List.Elements.{All-nil, All-cons, All-head, All-tail, All-weaker}
use Rattle.scim_cell.specs.Content.{Content}
use Rattle.std.proofs.lemmas.List.Sorted.{IsPermutation-sym, IsPermutation-trans}
use Rattle.sqlite_trees.proofs.ListLemmas.{all-flat_map, all-map}
use Rattle.sqlite.specs.Effect.{Database}
use Rattle.sqlite.specs.Order.{Row, column}
use Rattle.sqlite.specs.State.{State, HasCleanDisk, Survives}
use Rattle.sqlite.specs.View.{doubt}
use Rattle.sqlite.proofs.StateLemmas.{survives_then, survives_weaker}
use Rattle.scim_store_tables.specs.Steps.{Became, Undoes, Leaves}
use Rattle.scim_shelf_cache.specs.declared.contents.CacheContents.{CacheContents}
use Rattle.scim_shelf_cache.specs.Caches.{HasCached}
use Rattle.scim_shelf.specs.Stores.{Store, AreKeyed}
use Rattle.scim_value.specs.Uniqueness.{Name, unique_names}
use Rattle.scim_store_tables.specs.Tables.{no_schema}
use Rattle.scim_store.specs.Beginning.{no_store, Begins}
use Rattle.scim_store.proofs.ShelfLemmas.{clean_before}
use Rattle.scim_store_tables.specs.Lists.{AreIn}
use Rattle.scim_store_tables.specs.Tables.{schema_of}
use Rattle.scim_store_tables.specs.Reading.{shown_in, Rests, SparesIn}
use Rattle.scim_store_tables.specs.Migrating.{Migrates}
use Rattle.scim_store_tables.specs.declared.versions.Version.{Version}
use Rattle.scim_store_tables.specs.declared.versions.Version.TheVariants.{One, Two}
use Rattle.scim_store_tables.specs.Whole.{AreInOrder, AreRowsOf as AreRead, Is, IsUntouched, IsReading}
use Rattle.scim_store_tables.specs.declared.database_kinds.TableRows.{TableRows}
use Rattle.scim_store_tables.specs.declared.database_kinds.DatabaseKind.{DatabaseKind}
use Rattle.scim_store_tables.specs.declared.database_kinds.DatabaseKind.TheVariants.{WrongVersion as OtherVersion, Foreign as OtherProgram, Altered, Tables}
use Rattle.scim_store_tables.proofs.Facts.{order_rising}
use Rattle.scim_store_tables.proofs.Facts.{rows_of, holds_lists, altered_rows, altered_further, tables_rows, same_version, both_unchanged}
use Rattle.scim_store_rows.specs.Audit.{audit_rows}
use Rattle.scim_cell.specs.Ids.{IsId}
use Rattle.scim_store.specs.Damage.{AreOrdered, IsEntryIn, AreSound, HoldsAt, IsLeastDamage, IsForeign, Judges}
use Rattle.scim_store.specs.declared.damage.Judged.{Judged}
use Rattle.scim_store.specs.declared.damage.Judged.TheVariants.{Sound, Damaged as DamagedAt, Foreign as ForeignRows}
use Rattle.scim_store_rows.specs.Auditing.{CountsAudit, TellsCount}
use Rattle.scim_store.specs.Opening.{resource_tables, by_count, by_judged, HasRowsOf, HasCopied, HasCopiedIf, IsFor, IsOpenIf, Examines, ExaminesRows}
use Rattle.scim_store_rows.specs.Finding.{StandsIn}
use Rattle.scim_store.specs.Shelves.{IsKeptIn, HasOpened, LeavesBegun}
use Rattle.scim_store.specs.declared.examining.Examined.{Examined}
use Rattle.scim_store.specs.declared.examining.Examined.TheVariants.{Empty, Stands, WrongVersion, Damaged, Foreign}
use Rattle.scim_store_rows.specs.Stands.{Entry, IsEntry, MayHave, StandsForIn, StandsForOld, StandsFor, lists_of, name_row, name_rows, member_row, member_rows}
use Rattle.scim_store.proofs.NoneLemmas.{other_stand, foreign_stand, altered_stand}
use Rattle.scim_store_rows.proofs.Facts.{contents}
use Rattle.scim_store.proofs.SoundLemmas.{sound_holds}
use Rattle.scim_store_rows.proofs.Facts.{rows_rise}

-- ---- rows of resources have their columns

abbrev IsTriple : Row → Type 0
IsTriple v = column v 0 ∷ column v 1 ∷ column v 2 ∷ [] ≡ v

abbrev IsPair : Row → Type 0
IsPair v = column v 0 ∷ column v 1 ∷ [] ≡ v

each_name : (id : List ℕ) (ns : List Name) → AllByRecursion (λ n. IsTriple (name_row id n)) ns
each_name id [] = tt
each_name id (n ∷ ns) = (refl, each_name id ns)

each_member : (id : List ℕ) (vs : List (List ℕ)) → AllByRecursion (λ v. IsPair (member_row id v)) vs
each_member id [] = tt
each_member id (v ∷ vs) = (refl, each_member id vs)

each_names : (es : List Entry) → AllByRecursion (λ e. AllByRecursion IsTriple (name_rows e)) es
each_names [] = tt
each_names (e ∷ es) = (all-map IsTriple (name_row e.content.id) (unique_names e.content) (each_name e.content.id (unique_names e.content)), each_names es)

each_members : (es : List Entry) → AllByRecursion (λ e. AllByRecursion IsPair (member_rows e)) es
each_members [] = tt
each_members (e ∷ es) = (all-map IsPair (member_row e.content.id) e.members (each_member e.content.id e.members), each_members es)

-- ---- what was read, in order

pub ordered_read : (version : Version) (db : Database) (rows : TableRows) → AreRead (shown_in version db) rows → AreOrdered (resource_tables rows)
ordered_read version db rows read = record { resources = read.resources.order; names = read.names.order; members = read.members.order; secrets = read.secrets.order }

-- ---- rows that are sound

-- the resources of valid entries, and what the version may have
all_entries : (version : Version) (base : List ℕ) (es : List Entry) → All (IsEntryIn version base) es → All (IsEntry base) es
all_entries version base es sound = All-weaker (IsEntryIn version base) (IsEntry base) (λ e is. is.entry) es sound

all_may : (version : Version) (base : List ℕ) (es : List Entry) → All (IsEntryIn version base) es → All (MayHave version) (contents es)
all_may version base [] sound = All-nil (MayHave version)
all_may version base (e ∷ es) sound = All-cons (MayHave version) e.content (contents es) (All-head (IsEntryIn version base) e es sound).may (all_may version base es (All-tail (IsEntryIn version base) e es sound))

module _ (version : Version) (base : List ℕ) (db : Database) (rows : TableRows) (read : AreRead (shown_in version db) rows) where
  read_stands : (listed : List Row) (count : ℕ) → AreIn version db (shown_in version db) → AreSound version base (resource_tables rows) → AreInOrder (0 ∷ []) (shown_in version db).audit listed → CountsAudit listed (Some count) → IsFor base db (Stands version count)
  read_stands listed count held (es, are) shows (audit, valid, is, long) = (
    record { resources = contents es; audit = audit },
    record {
      entries = es;
      resources = refl;
      sound = all_entries version base es are.sound;
      keyed = are.keyed;
      tables = holds_lists db (lists_of es audit) rows (all-flat_map IsTriple name_rows es (each_names es)) (all-flat_map IsPair member_rows es (each_members es)) held read (record {
        resources = record { same = IsPermutation-sym _ _ are.resources; order = read.resources.order };
        names = record { same = IsPermutation-sym _ _ are.names; order = read.names.order };
        members = record { same = IsPermutation-sym _ _ are.members; order = read.members.order };
        secrets = record { same = IsPermutation-sym _ _ are.secrets; order = read.secrets.order };
      }) (subst (IsPermutation (shown_in version db).audit) (sym is) shows.same);
      may = all_may version base es are.sound;
    },
    valid,
    long,
  )

  -- ---- rows that aren't

  module _ (has : db.schema ≡ schema_of version) where
    -- the rows of a database that holds a store are sound, by the rules of the version of its schema
    sound_of : (other : Version) (store : Store) → StandsForIn other base db store → AreSound version base (resource_tables rows)
    sound_of other store it =
        let stands = subst (λ v. StandsForIn v base db store) (same_version other version (sym it.tables.schema ∙ has)) it in
        let told = rows_of db (lists_of stands.entries store.audit) rows stands.tables read in (
          stands.entries,
          record {
            sound = both_sound stands.entries stands.sound (subst (All (MayHave version)) (sym stands.resources) stands.may);
            keyed = subst AreKeyed (sym stands.resources) stands.keyed;
            resources = IsPermutation-sym _ _ told.resources.same;
            names = IsPermutation-sym _ _ told.names.same;
            members = IsPermutation-sym _ _ told.members.same;
            secrets = IsPermutation-sym _ _ told.secrets.same;
          },
        )
      where
        both_sound : (es : List Entry) → All (IsEntry base) es → All (MayHave version) (contents es) → All (IsEntryIn version base) es
        both_sound [] sound may = All-nil (IsEntryIn version base)
        both_sound (e ∷ es) sound may =
            All-cons (IsEntryIn version base) e es (record { entry = All-head (IsEntry base) e es sound; may = All-head (MayHave version) e.content (contents es) may })
            (both_sound es (All-tail (IsEntry base) e es sound) (All-tail (MayHave version) e.content (contents es) may))

    pub damaged_read : (id : List ℕ) → IsLeastDamage version base (resource_tables rows) id → IsFor base db (Damaged id)
    damaged_read id least = (
      record { version = version; schema = has; rows = rows; read = read; least = least },
      λ other store sound stands. least.here (sound_holds version base (resource_tables rows) id least.is_id (sound_of other store stands)),
    )

  pub foreign_read : AreIn version db (shown_in version db) → IsForeign version base (resource_tables rows) → IsFor base db Foreign
  foreign_read held foreign = (
    inr (record { version = version; tables = inl held; rows = rows; read = read; holds = foreign.holds }),
    λ other store sound stands. foreign.unsound (sound_of held.schema other store stands),
  )

  audit_read : (listed : List Row) → AreIn version db (shown_in version db) → AreSound version base (resource_tables rows) → AreInOrder (0 ∷ []) (shown_in version db).audit listed → CountsAudit listed None → IsFor base db Foreign
  audit_read listed held sound shows none = (
    inr (record { version = version; tables = inl held; rows = rows; read = read; holds = λ id is. sound_holds version base (resource_tables rows) id is sound }),
    λ other store valid stands.
        (let same : IsPermutation (audit_rows 1 store.audit) listed = IsPermutation-trans _ _ _ (IsPermutation-sym _ _ stands.tables.audit) shows.same in
        none store.audit valid (sym (order_rising (0 ∷ []) (audit_rows 1 store.audit) listed (rows_rise 1 store.audit) same shows.order))),
  )

  -- the audit of tables with sound rows of resources is counted
  pub counted_read : (listed : List Row) (count : Option ℕ) → AreIn version db (shown_in version db) → AreSound version base (resource_tables rows) → AreInOrder (0 ∷ []) (shown_in version db).audit listed → CountsAudit listed count → IsFor base db (by_count version count)
  counted_read listed (Some count) held sound shows counts = read_stands listed count held sound shows counts
  counted_read listed None held sound shows none = audit_read listed held sound shows none

-- ---- other databases

pub other_read : (base : List ℕ) (db : Database) → Is db OtherVersion → IsFor base db WrongVersion
other_read base db is = (is, other_stand base db is)

pub other_examined : (base : List ℕ) (old new : State) → IsReading old new OtherVersion → Examines base old new WrongVersion
other_examined base old new reading = record { is = other_read base old.now reading.is; untouched = reading.untouched }

pub program_read : (base : List ℕ) (db : Database) → Is db OtherProgram → IsFor base db Foreign
program_read base db is = (inl is, foreign_stand base db is)

-- ---- tables with further rows of `setting`

altered_schema : (db : Database) (version : Version) (rows : TableRows) → Is db (Altered version rows) → db.schema ≡ schema_of version
altered_schema db version rows (inl (other, inl by)) = absurd by.1
altered_schema db version rows (inl (other, inr by)) = absurd by.1
altered_schema db version rows (inr (found, has, by)) = has ∙ ap schema_of (sym by.0)

altered_foreign : (base : List ℕ) (db : Database) (version : Version) (rows : TableRows) → Is db (Altered version rows) → ((id : List ℕ) → IsId id → HoldsAt version base (resource_tables rows) id) → IsFor base db Foreign
altered_foreign base db version rows is holds = (
  inr (record { version = version; tables = inr (altered_further db version rows is); rows = rows; read = altered_rows db version rows is; holds = holds }),
  altered_stand base db version rows is,
)

pub altered_read : (base : List ℕ) (db : Database) (version : Version) (rows : TableRows) (it : Judged) → Is db (Altered version rows) → Judges version base (resource_tables rows) it → IsFor base db (by_judged it)
altered_read base db version rows Sound is sound = altered_foreign base db version rows is (λ id valid. sound_holds version base (resource_tables rows) id valid sound)
altered_read base db version rows (DamagedAt id) is least = (
  record { version = version; schema = altered_schema db version rows is; rows = rows; read = altered_rows db version rows is; least = least },
  altered_stand base db version rows is,
)
altered_read base db version rows ForeignRows is foreign = altered_foreign base db version rows is foreign.holds

-- ---- all rows

-- the audit of tables with sound rows of resources is counted
pub audit_counted : (version : Version) (base : List ℕ) (old new : State) (rows : TableRows) (count : Option ℕ) → (AreOrdered (resource_tables rows) → Judges version base (resource_tables rows) Sound) → TellsCount old new count → ExaminesRows version base rows old new (by_count version count)
audit_counted version base old new rows count sound told = record {
  is = λ held read. counted_read version base old.now rows read told.rows count held (sound (ordered_read version old.now rows read)) told.are told.counts;
  untouched = record { was_open = λ _. told.unchanged.0.was_open; unchanged = λ _. told.unchanged };
}

-- ---- a database whose tables were read

reading_has : (old mid : State) (version : Version) (rows : TableRows) → IsTrue old.is_open → IsReading old mid (Tables version rows) → mid.now.schema ≡ schema_of version
reading_has old mid version rows opened reading = ap (λ (d : Database). d.schema) (reading.untouched.unchanged opened).0.now_is ∙ (tables_rows old.now version rows reading.is).0.schema

-- the connection was open, and the tables were read
pub record WasRead (old mid : State) (version : Version) (rows : TableRows) : Type 0 where
  pub opened : IsTrue old.is_open
  pub reading : IsReading old mid (Tables version rows)
  pub has : mid.now.schema ≡ schema_of version

pub was_read : (old mid new : State) (kind : DatabaseKind) (version : Version) (rows : TableRows) → kind ≡ Tables version rows → (HasCleanDisk mid → (version : Version) (rows : TableRows) → kind ≡ Tables version rows → IsTrue old.is_open) → (HasCleanDisk mid → IsReading old mid kind)
    → doubt mid.is_clean ≤ doubt new.is_clean → HasCleanDisk new → WasRead old mid version rows
was_read old mid new kind version rows is opened reading grows clean =
    let before = clean_before mid new grows clean in
    let here = opened before version rows is in
    let told = subst (IsReading old mid) is (reading before) in
    record { opened = here; reading = told; has = reading_has old mid version rows here told }

pub rows_examined : (base : List ℕ) (old mid new : State) (version : Version) (rows : TableRows) (it : Examined) → IsTrue old.is_open → IsReading old mid (Tables version rows) → ExaminesRows version base rows mid new it → Examines base old new it
rows_examined base old mid new version rows it opened reading told =
    let same = reading.untouched.unchanged opened in
    let are = tables_rows old.now version rows reading.is in
    let now : old.now ≡ mid.now = sym same.0.now_is in
    let is : IsFor base mid.now it = told.is (subst (λ (db : Database). AreIn version db (shown_in version db)) now are.0) (subst (λ (db : Database). AreRead (shown_in version db) rows) now are.1) in
    record {
      is = subst (λ (db : Database). IsFor base db it) same.0.now_is is;
      untouched = record { was_open = λ _. opened; unchanged = λ _. both_unchanged old mid new same (told.untouched.unchanged same.0.is_open) };
    }

pub rows_survive : (old mid new : State) (version : Version) (rows : TableRows) → (HasCleanDisk mid → IsTrue old.is_open) → (HasCleanDisk mid → IsReading old mid (Tables version rows)) → Survives old mid (λ _. ⊥) → SparesIn version mid new → Survives old new (λ _. ⊥)
rows_survive old mid new version rows opened reading one two =
    survives_then old mid new _ _ _ (λ _ db none. none) (λ clean db other.
    (let before = clean_before mid new two.clean clean in
    absurd (other (reading_has old mid version rows (opened before) (reading before))))) one two

-- ---- a connection that is open

-- tables with further rows of `setting` hold no store
altered_open : (base : List ℕ) (db : Database) (version : Version) (rows : TableRows) (it : Examined) (s : State) → Is db (Altered version rows) → IsFor base db it → IsOpenIf it s
altered_open base db version rows (Stands found count) s is told = absurd (altered_stand base db version rows is found told.0 told.2 told.1)
altered_open base db version rows Empty s is told = tt
altered_open base db version rows WrongVersion s is told = tt
altered_open base db version rows (Damaged id) s is told = tt
altered_open base db version rows Foreign s is told = tt

pub altered_opened : {E : Type 0} (base : List ℕ) (db : Database) (version : Version) (rows : TableRows) (r : Result Examined E) (s : State) → Is db (Altered version rows) → IfOk r (λ it. (db : Database) → Is db (Altered version rows) → IsFor base db it) → IfOk r (λ it. IsOpenIf it s)
altered_opened base db version rows r s is told = IfOk-weaker r _ _ (λ it told. altered_open base db version rows it s is (told db is)) told

open_any : (it : Examined) (s : State) → IsTrue s.is_open → IsOpenIf it s
open_any (Stands version count) s opened = opened
open_any Empty s opened = tt
open_any WrongVersion s opened = tt
open_any (Damaged id) s opened = tt
open_any Foreign s opened = tt

pub any_opened : {E : Type 0} (r : Result Examined E) (s : State) → IsTrue s.is_open → IfOk r (λ it. IsOpenIf it s)
any_opened (Ok it) s opened = open_any it s opened
any_opened (Err e) s opened = tt

-- ---- copies

-- what holds a store has its rows
rows_are : (version : Version) (base : List ℕ) (db : Database) (store : Store) → StandsForIn version base db store → HasRowsOf version base db store
rows_are version base db store stands = record { entries = stands.entries; resources = stands.resources; sound = stands.sound; keyed = stands.keyed; tables = stands.tables }

copied_any : (version : Version) (it : Examined) (base : List ℕ) (db : Database) (copies : CacheContents) → db.schema ≡ schema_of version → IsFor base db it → HasCopied version base db copies → HasCopiedIf it base db copies
copied_any version (Stands found count) base db copies has told copied = subst (λ v. HasCopied v base db copies) (same_version version found (sym has ∙ told.1.tables.schema)) copied
copied_any version Empty base db copies has told copied = tt
copied_any version WrongVersion base db copies has told copied = tt
copied_any version (Damaged id) base db copies has told copied = tt
copied_any version Foreign base db copies has told copied = tt

pub any_copied : {E : Type 0} (version : Version) (r : Result Examined E) (base : List ℕ) (db : Database) (copies : CacheContents) → db.schema ≡ schema_of version → IfOk r (IsFor base db) → OnOk r (HasCopied version base db copies) → IfOk r (λ it. HasCopiedIf it base db copies)
any_copied version (Ok it) base db copies has told copied = copied_any version it base db copies has told copied
any_copied version (Err e) base db copies has told copied = tt

-- tables with further rows of `setting` hold no store
altered_copied : (base : List ℕ) (db : Database) (version : Version) (rows : TableRows) (it : Examined) (copies : CacheContents) → Is db (Altered version rows) → IsFor base db it → HasCopiedIf it base db copies
altered_copied base db version rows (Stands found count) copies is told = absurd (altered_stand base db version rows is found told.0 told.2 told.1)
altered_copied base db version rows Empty copies is told = tt
altered_copied base db version rows WrongVersion copies is told = tt
altered_copied base db version rows (Damaged id) copies is told = tt
altered_copied base db version rows Foreign copies is told = tt

pub none_copied : {E : Type 0} (base : List ℕ) (db : Database) (version : Version) (rows : TableRows) (r : Result Examined E) (copies : CacheContents) → Is db (Altered version rows) → IfOk r (λ it. (db : Database) → Is db (Altered version rows) → IsFor base db it) → IfOk r (λ it. HasCopiedIf it base db copies)
none_copied base db version rows r copies is told = IfOk-weaker r _ _ (λ it told. altered_copied base db version rows it copies is (told db is)) told

-- ---- a shelf over the tables

pub opened_over : (base : List ℕ) (old mid new : State) (count rows : ℕ) → Examines base old mid (Stands Two count) → IsTrue new.is_open
    → ((store : Store) → StandsIn base mid store → length store.audit ≡ count → IsKeptIn base new rows store) → (store : Store) × HasOpened base old.now new rows store
opened_over base old mid new count rows told opened kept = (
  told.is.0,
  record {
    is_open = opened;
    kept = kept told.is.0 (λ o. subst (λ (db : Database). StandsFor base db told.is.0) (sym (told.untouched.unchanged (told.untouched.was_open o)).0.now_is) told.is.1) told.is.3;
    opens = inr (Two, told.is.1, told.is.2);
  },
)

pub opened_begun : (base : List ℕ) (old mid new : State) (rows : ℕ) → Examines base old mid Empty → IsTrue mid.is_open → IsTrue new.is_open → (mid.now.schema ≡ no_schema → IsKeptIn base new rows no_store) → (store : Store) × HasOpened base old.now new rows store
opened_begun base old mid new rows told opened still kept = (
  no_store,
  record {
    is_open = still;
    kept = kept (ap (λ (db : Database). db.schema) (told.untouched.unchanged (told.untouched.was_open opened)).0.now_is ∙ told.is);
    opens = inl (told.is, refl);
  },
)

-- tables of version 1 that hold a store hold it when they are migrated
pub stands_migrated : (base : List ℕ) (old new : Database) (store : Store) → Migrates old new → StandsForOld base old store → StandsFor base new store
stands_migrated base old new store moves stands = record {
  entries = stands.entries;
  resources = stands.resources;
  sound = stands.sound;
  keyed = stands.keyed;
  tables = moves.migrated (lists_of stands.entries store.audit) stands.tables;
  may = any_may store.resources;
}
  where
    any_may : (cs : List Content) → All (MayHave Two) cs
    any_may [] = All-nil (MayHave Two)
    any_may (c ∷ cs) = All-cons (MayHave Two) c cs tt (any_may cs)

pub opened_migrated : (base : List ℕ) (old mid new : State) (count : ℕ) → Examines base old mid (Stands One count) → Became mid new Migrates → (store : Store) × HasOpened base old.now new count store
opened_migrated base old mid new count told became =
    let now = (told.untouched.unchanged (told.untouched.was_open became.was_open)).0.now_is in
    let here = subst (λ (db : Database). StandsForOld base db told.is.0) (sym now) told.is.1 in (
      told.is.0,
      record {
        is_open = became.is_open;
        kept = record { stored = λ _. record { stands = λ _. stands_migrated base mid.now new.now told.is.0 became.changed here; settled = λ _. became.settled }; rows_are = told.is.3 };
        opens = inr (One, told.is.1, told.is.2);
      },
    )

-- the resources of each store of an opened shelf were copied
pub copied_over : (base own : List ℕ) (old mid new : State) (count rows : ℕ) (copies : CacheContents) (store : Store) → own ≡ base → Examines base old mid (Stands Two count) → IsTrue old.is_open → new ≡ mid → HasCopied Two base old.now copies → HasCleanDisk new → IsKeptIn own new rows store
    → HasCached store.resources copies
copied_over base own old mid new count rows copies store is told opened same copied clean kept =
    let still = (told.untouched.unchanged opened).0 in
    let here = (kept.stored clean).stands (subst (λ (s : State). IsTrue s.is_open) (sym same) still.is_open) in
    copied store (rows_are Two base old.now store (subst (λ b. StandsFor b old.now store) is (subst (λ (db : Database). StandsFor own db store) (ap (λ (s : State). s.now) same ∙ still.now_is) here)))

-- also those of a shelf over tables that were migrated
pub copied_migrated : (base own : List ℕ) (old mid new : State) (count rows : ℕ) (copies : CacheContents) (store : Store) → own ≡ base → Examines base old mid (Stands One count) → IsTrue old.is_open → Became mid new Migrates → HasCopied One base old.now copies → HasCleanDisk new → IsKeptIn own new rows store
    → HasCached store.resources copies
copied_migrated base own old mid new count rows copies store is told opened became copied clean kept =
    let now = (told.untouched.unchanged opened).0.now_is in
    let here = subst (λ b. StandsFor b new.now store) is ((kept.stored clean).stands became.is_open) in
    let was = subst (λ (db : Database). StandsForOld base db told.is.0) (sym now) told.is.1 in
    let tables = became.changed.same (lists_of was.entries told.is.0.audit) (lists_of here.entries store.audit) was.tables here.tables in
    copied store (record {
      entries = here.entries;
      resources = here.resources;
      sound = here.sound;
      keyed = here.keyed;
      tables = subst (λ (db : Database). AreIn One db (lists_of here.entries store.audit)) now tables;
    })

-- ---- what an opening leaves

-- what is untouched rests
pub rests_untouched : (old new : State) → IsUntouched old new → Rests old new
rests_untouched old new same = record {
  was_open = same.was_open;
  now = λ o. inl (same.unchanged (same.was_open o)).0.now_is;
  committed = λ o. (same.unchanged (same.was_open o)).0.committed_is;
}

-- ---- what a crash leaves

pub untouched_survives : (base : List ℕ) (a b : State) → Survives a b (λ _. ⊥) → Survives a b (LeavesBegun base a)
untouched_survives base a b = survives_weaker a b _ _ (λ _ db none. absurd none)

pub begun_survives : (base : List ℕ) (a b c : State) → (HasCleanDisk b → IsUntouched a b) → (HasCleanDisk b → a.now.schema ≡ no_schema)
    → Survives a b (λ _. ⊥) → Survives b c (Leaves Begins b.now) → Survives a c (LeavesBegun base a)
begun_survives base a b c same empty one two =
    survives_then a b c _ _ _ (λ _ db none. absurd none) (λ clean db begins.
    (let before = clean_before b c two.clean clean in inl (
      empty before,
      (begins.0, begins.1, λ opened. begins.2 (ap (λ (d : Database). d.schema) ((same before).unchanged opened).0.now_is ∙ empty before) base),
    ))) one two

pub migrated_survives : (base : List ℕ) (a b c : State) (count : ℕ) → (HasCleanDisk b → Examines base a b (Stands One count)) → Survives a b (λ _. ⊥) → Survives b c (Leaves Migrates b.now) → Survives a c (LeavesBegun base a)
migrated_survives base a b c count told one two =
    survives_then a b c _ _ _ (λ _ db none. absurd none) (λ clean db moves.
    (let here = told (clean_before b c two.clean clean) in inr (
      here.is.1.tables.schema,
      (moves.0, moves.1, λ opened store stands. stands_migrated base b.now moves.0 store moves.2 (subst (λ (d : Database). StandsForOld base d store) (sym (here.untouched.unchanged opened).0.now_is) stands)),
    ))) one two

-- where nothing was done, all rests
pub rests_same : (s : State) → Rests s s
rests_same s = record { was_open = λ o. o; now = λ _. inl refl; committed = λ _. refl }

-- what was untouched before rests as it did
pub rests_behind : (a b c : State) → IsUntouched a b → Rests b c → Rests a c
rests_behind a b c same rests = record {
  was_open = λ o. same.was_open (rests.was_open o);
  now = λ o. (let still = (same.unchanged (same.was_open (rests.was_open o))).0 in go still.now_is still.committed_is (rests.now o));
  committed = λ o. rests.committed o ∙ (same.unchanged (same.was_open (rests.was_open o))).0.committed_is;
}
  where
    go : b.now ≡ a.now → b.committed ≡ a.committed → (c.now ≡ b.now) ⊎ (c.now ≡ b.committed) → (c.now ≡ a.now) ⊎ (c.now ≡ a.committed)
    go now committed (inl e) = inl (e ∙ now)
    go now committed (inr e) = inr (e ∙ committed)

-- what was undone rests
pub undone_rests : (old new : State) → Undoes old new → Rests old new
undone_rests old new undone = record { was_open = undone.was_open; now = λ o. inr (undone.now o); committed = undone.committed }

-- ---- several clauses of a result

pub if_all : {T E : Type 0} (r : Result T E) (P Q R S : T → Type 0) → ((x : T) → P x → Q x → R x → S x) → IfOk r P → IfOk r Q → IfOk r R → IfOk r S
if_all (Ok x) P Q R S f p q s = f x p q s
if_all (Err e) P Q R S f p q s = tt

pub err_both : {T E : Type 0} (r : Result T E) (P Q R : E → Type 0) → ((e : E) → P e → Q e → R e) → IfErr r P → IfErr r Q → IfErr r R
err_both (Ok x) P Q R f p q = tt
err_both (Err e) P Q R f p q = f e p q
