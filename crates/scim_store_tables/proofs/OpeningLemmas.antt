-- What CREATE TABLE and the first INSERT make of a database.
use Rattle.std.proofs.Common.{◌≡◌, ℕ, ℤ, pos, codes, ◌≤◌, List, [], ◌∷◌, map, Bool, true, false, cond, length, None, Ok, Err, Result, OnOk, IsTrue, refl, sym, ap, subst, ◌∙◌, arith}
use Rattle.std.proofs.lemmas.List.Sorted.{IsPermutation-refl}
use Rattle.sqlite_trees.proofs.ListLemmas.{IsPermutation-same}
use Rattle.sqlite.specs.declared.types.Value.TheVariants.{Null, Int, Text}
use Rattle.sqlite_trees.specs.declared.store.Store.{Ghosts}
use Rattle.sqlite.specs.declared.error.Error.{Error}
use Rattle.sqlite.specs.declared.transaction.Transaction.{Transaction}
use Rattle.sqlite.specs.Order.{Row}
use Rattle.sqlite.specs.Schema.{Schema}
use Rattle.sqlite.specs.Table.{Table}
use Rattle.sqlite.specs.Term.{Term, lit}
use Rattle.sqlite.specs.Tree.{put_row, has_rowid}
use Rattle.sqlite.specs.Compile.{table_defined_by}
use Rattle.sqlite.specs.Command.TheVariants.{CreateTable, Insert}
use Rattle.sqlite.specs.Source.TheVariants.{Values}
use Rattle.sqlite.specs.Change.{created, next_tree, KeepsRows}
use Rattle.sqlite.specs.Does.{Tally, Does, lacks_sequence}
use Rattle.sqlite.specs.Effect.{Database}
use Rattle.sqlite.specs.Edit.{next_rowid, IsNoIndex}
use Rattle.sqlite.specs.State.{State, Writes, mode_of, Executes, ExecutesInside}
use Rattle.sqlite.specs.Listing.{understood}
use Rattle.sqlite_tied.specs.Compute.{everything}
use Rattle.sqlite.proofs.Callers.{IsPlain, command_of, statement_of, runs_as}
use Rattle.scim_store_tables.specs.Tables.{no_schema, setting_table, resource_table, taken_table, member_table, audit_table, secret_table, old_schema, store_schema}
use Rattle.scim_store_tables.specs.Lists.{IsTableOf, Are, no_rows, pair, entry, version_values}
use Rattle.scim_store_tables.specs.code.Opening.{schema_1, schema_2, schema_3, schema_4, IsMade, IsBefore, IsBehind, creation}
use Rattle.scim_store_tables.specs.Steps.{DoesIn, Makes}
use Rattle.scim_store_tables.specs.declared.queries.Table.{Table as Name}
use Rattle.scim_store_tables.specs.declared.queries.Table.TheVariants.{Setting, Resource, Taken, Member, Audit, Secret}
use Rattle.scim_store_tables.specs.declared.versions.Version.TheVariants.{Two}
use Rattle.scim_store_tables.proofs.ChangeLemmas.{went, same_value, cast_null, cast_int, puts, inside}
use Rattle.scim_store_tables.proofs.StepLemmas.{does_then}
use Rattle.scim_store_tables.proofs.TableLemmas.{no_index_2, no_index_4, no_index_6, no_index_8, no_index_9}

-- ---- what the texts mean

pub setting_defined : table_defined_by (creation Setting) ≡ Ok setting_table
unfolding understood everything
setting_defined = refl

pub resource_defined : table_defined_by (creation Resource) ≡ Ok resource_table
unfolding understood everything
resource_defined = refl

pub taken_defined : table_defined_by (creation Taken) ≡ Ok taken_table
unfolding understood everything
taken_defined = refl

pub member_defined : table_defined_by (creation Member) ≡ Ok member_table
unfolding understood everything
member_defined = refl

pub audit_defined : table_defined_by (creation Audit) ≡ Ok audit_table
unfolding understood everything
audit_defined = refl

pub secret_defined : table_defined_by (creation Secret) ≡ Ok secret_table
unfolding understood everything
secret_defined = refl

-- a text that makes a table
pub record IsCreate (schema : Schema) (text : List ℕ) : Type 0 where
  pub command : command_of (understood schema text) ≡ CreateTable
  pub text_is : statement_of text (understood schema text) ≡ text
  pub plain : IsPlain (understood schema text)

pub creates_setting : IsCreate no_schema (creation Setting)
unfolding understood everything
creates_setting = record { command = refl; text_is = refl; plain = (refl, refl) }

pub creates_resource : IsCreate schema_1 (creation Resource)
unfolding understood everything
creates_resource = record { command = refl; text_is = refl; plain = (refl, refl) }

pub creates_taken : IsCreate schema_2 (creation Taken)
unfolding understood everything
creates_taken = record { command = refl; text_is = refl; plain = (refl, refl) }

pub creates_member : IsCreate schema_3 (creation Member)
unfolding understood everything
creates_member = record { command = refl; text_is = refl; plain = (refl, refl) }

pub creates_audit : IsCreate schema_4 (creation Audit)
unfolding understood everything
creates_audit = record { command = refl; text_is = refl; plain = (refl, refl) }

pub creates_secret : IsCreate old_schema (creation Secret)
unfolding understood everything
creates_secret = record { command = refl; text_is = refl; plain = (refl, refl) }

abbrev pub version_text : List ℕ
version_text = codes "INSERT INTO setting (name, number) VALUES ('version', 2)"

abbrev pub version_terms : List Term
version_terms = lit Null ∷ lit (Text (codes "version")) ∷ lit (Int (pos 2)) ∷ []

pub version_is : command_of (understood store_schema version_text) ≡ Insert 0 (Values version_terms 3)
unfolding understood everything
version_is = refl

pub version_plain : IsPlain (understood store_schema version_text)
unfolding understood everything
version_plain = (refl, refl)

-- ---- the tables

module _ (schema : Schema) (table : Table) (text : List ℕ) (is : IsCreate schema text) (defined : table_defined_by text ≡ Ok table) (plain : lacks_sequence (created schema table) ≡ false) where
  pub record Creates (old new : Database) : Type 0 where
    pub schema_is : new.schema ≡ created schema table
    pub empty : new.trees (next_tree schema) ≡ []
    pub others : KeepsRows schema.tables old.trees new.trees

  pub creates : (old new : State) (count : ℕ) → old.now.schema ≡ schema → Executes text [] old new (Ok count) → Creates old.now new.now
  creates old new count has h =
      let w = subst (λ t. Writes old new None CreateTable t [] count) is.text_is (runs_as text [] old new schema has CreateTable is.command is.plain count h) in
      let all = went w.changed in
      let first = went all.1 in
      let made = first.1 in
      let both : Ok made.table ≡ Ok table = sym made.defined ∙ defined in
      let same : made.table ≡ table = same_value both in
      let schema_is : first.0.schema ≡ created schema table = made.is ∙ ap (λ s. created s made.table) has ∙ ap (created schema) same in
      let bare : lacks_sequence first.0.schema ≡ false = ap lacks_sequence schema_is ∙ plain in
      let now : new.now ≡ first.0 = ap (λ (p : Tally × Database). p.1) (same_value all.2) ∙ same_value (rw bare at first.2) in
      record {
        schema_is = ap (λ (d : Database). d.schema) now ∙ schema_is;
        empty = ap (λ (d : Database). d.trees (next_tree schema)) now ∙ subst (λ s. first.0.trees (next_tree s) ≡ []) has made.empty;
        others = subst (λ (d : Database). KeepsRows schema.tables old.now.trees d.trees) (sym now) (subst (λ (s : Schema). KeepsRows s.tables old.now.trees first.0.trees) has made.others);
      }

-- at Ok the table is made behind those in front of it
abbrev pub MakesTable : Name → State → State → Result ℕ Error → Type 0
MakesTable table old new r = OnOk r (IsTrue new.in_transaction × (IsBefore table old.now → IsBehind table new.now))

makes_setting : (old new : State) (r : Result ℕ Error) → ExecutesInside 0 (creation Setting) [] old new r → MakesTable Setting old new r
makes_setting old new (Err e) h = tt
makes_setting old new (Ok count) h = (
  h.1.mode,
  λ was.
      (let it = creates no_schema setting_table (creation Setting) creates_setting setting_defined refl old new count was h.0 in record { schema_is = it.schema_is; none = (it.empty, tt) }),
)

makes_resource : (old new : State) (r : Result ℕ Error) → ExecutesInside 0 (creation Resource) [] old new r → MakesTable Resource old new r
makes_resource old new (Err e) h = tt
makes_resource old new (Ok count) h = (
  h.1.mode,
  λ was.
      (let it = creates schema_1 resource_table (creation Resource) creates_resource resource_defined refl old new count was.schema_is h.0 in
      record { schema_is = it.schema_is; none = (it.empty, (it.others.0 ∙ was.none.0, tt)) }),
)

makes_taken : (old new : State) (r : Result ℕ Error) → ExecutesInside 0 (creation Taken) [] old new r → MakesTable Taken old new r
makes_taken old new (Err e) h = tt
makes_taken old new (Ok count) h = (
  h.1.mode,
  λ was.
      (let it = creates schema_2 taken_table (creation Taken) creates_taken taken_defined refl old new count was.schema_is h.0 in
      record { schema_is = it.schema_is; none = (it.empty, (it.others.1.0 ∙ was.none.0, (it.others.0 ∙ was.none.1.0, tt))) }),
)

makes_member : (old new : State) (r : Result ℕ Error) → ExecutesInside 0 (creation Member) [] old new r → MakesTable Member old new r
makes_member old new (Err e) h = tt
makes_member old new (Ok count) h = (
  h.1.mode,
  λ was.
      (let it = creates schema_3 member_table (creation Member) creates_member member_defined refl old new count was.schema_is h.0 in
      record { schema_is = it.schema_is; none = (it.empty, (it.others.1.1.0 ∙ was.none.0, (it.others.1.0 ∙ was.none.1.0, (it.others.0 ∙ was.none.1.1.0, tt)))) }),
)

makes_audit : (old new : State) (r : Result ℕ Error) → ExecutesInside 0 (creation Audit) [] old new r → MakesTable Audit old new r
makes_audit old new (Err e) h = tt
makes_audit old new (Ok count) h = (
  h.1.mode,
  λ was.
      (let it = creates schema_4 audit_table (creation Audit) creates_audit audit_defined refl old new count was.schema_is h.0 in
      record { schema_is = it.schema_is; none = (it.empty, (it.others.1.1.1.0 ∙ was.none.0, (it.others.1.1.0 ∙ was.none.1.0, (it.others.1.0 ∙ was.none.1.1.0, (it.others.0 ∙ was.none.1.1.1.0, tt))))) }),
)

makes_secret : (old new : State) (r : Result ℕ Error) → ExecutesInside 0 (creation Secret) [] old new r → MakesTable Secret old new r
makes_secret old new (Err e) h = tt
makes_secret old new (Ok count) h = (
  h.1.mode,
  λ was.
      (let it = creates old_schema secret_table (creation Secret) creates_secret secret_defined refl old new count was.schema_is h.0 in
      record { schema_is = it.schema_is; none = (it.empty, (it.others.1.1.1.1.0 ∙ was.none.0, (it.others.1.1.1.0 ∙ was.none.1.0, (it.others.1.1.0 ∙ was.none.1.1.0, (it.others.1.0 ∙ was.none.1.1.1.0, (it.others.0 ∙ was.none.1.1.1.1.0, tt)))))) }),
)

pub makes_table : (table : Name) (old new : State) (r : Result ℕ Error) → ExecutesInside 0 (creation table) [] old new r → MakesTable table old new r
makes_table Setting = makes_setting
makes_table Resource = makes_resource
makes_table Taken = makes_taken
makes_table Member = makes_member
makes_table Audit = makes_audit
makes_table Secret = makes_secret

-- ---- the version

pub empty_table : (shows : Row → Row) (rows : List Row) → rows ≡ [] → IsTableOf shows rows []
empty_table shows rows none = subst (λ (r : List Row). IsTableOf shows r []) (sym none) (record { keys = record { keyed = tt; once = λ id. omega arith }; same = IsPermutation-refl [] })

one_once : (b : Bool) (r : Row) → length (cond b (r ∷ []) []) ≤ 1
one_once true r = omega arith
one_once false r = omega arith

one_row : (n : ℤ) (v : Row) → pair (Int n ∷ v) ≡ v → IsTableOf pair ((Int n ∷ v) ∷ []) (v ∷ [])
one_row n v shown = record { keys = record { keyed = (refl, tt); once = λ id. one_once (has_rowid id (Int n ∷ v)) (Int n ∷ v) }; same = IsPermutation-same _ _ (ap (λ x. x ∷ []) shown) }

pub notes_version : (old new : State) (count : ℕ) → IsMade store_schema (9 ∷ 8 ∷ 6 ∷ 4 ∷ 2 ∷ 0 ∷ []) old.now → Executes version_text [] old new (Ok count) → Are new.now no_rows
notes_version old new count was h =
    let has = was.schema_is in
    let command = Insert 0 (Values version_terms 3) in
    let w = runs_as version_text [] old new store_schema has command version_is version_plain count h in
    let text = statement_of version_text (understood store_schema version_text) in
    let table : Table = record setting_table { tree = 0 } in
    let row : Row = Int (next_rowid (old.now.trees 0)) ∷ version_values Two in
    let step = puts table old.step_limit (mode_of old) [] old.now has 0 version_terms 3 row w.tally new.now refl (rw (cast_null, cast_int (pos 2)))
    (subst (λ s. Does old.step_limit (mode_of old) [] (record old.now { schema = s }) text None command (Ok (w.tally, new.now))) has w.changed) in
    let rows : new.now.trees 0 ≡ row ∷ [] = step.rows ∙ ap (put_row row) was.none.1.1.1.1.1.0 in
    let none = λ (t : ℕ) (e : t ≡ 0 → ⊥) (bare : IsNoIndex store_schema t) (was : old.now.trees t ≡ []). step.others t e (subst (λ s. IsNoIndex s t) (sym has) bare) ∙ was in
    record {
      schema = step.schema ∙ has;
      version = subst (λ (r : List Row). IsTableOf pair r (version_values Two ∷ [])) (sym rows) (one_row (next_rowid (old.now.trees 0)) (version_values Two) refl);
      resources = empty_table _ _ (none 2 (λ e. omega arith) no_index_2 was.none.1.1.1.1.0);
      taken = empty_table _ _ (none 4 (λ e. omega arith) no_index_4 was.none.1.1.1.0);
      member = empty_table _ _ (none 6 (λ e. omega arith) no_index_6 was.none.1.1.0);
      audit = IsPermutation-same _ _ (ap (map entry) (none 8 (λ e. omega arith) no_index_8 was.none.1.0));
      secret = empty_table _ _ (none 9 (λ e. omega arith) no_index_9 was.none.0);
    }

pub notes_version_inside : (old new : State) (r : Result ℕ Error) → ExecutesInside 0 version_text [] old new r → OnOk r (IsTrue new.in_transaction × (IsMade store_schema (9 ∷ 8 ∷ 6 ∷ 4 ∷ 2 ∷ 0 ∷ []) old.now → Are new.now no_rows))
notes_version_inside old new r = inside version_text [] old new r (λ count h was. notes_version old new count was h)

-- one step behind another
pub makes_then : {S T U : Type 0} (g : Ghosts S) (a b c : Transaction S) (x : T) (r : Result U Error) (A B C : Database → Type 0)
    → DoesIn {E = Error} g a b (Ok x) (Makes A B) → DoesIn g b c r (Makes B C) → DoesIn g a c r (Makes A C)
makes_then g a b c x r A B C first second = does_then g a b c x r (Makes A B) (Makes B C) (Makes A C) first second (λ _ _ _ one two was. two (one was))
