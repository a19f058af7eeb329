-- A query on tables whose schema isn't known: it changes nothing, whatever the schema is.
use Rattle.std.proofs.Common.{◌≡◌, ◌≢◌, ◌≤◌, ◌⊎◌, ◌∙◌, ◌+◌, ℕ, List, [], length, Bool, true, false, Option, None, Ok, Err, Result, IsTrue, refl, sym, ap, subst, inl, inr, if◌then◌else◌}
use Rattle.std.specs.Prelude.{⊤, IsSome}
use Rattle.sqlite_ast.specs.declared.Select.{Select}
use Rattle.sqlite_ast.specs.declared.Statement.TheVariants as written
use Rattle.sqlite_syntax.specs.declared.statement.Parsed.{Parsed}
use Rattle.sqlite_schema.specs.declared.command.Command.{Command}
use Rattle.sqlite_schema.specs.declared.command.Command.TheVariants.{Select as Query, Insert, InsertOr, Update, Delete, CreateTable, CreateIndex, CreateView, DropTable, DropIndex, DropView, Begin, Commit, Rollback, Savepoint, Release, RollbackTo, Nothing, Rows}
use Rattle.sqlite_schema.specs.declared.command.Returning.{Returning}
use Rattle.sqlite_schema.specs.declared.schema.Schema.{Schema}
use Rattle.sqlite_resolve.specs.declared.compiled.Compiled.{Compiled}
use Rattle.sqlite_resolve.specs.declared.error.CompileError.{CompileError}
use Rattle.sqlite_resolve.specs.declared.error.CompileError.TheVariants.{NoSuchTable}
use Rattle.sqlite_resolve.specs.Lowering.{Checked, and_then}
use Rattle.sqlite_resolve.specs.Scope.{Name}
use Rattle.sqlite_resolve.specs.Compile.{compiled, first, meaning, planned, returning, timed, command, small, with_command}
use Rattle.sqlite_tied.specs.Compute.{everything}
use Rattle.sqlite_trees.specs.declared.error.StoreError.{StoreError}
use Rattle.sqlite_trees.specs.declared.error.StoreError.TheVariants.{OutOfMemory, Io, Corrupt, Full, Broken, Unstorable}
use Rattle.sqlite.specs.declared.error.Error.{Error}
use Rattle.sqlite.specs.declared.error.Error.TheVariants.{SqliteFailure, MultipleStatement, InvalidParameterCount, InvalidQuery}
use Rattle.sqlite.specs.declared.error.ErrorCode.TheVariants.{NoClock, TypeMismatch}
use Rattle.sqlite.specs.declared.types.Value.{Value}
use Rattle.sqlite.specs.Clock as clock
use Rattle.sqlite.specs.Effect.{Database, Reads, RefusesToRead}
use Rattle.sqlite.specs.Listing.{understood, reads_listing, listing_schema, is_select, if_select}
use Rattle.sqlite.specs.Order.{Row}
use Rattle.sqlite.specs.State.{State, HasCleanDisk, Survives, CommitsShowing, Shown, ShowsRows, FailsToQuery, FailsToShow, IsNotRun, IsUnchanged, store_error}
use Rattle.sqlite.specs.Tree.{Trees}
use Rattle.sqlite.proofs.StateLemmas.{survives_weaker}
use Rattle.scim_store_tables.specs.Looking.{version_text, IsResultOf, IsRefusedBy, BeginsWithVersion}
use Rattle.scim_store_tables.specs.code.Told.{OnlyLooks, TellsKnown, IsRefusal}
use Rattle.scim_store_tables.proofs.AnswerLemmas.{failed_rests}

-- ---- what the text is

-- the text is a query that doesn't read the time
abbrev pub IsQuery : Checked Parsed → Type 0
IsQuery (Ok p) = (query : Select) × (p.statement ≡ written.Select query) × (p.formats ≡ [])
IsQuery (Err e) = ⊤

pub asks_version : IsQuery (first version_text)
unfolding first everything
asks_version = (_, refl, refl)

-- ---- what it is compiled to

-- it shows what a query shows, and doesn't read the time, if it compiles
abbrev pub ReadsOnly : Result Compiled CompileError → Type 0
ReadsOnly (Ok c) = (c.returning ≡ None) × (c.formats ≡ [])
ReadsOnly (Err e) = ⊤

abbrev plan_by : List Name → Checked (Option Returning) → Checked Command → Checked (List Name × (Command × Option Returning))
plan_by formats shown made = and_then (and_then shown (λ s. and_then made (λ c. Ok (c, s)))) (λ found. Ok (formats, found))

abbrev compiled_by : Parsed → List Name → Checked (Option Returning) → Checked Command → Checked Compiled
compiled_by p formats shown made = and_then (plan_by formats shown made) (λ plan. Ok (with_command p plan))

query_reads : (p : Parsed) (made : Checked Command) → ReadsOnly (compiled_by p [] (Ok None) made)
query_reads p (Ok c) = (refl, refl)
query_reads p (Err e) = tt

formats_are : (schema : Schema) (p : Parsed) → (query : Select) × (p.statement ≡ written.Select query) × (p.formats ≡ []) → timed schema p.formats p.statement ≡ []
unfolding timed
formats_are schema p (query, is, none) = ap (λ s. timed schema p.formats s) is ∙ none

shown_is : (schema : Schema) (p : Parsed) (base : ℕ) → (query : Select) × (p.statement ≡ written.Select query) × (p.formats ≡ []) → returning schema base p.statement ≡ Ok None
unfolding returning
shown_is schema p base (query, is, none) = ap (returning schema base) is

compiled_reads : (schema : Schema) (text : List ℕ) → IsQuery (first text) → ReadsOnly (compiled schema text)
unfolding compiled planned meaning
compiled_reads schema text = go (first text)
  where
    go : (r : Checked Parsed) → IsQuery r → ReadsOnly (and_then r (λ p. and_then (planned schema p) (λ plan. Ok (with_command p plan))))
    go (Err e) asks = tt
    go (Ok p) asks =
        let formats = timed schema p.formats p.statement in
        let base = small p.names + small formats in
        subst (λ fs. ReadsOnly (compiled_by p fs (returning schema base p.statement) (command schema p.formats base p.statement))) (sym (formats_are schema p asks))
        (subst (λ shown. ReadsOnly (compiled_by p [] shown (command schema p.formats base p.statement))) (sym (shown_is schema p base asks)) (query_reads p _))

selected_reads : (r : Result Compiled CompileError) → ReadsOnly r → ReadsOnly (if_select r)
selected_reads (Err e) reads = tt
selected_reads (Ok c) reads = go (is_select c.command)
  where
    go : (b : Bool) → ReadsOnly (if b then Ok c else Err NoSuchTable)
    go true = reads
    go false = tt

pub understood_reads : (schema : Schema) (text : List ℕ) → IsQuery (first text) → ReadsOnly (understood schema text)
unfolding understood
understood_reads schema text asks = go (reads_listing schema text)
  where
    go : (b : Bool) → ReadsOnly (if b then if_select (compiled listing_schema text) else compiled schema text)
    go true = selected_reads _ (compiled_reads listing_schema text asks)
    go false = compiled_reads schema text asks

-- ---- what it does

not_invalid : (e : Error) → IsRefusal e → e ≢ InvalidQuery
not_invalid e (inl (fault, is)) same = absurd cc
not_invalid e (inr is) same = absurd cc

no_failure : (e : Error) → IsRefusal e → (cause : StoreError) → e ≢ store_error cause
no_failure e (inl (fault, is)) OutOfMemory same = absurd cc
no_failure e (inl (fault, is)) Io same = absurd cc
no_failure e (inl (fault, is)) Corrupt same = absurd cc
no_failure e (inl (fault, is)) Full same = absurd cc
no_failure e (inl (fault, is)) Broken same = absurd cc
no_failure e (inl (fault, is)) Unstorable same = absurd cc
no_failure e (inr is) OutOfMemory same = absurd cc
no_failure e (inr is) Io same = absurd cc
no_failure e (inr is) Corrupt same = absurd cc
no_failure e (inr is) Full same = absurd cc
no_failure e (inr is) Broken same = absurd cc
no_failure e (inr is) Unstorable same = absurd cc

module _ (sql : List ℕ) (params : Row) (old : State) (reads : ReadsOnly (understood old.now.schema sql)) where
  -- it commits nothing
  pub reading_survives : (new : State) → Survives old new (CommitsShowing sql params old) → Survives old new (λ _. ⊥)
  unfolding CommitsShowing
  reading_survives new = survives_weaker old new _ _ (λ _ db shown. none db shown)
    where
      none : (db : Trees) → ¬ CommitsShowing sql params old db
      none db h = absurd (let some = subst IsSome (subst ReadsOnly h.1.is reads).0 h.2 in cc)

  -- its answer leaves all as it was
  pub reading_unchanged : (new : State) (rows : List Row) → Shown sql params old new rows → IsUnchanged old new
  unfolding Shown
  reading_unchanged new rows h =
      let it = subst (ShowsRows old new sql h.0 (clock.timed params h.0.formats h.1.now) rows) (subst ReadsOnly h.1.is reads).0 h.2 in it.3

  -- and so does a refusal, which is no failure of the store
  pub refusal_unchanged : (new : State) (e : Error) → IsRefusal e → FailsToQuery sql params old new e → IsUnchanged old new
  unfolding FailsToQuery IsNotRun
  refusal_unchanged new e is (inl (inl refused)) = refused.1
  refusal_unchanged new e is (inl (inr fails)) = absurd (no_failure e is fails.0 fails.1)
  refusal_unchanged new e is (inr h) =
      let it = subst (FailsToShow old new sql h.0 (clock.timed params h.0.formats h.1.now) e) (subst ReadsOnly h.1.is reads).0 h.2 in it.3

-- its answer is that of the database
pub reading_result : (sql : List ℕ) (old new : State) (rows : List Row) → ReadsOnly (understood old.now.schema sql) → Shown sql [] old new rows → IsResultOf sql old.now rows
unfolding Shown
reading_result sql old new rows reads h =
    let plain = subst ReadsOnly h.1.is reads in
    let it = subst (ShowsRows old new sql h.0 (clock.timed [] h.0.formats h.1.now) rows) plain.0 h.2 in
    (h.0, it.0, h.1.is, it.1, subst (λ fs. Reads h.0.command it.0 (clock.timed [] fs h.1.now) rows) plain.1 it.2)

-- a refusal is one of a type
typed : (limit : Option ℕ) (command : Command) (db : Database) (params : Row) (e : Error) → IsRefusal e → RefusesToRead limit command db params e → RefusesToRead None command db params (SqliteFailure TypeMismatch)
typed limit (Query q names) db params e is (inl (same, wrong)) = inl (refl, wrong)
typed limit (Query q names) db params e (inl (fault, is)) (inr (inl (same, over))) = absurd cc
typed limit (Query q names) db params e (inr is) (inr (inl (same, over))) = absurd cc
typed limit (Query q names) db params e (inl (fault, is)) (inr (inr (same, limited))) = absurd cc
typed limit (Query q names) db params e (inr is) (inr (inr (same, limited))) = absurd cc
typed limit (Rows values width names) db params e (inl (fault, is)) (same, limited) = absurd cc
typed limit (Rows values width names) db params e (inr is) (same, limited) = absurd cc
typed limit (Insert at from) db params e is same = absurd (not_invalid e is same)
typed limit (InsertOr at how from clauses) db params e is same = absurd (not_invalid e is same)
typed limit (Update at q) db params e is same = absurd (not_invalid e is same)
typed limit (Delete at q) db params e is same = absurd (not_invalid e is same)
typed limit CreateTable db params e is same = absurd (not_invalid e is same)
typed limit (CreateIndex at) db params e is same = absurd (not_invalid e is same)
typed limit CreateView db params e is same = absurd (not_invalid e is same)
typed limit (DropTable at) db params e is same = absurd (not_invalid e is same)
typed limit (DropIndex at) db params e is same = absurd (not_invalid e is same)
typed limit (DropView at) db params e is same = absurd (not_invalid e is same)
typed limit Begin db params e is same = absurd (not_invalid e is same)
typed limit Commit db params e is same = absurd (not_invalid e is same)
typed limit Rollback db params e is same = absurd (not_invalid e is same)
typed limit (Savepoint name) db params e is same = absurd (not_invalid e is same)
typed limit (Release name) db params e is same = absurd (not_invalid e is same)
typed limit (RollbackTo name) db params e is same = absurd (not_invalid e is same)
typed limit Nothing db params e is same = absurd (not_invalid e is same)

pub reading_refused : (sql : List ℕ) (old new : State) (e : Error) → ReadsOnly (understood old.now.schema sql) → IsRefusal e → FailsToQuery sql [] old new e → IsRefusedBy sql old.now
unfolding FailsToQuery IsNotRun
reading_refused sql old new e reads is (inl (inl (inl (fault, none, same), kept))) = inl (fault, none)
reading_refused sql old new e reads is (inl (inl (inr (c, known, wrong), kept))) = absurd (not_so is wrong)
  where
    not_so : IsRefusal e → ((¬ (length sql ≤ c.tail)) × (e ≡ MultipleStatement)) ⊎ (((length {A = Value} [] ≢ length c.names) × (e ≡ InvalidParameterCount (length {A = Value} []) (length c.names))) ⊎ ((c.formats ≢ []) × (e ≡ SqliteFailure NoClock))) → ⊥
    not_so (inl (fault, r)) (inl (more, same)) = absurd cc
    not_so (inl (fault, r)) (inr (inl (more, same))) = absurd cc
    not_so (inl (fault, r)) (inr (inr (more, same))) = absurd cc
    not_so (inr r) (inl (more, same)) = absurd cc
    not_so (inr r) (inr (inl (more, same))) = absurd cc
    not_so (inr r) (inr (inr (more, same))) = absurd cc
reading_refused sql old new e reads is (inl (inr fails)) = absurd (no_failure e is fails.0 fails.1)
reading_refused sql old new e reads is (inr h) =
    let plain = subst ReadsOnly h.1.is reads in
    let it = subst (FailsToShow old new sql h.0 (clock.timed [] h.0.formats h.1.now) e) plain.0 h.2 in
    inr (h.0, it.0, h.1.is, it.1, typed old.step_limit h.0.command it.0 [] e is (subst (λ fs. RefusesToRead old.step_limit h.0.command it.0 (clock.timed [] fs h.1.now) e) plain.1 it.2))

-- ---- the look at a table `setting`

module _ (old new : State) (mode : old.in_transaction ≡ false → new.in_transaction ≡ false) (survives : Survives old new (CommitsShowing version_text [] old)) where
  reads : ReadsOnly (understood old.now.schema version_text)
  reads = understood_reads old.now.schema version_text asks_version

  pub look_told : (rows : List Row) (one : Bool) → (HasCleanDisk new → Shown version_text [] old new rows) → (IsTrue one → BeginsWithVersion rows) → (one ≡ false → ¬ BeginsWithVersion rows) → OnlyLooks TellsKnown old new (Ok one)
  look_told rows one shown is_one is_other = record {
    mode = mode;
    survives = reading_survives version_text [] old reads new survives;
    told = λ clean. (reading_unchanged version_text [] old reads new rows (shown clean), go one is_one is_other (reading_result version_text old new rows reads (shown clean)));
    rests = λ clean. tt;
  }
    where
      go : (one : Bool) → (IsTrue one → BeginsWithVersion rows) → (one ≡ false → ¬ BeginsWithVersion rows) → IsResultOf version_text old.now rows → TellsKnown old.now one
      go true is_one is_other result = (rows, result, is_one refl)
      go false is_one is_other result = inl (rows, result, is_other refl)

  pub look_refused : (e : Error) → IsRefusal e → (HasCleanDisk new → FailsToQuery version_text [] old new e) → OnlyLooks TellsKnown old new (Ok false)
  look_refused e is fails = record {
    mode = mode;
    survives = reading_survives version_text [] old reads new survives;
    told = λ clean. (refusal_unchanged version_text [] old reads new e is (fails clean), inr (reading_refused version_text old new e reads is (fails clean)));
    rests = λ clean. tt;
  }

  pub look_failed : (e : Error) → (HasCleanDisk new → FailsToQuery version_text [] old new e) → OnlyLooks TellsKnown old new (Err e)
  look_failed e fails = record {
    mode = mode;
    survives = reading_survives version_text [] old reads new survives;
    told = λ clean. tt;
    rests = λ clean. failed_rests version_text [] old new e (fails clean);
  }
