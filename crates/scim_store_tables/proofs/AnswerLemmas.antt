-- What the answer of a query says.
use Rattle.std.proofs.Common.{◌≡◌, inl, inr, ℕ, List, [], ◌∷◌, map, filter, Bool, Option, None, Some, Ok, Err, Result, IsTrue, refl, sym, subst, ◌∙◌}
use Rattle.std.specs.Prelude.{IsPermutation}
use Rattle.std.proofs.lemmas.List.Sorted.{IsPermutation-map, IsPermutation-trans, IsPermutation-sym}
use Rattle.sqlite_trees.proofs.ListLemmas.{map-map, filter-map, pull_back, IsPermutation-filter}
use Rattle.sqlite.specs.declared.types.Value.TheVariants.{Null}
use Rattle.sqlite.specs.declared.error.Error.{Error}
use Rattle.sqlite_schema.specs.declared.command.Returning.{Returning}
use Rattle.sqlite.specs.Clock.{timed}
use Rattle.sqlite.specs.Order.{Row, column}
use Rattle.sqlite.specs.Tree.{Trees}
use Rattle.sqlite.specs.Term.{Term, eval_all}
use Rattle.sqlite.specs.Program.{overlay}
use Rattle.sqlite.specs.Query.{Query, IsAnswer}
use Rattle.sqlite.specs.State.{State, Survives, CommitsShowing, Shown, ShowsRows, FailsToQuery, FailsToShow, IsNotRun, IsUnchanged, IsRolledBack}
use Rattle.sqlite.specs.Listing.{understood}
use Rattle.sqlite.specs.Given.{IsPlain}
use Rattle.sqlite_resolve.specs.declared.compiled.Compiled.{Compiled}
use Rattle.sqlite_resolve.specs.declared.error.CompileError.{CompileError}
use Rattle.sqlite.proofs.Callers.{reads_as, command_of, never_commits}
use Rattle.sqlite.proofs.StateLemmas.{survives_weaker}
use Rattle.sqlite_value.specs.declared.keys.Key.{Key}
use Rattle.scim_store_tables.specs.Tables.{schema_of}
use Rattle.scim_store_tables.specs.Reading.{Rests, SparesIn, Finds, IsTextOfFirst}
use Rattle.scim_store_tables.specs.declared.versions.Version.{Version}
use Rattle.scim_store_tables.specs.Asks.{asked, IsAsk, IsAnswered}
use Rattle.scim_store_tables.specs.Queries.{one_table}
use Rattle.scim_store_tables.proofs.QueryLemmas.{selected, passes, no_lets}

-- ---- a query that fails changes nothing, or the transaction is undone

pub unchanged_rests : (old new : State) → IsUnchanged old new → Rests old new
unchanged_rests old new same = record { was_open = λ _. same.0.was_open; now = λ _. inl same.0.now_is; committed = λ _. same.0.committed_is }

undone_rests : (old new : State) → IsRolledBack old new → Rests old new
undone_rests old new back = record { was_open = back.was_open; now = λ opened. inr (back.undone opened).0; committed = λ opened. (back.undone opened).1 }

pub failed_rests : (sql : List ℕ) (params : Row) (old new : State) (e : Error) → FailsToQuery sql params old new e → Rests old new
unfolding FailsToQuery IsNotRun
failed_rests sql params old new e (inl (inl refused)) = unchanged_rests old new refused.1
failed_rests sql params old new e (inl (inr fails)) = undone_rests old new fails.3
failed_rests sql params old new e (inr h) = go (timed params h.0.formats h.1.now) h.0.returning h.2
  where
    go : (full : Row) (o : Option Returning) → FailsToShow old new sql h.0 full e o → Rests old new
    go full None k = unchanged_rests old new k.3
    go full (Some what) (inl k) = unchanged_rests old new k.1
    go full (Some what) (inr k) = undone_rests old new k.3

-- ---- a query commits nothing

pub asks_spare : {v : Version} (sql : List ℕ) (params : Row) (old new : State) (q : Query) → IsAsk v sql q → Survives old new (CommitsShowing sql params old) → SparesIn v old new
asks_spare sql params old new q is = survives_weaker old new _ _ (λ _ db shown has. never_commits sql params old db (subst (λ s. IsPlain (understood s sql)) (sym has) is.plain) shown)

-- ---- an answer

pub shown_open : (sql : List ℕ) (params : Row) (old new : State) (rows : List Row) → Shown sql params old new rows → IsTrue old.is_open
unfolding Shown
shown_open sql params old new rows h = go (timed params h.0.formats h.1.now) h.0.returning h.2
  where
    go : (full : Row) (o : Option Returning) → ShowsRows old new sql h.0 full rows o → IsTrue old.is_open
    go full None k = k.3.0.was_open
    go full (Some what) k = k.1.shown.was_open

same_command : (r : Result Compiled CompileError) → command_of r ≡ asked r
same_command (Ok c) = refl
same_command (Err e) = refl

shown_same : (v : Version) (sql : List ℕ) (params : Row) (old new : State) (rows : List Row) → old.now.schema ≡ schema_of v → IsPlain (understood (schema_of v) sql) → Shown sql params old new rows → IsUnchanged old new
unfolding Shown
shown_same v sql params old new rows has plain h =
    let bare = subst (λ s. IsPlain (understood s sql)) (sym has) plain in
    let none = (subst IsPlain h.1.is bare).0 in
    let it = subst (ShowsRows old new sql h.0 (timed params h.0.formats h.1.now) rows) none h.2 in it.3

pub answered : {v : Version} (sql : List ℕ) (q : Query) (params : Row) (old new : State) (rows : List Row) → IsAsk v sql q → old.now.schema ≡ schema_of v → Shown sql params old new rows → IsAnswered q params old new rows
answered {v} sql q params old new rows is has h =
    let read = reads_as sql params old new (schema_of v) has _ (same_command (understood (schema_of v) sql) ∙ is.command) is.plain is.unlisted rows h in
    record { unchanged = shown_same v sql params old new rows has is.plain h; answer = read.answer Null }

-- ---- the columns that an answer shows

-- the rows that pass are those of the values that pass
pub passing : (shows : Row → Row) (test : Row → Bool) (rows values : List Row) → IsPermutation (map shows rows) values → IsPermutation (filter test values) (map shows (filter (λ r. test (shows r)) rows))
passing shows test rows values same = subst (λ xs. IsPermutation (filter test values) xs) (filter-map test shows rows) (IsPermutation-sym _ _ (IsPermutation-filter test _ _ same))

-- an answer has these columns of the values that pass a test
pub answered_columns : (t : ℕ) (tests project : List Term) (order : List (Term × Key)) (trees : Trees) (params : Row) (rows values : List Row) (shows : Row → Row) (test : Row → Bool) (out : Row → Row)
    → ((r : Row) → passes t tests project order params r ≡ test (shows r)) → ((r : Row) → eval_all project (params ∷ r ∷ []) ≡ out (shows r)) → IsPermutation (map shows (trees t)) values
    → IsAnswer (one_table t tests project order) (overlay trees []) params rows → IsPermutation (map out (filter test values)) rows
answered_columns t tests project order trees params rows values shows test out passes_as outs same a =
    let found = selected t tests project order (overlay trees []) params rows a in
    let here = subst (λ xs. IsPermutation (map (λ r. eval_all project (params ∷ r ∷ [])) (filter (passes t tests project order params) xs)) rows) (no_lets trees t) found in
    let chosen : map (λ r. eval_all project (params ∷ r ∷ [])) (filter (passes t tests project order params) (trees t)) ≡ map out (map shows (filter (λ r. test (shows r)) (trees t))) =
    (λ i. map (λ r. outs r i) (filter (λ r. passes_as r i) (trees t))) ∙ sym (map-map out shows _) in
    IsPermutation-trans _ _ _ (IsPermutation-map out _ _ (passing shows test (trees t) values same)) (subst (λ xs. IsPermutation xs rows) chosen here)

-- ---- the first row of an answer

first_back : (place : ℕ) (values : List Row) (found : Option (List ℕ)) → IsTextOfFirst 0 (map (λ v. let r : Row = column v place ∷ [] in r) values) found → IsTextOfFirst place values found
first_back place [] found h = h
first_back place (v ∷ values) found h = h

pub found_first : (place : ℕ) (values rows : List Row) (found : Option (List ℕ)) (old new : State) → IsUnchanged old new → IsPermutation (map (λ v. let r : Row = column v place ∷ [] in r) values) rows → IsTextOfFirst 0 rows found → Finds place values old new found
found_first place values rows found old new unchanged same first =
    let back = pull_back (λ v. let r : Row = column v place ∷ [] in r) (map (λ v. let r : Row = column v place ∷ [] in r) values) rows same values refl in
    record { unchanged = unchanged; ordered = back.0; same = back.1; first = first_back place back.0 found (subst (λ xs. IsTextOfFirst 0 xs found) back.2 first) }
