-- What a statement on one table makes of its rows.
use Rattle.std.proofs.Common.{◌≡◌, ◌⊎◌, inl, inr, ℕ, ℤ, List, [], ◌∷◌, map, filter, drop, not, ◌&&◌, Bool, true, false, cond, length, ◌/◌, Option, None, Ok, Err, Result, OnOk, IfOk, IsTrue, refl, sym, ap, subst, ◌∙◌}
use Rattle.std.specs.Prelude.{IsPermutation, Some, unwrap_or}
use Rattle.std.proofs.lemmas.List.Sorted.{IsPermutation-map}
use Rattle.sqlite_trees.proofs.ListLemmas.{map-map}
use Rattle.sqlite.specs.declared.types.Value.{Value}
use Rattle.sqlite.specs.declared.types.Value.TheVariants.{Null, Int}
use Rattle.sqlite.specs.declared.error.Error.{Error}
use Rattle.sqlite.specs.Order.{Row}
use Rattle.sqlite.specs.Ops.{unary}
use Rattle.sqlite.specs.Kind.TheVariants.{Integer}
use Rattle.sqlite.specs.Source.TheVariants.{Values}
use Rattle.sqlite.specs.Command.{Command}
use Rattle.sqlite.specs.Command.TheVariants.{Insert, Update, Delete}
use Rattle.sqlite.specs.Edit.{edit_of, are_fresh, put_all, numbered, id_in, IsNoIndex}
use Rattle.sqlite.specs.Cast.{cast, cast_row}
use Rattle.sqlite.specs.Rowids.{Rowids}
use Rattle.sqlite.specs.Rowids.TheVariants.{Chosen, Given}
use Rattle.sqlite.specs.Does.{Tally, Does, OnRows, WritesRows}
use Rattle.sqlite.specs.Rows.{Written, Task, Inserts, Updates, Deletes, stamped, Counts, rowids_for}
use Rattle.sqlite_rules.specs.Action.{Writes as Wrote}
use Rattle.sqlite_rules.specs.Calls.{ids_of}
use Rattle.sqlite_schema.specs.declared.program.Program.{Program}
use Rattle.sqlite_schema.specs.declared.schema.Keys.TheVariants.{Enforced}
use Rattle.sqlite.specs.Table.{Table}
use Rattle.sqlite.specs.declared.run.Mode.{Mode}
use Rattle.sqlite.specs.Term.{Term, col, eval_all}
use Rattle.sqlite.specs.Tree.{Trees, rowid, put_row}
use Rattle.sqlite.specs.Effect.{Database, value_rows, Answers}
use Rattle.sqlite.specs.Program.{overlay}
use Rattle.sqlite.specs.State.{State, mode_of, Executes, ExecutesInside}
use Rattle.sqlite.specs.Listing.{understood}
use Rattle.sqlite.proofs.Callers.{runs_as, statement_of, one_step}
use Rattle.scim_store_tables.specs.Tables.{store_schema}
use Rattle.scim_store_tables.specs.Lists.{AreKeyed}
use Rattle.scim_store_tables.specs.code.Changes.{Puts, Takes, Turns}
use Rattle.scim_store_tables.specs.Queries.{one_table}
use Rattle.scim_store_tables.proofs.QueryLemmas.{selected, passes, no_lets}
use Rattle.scim_store_tables.proofs.RowidLemmas.{without_found}
use Rattle.scim_store_tables.proofs.StatementLemmas.{IsInsert, IsUpdate, IsDelete}

either : (b : Bool) (x : Value) → cond b x x ≡ x
either true x = refl
either false x = refl

pub cast_int : (n : ℤ) → cast Integer (Int n) ≡ Int n
unfolding unary
cast_int n = either _ (Int n)

pub cast_null : cast Integer Null ≡ Null
unfolding unary
cast_null = either _ Null

-- a part that gave a value did not stop on the way
pub went : {B E R : Type 0} {b : B} {Stops : E → Type 0} → ((stop : E) × Stops stop × (Ok b ≡ Err stop)) ⊎ R → R
went (inl stopped) = absurd (let e = stopped.2 in cc)
went (inr on) = on

pub same_value : {B E : Type 0} {a b : B} → ◌≡◌ {A = Result B E} (Ok a) (Ok b) → a ≡ b
same_value e = cc

-- ---- a statement on the rows of one table

module _ (task : Task) where
  open task use {keys, schema, table, params}

  -- with no RETURNING, the database has the trees that the statement wrote, and its rows are counted
  pub on_rows : (mode : Mode) (command : Command) (db : Trees) (tally : Tally) (after : Database) → OnRows task mode None command db (Ok (tally, after))
      → (w : Written) × WritesRows task db command (Ok w) × (after ≡ record { schema = task.schema; trees = w.trees }) × (tally.rows ≡ Some (length w.rows))
  on_rows mode command db tally after h =
      let done = went h in
      let ended = same_value (went (went done.2).2).2 in
      (done.0, done.1, ap (λ (p : Tally × Database). p.1) ended, ap (λ (p : Tally × Database). p.0.rows) ended)

  uncounts : table.is_counted ≡ false → (mid next : Trees) (counter : Option Row) (top : ℤ) → Counts task mid counter top (Ok next) → next ≡ mid
  uncounts uncounted mid next counter top h = same_value (rw uncounted at h)

  numbers : table.is_counted ≡ false → (top : ℤ) → rowids_for table top ≡ Chosen
  numbers uncounted top = rw uncounted

  pub inserts : table.is_counted ≡ false → (terms : List Term) (width : ℕ) (db : Trees) (w : Written) → Inserts task (Values terms width) db (Ok w)
      → (rows : List Row) × (rows ≡ value_rows (stamped table params) width (length terms / width) terms) × Wrote schema keys db (edit_of db table [] Chosen 0 rows) (Ok w.trees)
  inserts uncounted terms width db w h =
      let given = went h in
      let counted = went given.2 in
      let written = went counted.2 in
      let ended = went written.2 in
      let trees : written.0 ≡ w.trees = sym (ap (λ (it : Written). it.trees) (same_value ended.2) ∙ uncounts uncounted written.0 ended.0 counted.0 _ ended.1) in
      let edit = subst (λ (r : Rowids). Wrote schema keys db (edit_of db table [] r 0 given.0) (Ok written.0)) (numbers uncounted _) written.1 in
      (given.0, given.1.1, subst (λ (t : Trees). Wrote schema keys db (edit_of db table [] Chosen 0 given.0) (Ok t)) trees edit)

  pub deletes : (q : Program) (db : Trees) (w : Written) → Deletes task q db (Ok w)
      → (rows : List Row) × Answers (record { schema = task.schema; trees = db }) q params rows × Wrote schema keys db (edit_of db table (ids_of rows) Given 0 []) (Ok w.trees)
  deletes q db w h =
      let found = went h in
      let written = went found.2 in
      let trees : written.0 ≡ w.trees = sym (ap (λ (it : Written). it.trees) (same_value written.2)) in
      (found.0, found.1, subst (λ (t : Trees). Wrote schema keys db (edit_of db table (ids_of found.0) Given 0 []) (Ok t)) trees written.1)

  pub updates : (q : Program) (db : Trees) (w : Written) → Updates task q params db (Ok w)
      → (rows : List Row) × Answers (record { schema = task.schema; trees = db }) q params rows × Wrote schema keys db (edit_of db table (ids_of rows) Given 1 rows) (Ok w.trees) × (w.rows ≡ (edit_of db table (ids_of rows) Given 1 rows).news)
  updates q db w h =
      let found = went h in
      let written = went found.2 in
      let ended = same_value written.2 in
      let trees : written.0 ≡ w.trees = sym (ap (λ (it : Written). it.trees) ended) in
      (found.0, found.1, subst (λ (t : Trees). Wrote schema keys db (edit_of db table (ids_of found.0) Given 1 found.0) (Ok t)) trees written.1, ap (λ (it : Written). it.rows) ended)

-- ---- one statement on one of the six tables

abbrev pub task_on : Table → Option ℕ → Row → Task
task_on table limit params = record { limit = limit; keys = Enforced; schema = store_schema; table = table; params = params }

fresh_alone : (b : Bool) → (not b && true) ≡ true → b ≡ false
fresh_alone true h = absurd cc
fresh_alone false h = refl

-- no rowid is chosen where each is given
given_all : (rows news : List Row) → numbered Given rows news ≡ news
given_all rows [] = refl
given_all rows (r ∷ news) = ap (λ (l : List Row). r ∷ l) (given_all (put_row r rows) news)

module _ (table : Table) (limit : Option ℕ) (mode : Mode) (params : Row) (old : Database) (has : old.schema ≡ store_schema) where
  abbrev task : Task
  task = task_on table limit params

  -- an INSERT of one row
  pub puts : (place : ℕ) (terms : List Term) (width : ℕ) (row : Row) (tally : Tally) (new : Database) → table.is_counted ≡ false
      → (edit_of old.trees table [] Chosen 0 (value_rows (stamped table params) width (length terms / width) terms)).news ≡ row ∷ []
      → OnRows task mode None (Insert place (Values terms width)) old.trees (Ok (tally, new)) → Puts table.tree row old new
  puts place terms width row tally new uncounted is h =
      let db = old.trees in
      let done = on_rows task mode (Insert place (Values terms width)) db tally new h in
      let put = inserts task uncounted terms width db done.0 done.1 in
      let edit = edit_of db table [] Chosen 0 put.0 in
      let news : edit.news ≡ row ∷ [] = ap (λ all. (edit_of db table [] Chosen 0 all).news) put.1 ∙ is in
      let applied = one_step store_schema Enforced db done.0.trees edit refl put.2 in
      record {
        schema = ap (λ (d : Database). d.schema) done.2 ∙ sym has;
        rows = ap (λ (d : Database). d.trees table.tree) done.2 ∙ applied.rows ∙ ap (put_all (db table.tree)) news;
        fresh = fresh_alone _ (subst (λ rows. are_fresh (db table.tree) rows ≡ true) news applied.fresh);
        others = λ t other bare. ap (λ (d : Database). d.trees t) done.2 ∙ applied.others t other (subst (λ s. IsNoIndex s t) has bare);
      }

  -- a DELETE of the rows that pass tests
  pub takes : (place : ℕ) (tests : List Term) (tally : Tally) (new : Database) → AreKeyed (old.trees table.tree)
      → OnRows task mode None (Delete place (record { lets = []; body = one_table table.tree tests (col 1 0 ∷ []) [] })) old.trees (Ok (tally, new))
      → Takes table.tree (passes table.tree tests (col 1 0 ∷ []) [] params) old new
  takes place tests tally new keys h =
      let db = old.trees in
      let q : Program = record { lets = []; body = one_table table.tree tests (col 1 0 ∷ []) [] } in
      let test = passes table.tree tests (col 1 0 ∷ []) [] params in
      let done = on_rows task mode (Delete place q) db tally new h in
      let taken = deletes task q db done.0 done.1 in
      let found = selected table.tree tests (col 1 0 ∷ []) [] (overlay db []) params taken.0 (taken.1.answer Null) in
      let here : IsPermutation (map (λ r. let v : Row = rowid r ∷ [] in v) (filter test (db table.tree))) taken.0 =
      subst (λ rows. IsPermutation (map (λ r. let v : Row = rowid r ∷ [] in v) (filter test rows)) taken.0) (no_lets db table.tree) found in
      let ids : IsPermutation (map (λ r. id_in (rowid r)) (filter test (db table.tree))) (ids_of taken.0) =
      subst (λ xs. IsPermutation xs (ids_of taken.0)) (map-map _ _ _) (IsPermutation-map (λ (r : Row). id_in (rowid r)) _ _ here) in
      let applied = one_step store_schema Enforced db done.0.trees (edit_of db table (ids_of taken.0) Given 0 []) refl taken.2 in
      record {
        schema = ap (λ (d : Database). d.schema) done.2 ∙ sym has;
        rows = ap (λ (d : Database). d.trees table.tree) done.2 ∙ applied.rows ∙ without_found test (db table.tree) (ids_of taken.0) keys ids;
        others = λ t other bare. ap (λ (d : Database). d.trees t) done.2 ∙ applied.others t other (subst (λ s. IsNoIndex s t) has bare);
      }

  -- an UPDATE of the rows that pass tests
  pub turns : (place : ℕ) (tests columns : List Term) (tally : Tally) (new : Database) → AreKeyed (old.trees table.tree)
      → OnRows task mode None (Update place (record { lets = []; body = one_table table.tree tests (col 1 0 ∷ columns) [] })) old.trees (Ok (tally, new))
      → Turns table.tree (passes table.tree tests (col 1 0 ∷ columns) [] params) (λ r. cast_row table (eval_all columns (params ∷ r ∷ []))) (unwrap_or tally.rows 0) old new
  turns place tests columns tally new keys h =
      let db = old.trees in
      let q : Program = record { lets = []; body = one_table table.tree tests (col 1 0 ∷ columns) [] } in
      let test = passes table.tree tests (col 1 0 ∷ columns) [] params in
      let done = on_rows task mode (Update place q) db tally new h in
      let wrote = updates task q db done.0 done.1 in
      let edit = edit_of db table (ids_of wrote.0) Given 1 wrote.0 in
      let found = selected table.tree tests (col 1 0 ∷ columns) [] (overlay db []) params wrote.0 (wrote.1.answer Null) in
      let here : IsPermutation (map (λ r. eval_all (col 1 0 ∷ columns) (params ∷ r ∷ [])) (filter test (db table.tree))) wrote.0 =
      subst (λ rows. IsPermutation (map (λ r. eval_all (col 1 0 ∷ columns) (params ∷ r ∷ [])) (filter test rows)) wrote.0) (no_lets db table.tree) found in
      let ids : IsPermutation (map (λ r. id_in (rowid r)) (filter test (db table.tree))) (ids_of wrote.0) =
      subst (λ xs. IsPermutation xs (ids_of wrote.0)) (map-map _ _ _) (IsPermutation-map (λ (r : Row). id_in (rowid r)) _ _ here) in
      let left = without_found test (db table.tree) (ids_of wrote.0) keys ids in
      let news : edit.news ≡ map (λ s. cast_row table (drop 1 s)) wrote.0 = given_all _ _ in
      let applied = one_step store_schema Enforced db done.0.trees edit refl wrote.2 in
      record {
        schema = ap (λ (d : Database). d.schema) done.2 ∙ sym has;
        news = edit.news;
        same = subst (λ xs. IsPermutation (map (λ r. cast_row table (eval_all columns (params ∷ r ∷ []))) (filter test (db table.tree))) xs) (sym news)
            (subst (λ xs. IsPermutation xs (map (λ s. cast_row table (drop 1 s)) wrote.0)) (map-map _ _ _) (IsPermutation-map (λ s. cast_row table (drop 1 s)) _ _ here));
        counted = ap (λ o. unwrap_or o 0) done.3 ∙ ap length wrote.3;
        keyed = applied.keyed;
        fresh = subst (λ rows. are_fresh rows edit.news ≡ true) left applied.fresh;
        rows = ap (λ (d : Database). d.trees table.tree) done.2 ∙ applied.rows ∙ ap (λ rows. put_all rows edit.news) left;
        others = λ t other bare. ap (λ (d : Database). d.trees t) done.2 ∙ applied.others t other (subst (λ s. IsNoIndex s t) has bare);
      }

-- ---- a text

-- `at` finds the table by its place in the schema, and is `λ tally h. h` where both are written out
module _ (old new : State) (text : List ℕ) (params : Row) (table : Table) (has : old.now.schema ≡ store_schema) where
  abbrev DoesAs : Command → Tally → Type 0
  DoesAs command tally = Does old.step_limit (mode_of old) params (record old.now { schema = store_schema }) (statement_of text (understood store_schema text)) None command (Ok (tally, new.now))

  abbrev FindsTable : Command → Type 0
  FindsTable command = (tally : Tally) → DoesAs command tally → OnRows (task_on table old.step_limit params) (mode_of old) None command old.now.trees (Ok (tally, new.now))

  pub inserted : (place : ℕ) (terms : List Term) (width : ℕ) (row : Row) → IsInsert text place terms width → table.is_counted ≡ false
      → (edit_of old.now.trees table [] Chosen 0 (value_rows (stamped table params) width (length terms / width) terms)).news ≡ row ∷ []
      → FindsTable (Insert place (Values terms width)) → (count : ℕ) → Executes text params old new (Ok count) → Puts table.tree row old.now new.now
  inserted place terms width row is uncounted news at count h =
      let command = Insert place (Values terms width) in
      let w = runs_as text params old new store_schema has command is.command is.plain count h in
      puts table old.step_limit (mode_of old) params old.now has place terms width row w.tally new.now uncounted news
      (at w.tally (subst (λ s. Does old.step_limit (mode_of old) params (record old.now { schema = s }) (statement_of text (understood store_schema text)) None command (Ok (w.tally, new.now))) has w.changed))

  pub deleted : (place : ℕ) (tests : List Term) → IsDelete text place table.tree tests → FindsTable (Delete place (record { lets = []; body = one_table table.tree tests (col 1 0 ∷ []) [] }))
      → AreKeyed (old.now.trees table.tree) → (count : ℕ) → Executes text params old new (Ok count) → Takes table.tree (passes table.tree tests (col 1 0 ∷ []) [] params) old.now new.now
  deleted place tests is at keys count h =
      let command = Delete place (record { lets = []; body = one_table table.tree tests (col 1 0 ∷ []) [] }) in
      let w = runs_as text params old new store_schema has command is.command is.plain count h in
      takes table old.step_limit (mode_of old) params old.now has place tests w.tally new.now keys
      (at w.tally (subst (λ s. Does old.step_limit (mode_of old) params (record old.now { schema = s }) (statement_of text (understood store_schema text)) None command (Ok (w.tally, new.now))) has w.changed))

  pub updated : (place : ℕ) (tests columns : List Term) → IsUpdate text place table.tree tests columns → FindsTable (Update place (record { lets = []; body = one_table table.tree tests (col 1 0 ∷ columns) [] }))
      → AreKeyed (old.now.trees table.tree) → (count : ℕ) → Executes text params old new (Ok count)
      → Turns table.tree (passes table.tree tests (col 1 0 ∷ columns) [] params) (λ r. cast_row table (eval_all columns (params ∷ r ∷ []))) count old.now new.now
  updated place tests columns is at keys count h =
      let command = Update place (record { lets = []; body = one_table table.tree tests (col 1 0 ∷ columns) [] }) in
      let w = runs_as text params old new store_schema has command is.command is.plain count h in
      subst (λ n. Turns table.tree (passes table.tree tests (col 1 0 ∷ columns) [] params) (λ r. cast_row table (eval_all columns (params ∷ r ∷ []))) n old.now new.now) (sym w.counted)
      (turns table old.step_limit (mode_of old) params old.now has place tests columns w.tally new.now keys
      (at w.tally (subst (λ s. Does old.step_limit (mode_of old) params (record old.now { schema = s }) (statement_of text (understood store_schema text)) None command (Ok (w.tally, new.now))) has w.changed)))

-- ---- the same, inside a transaction

pub inside : (text : List ℕ) (params : Row) (old new : State) (r : Result ℕ Error) {P : Type 0} → ((count : ℕ) → Executes text params old new (Ok count) → P)
    → ExecutesInside 0 text params old new r → OnOk r (IsTrue new.in_transaction × P)
inside text params old new (Err e) does h = tt
inside text params old new (Ok count) does h = (h.1.mode, does count h.0)

pub inside_by : (text : List ℕ) (params : Row) (old new : State) (r : Result ℕ Error) {P : ℕ → Type 0} → ((count : ℕ) → Executes text params old new (Ok count) → P count)
    → ExecutesInside 0 text params old new r → IfOk r (λ count. IsTrue new.in_transaction × P count)
inside_by text params old new (Err e) does h = tt
inside_by text params old new (Ok count) does h = (h.1.mode, does count h.0)
