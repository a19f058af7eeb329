-- What the rows of a database tell of why it can't be used.
use Rattle.std.proofs.Common.{◌≡◌, ℕ, true, false, IsTrue, Result, Ok, Err, IfOk, OnErr, inl, ap, subst, ◌∙◌, arith, List}
use Rattle.std.specs.Prelude.{Option, Some, None, All, IsPermutation}
use Rattle.std.specs.Option.{is_some}
use Rattle.std.proofs.lemmas.List.Elements.{All-contains, All-nil, Contains-get_or}
use Rattle.std.proofs.lemmas.List.Sorted.{IsPermutation-sym, Contains-permutation}
use Rattle.sqlite.specs.declared.error.Error.{Error}
use Rattle.sqlite.specs.Effect.{Database}
use Rattle.sqlite.specs.Order.{Row}
use Rattle.sqlite.specs.State.{State, HasCleanDisk, Survives}
use Rattle.sqlite.proofs.StateLemmas.{survives_then}
use Rattle.scim_store_tables.specs.Tables.{schema_of}
use Rattle.scim_store_tables.specs.Reading.{Rests, SparesIn, HasTablesIn, shown_in}
use Rattle.scim_store_tables.specs.declared.versions.Version.{Version}
use Rattle.scim_store_tables.specs.declared.queries.Table.{Table}
use Rattle.scim_store_tables.specs.declared.queries.Table.TheVariants as table
use Rattle.scim_store_tables.specs.declared.database_kinds.TableRows.{TableRows}
use Rattle.scim_store_tables.specs.declared.database_kinds.DatabaseKind.TheVariants.{Tables}
use Rattle.scim_store_tables.specs.Whole.{AreRowsOf, IsUntouched, IsReading}
use Rattle.scim_store_tables.proofs.Facts.{if_then, tables_rows}
use Rattle.scim_store_rows.specs.Auditing.{TellsCount}
use Rattle.scim_store_causes.specs.Ids.{HasId, HasRowWithoutId, HaveAllIds, HasReadRowWithoutId, shown_rows}
use Rattle.scim_store_causes.specs.Audit.{HasValidAudit, HasInvalidAudit}
use Rattle.scim_store_causes.specs.Causes.{ExplainsRows, ExplainsTables}
use Rattle.scim_store_causes.specs.code.Looks.{ShowsSame, Looks}
use Rattle.scim_store_causes.specs.declared.unusable_causes.UnusableCause.{UnusableCause}
use Rattle.scim_store_causes.proofs.LookLemmas.{shows_unchanged, shows_both, shows_rests, rests_both}

-- ---- each table has ids

pub have_all_ids : (rows : TableRows) → All HasId rows.resources.items → All HasId rows.names.items → All HasId rows.members.items → All HasId rows.secrets.items → HaveAllIds rows
have_all_ids rows resources names members secrets table.Resource = resources
have_all_ids rows resources names members secrets table.Taken = names
have_all_ids rows resources names members secrets table.Member = members
have_all_ids rows resources names members secrets table.Secret = secrets
have_all_ids rows resources names members secrets table.Setting = All-nil HasId
have_all_ids rows resources names members secrets table.Audit = All-nil HasId

-- ---- the rows that were read are those that the tables show

-- what holds of each row of one order holds of each row of another
all_permuted : (P : Row → Type 0) (xs ys : List Row) → IsPermutation xs ys → All P ys → All P xs
all_permuted P xs ys same all k d low = All-contains P ys _ all (Contains-permutation xs ys _ same (Contains-get_or xs k d low))

without_permuted : (xs ys : List Row) → IsPermutation xs ys → HasRowWithoutId ys → HasRowWithoutId xs
without_permuted xs ys same (row, within, none) = (row, Contains-permutation ys xs row (IsPermutation-sym xs ys same) within, none)

module _ (v : Version) (db : Database) (rows : TableRows) (are : AreRowsOf (shown_in v db) rows) where
  pub shown_without : (t : Table) → HasReadRowWithoutId rows t → HasRowWithoutId (shown_rows v db t)
  shown_without table.Resource has = without_permuted _ _ are.resources.same has
  shown_without table.Taken has = without_permuted _ _ are.names.same has
  shown_without table.Member has = without_permuted _ _ are.members.same has
  shown_without table.Secret has = without_permuted _ _ are.secrets.same has
  shown_without table.Setting has = has
  shown_without table.Audit has = has

  pub shown_ids : HaveAllIds rows → (t : Table) → All HasId (shown_rows v db t)
  shown_ids all table.Resource = all_permuted HasId _ _ are.resources.same (all table.Resource)
  shown_ids all table.Taken = all_permuted HasId _ _ are.names.same (all table.Taken)
  shown_ids all table.Member = all_permuted HasId _ _ are.members.same (all table.Member)
  shown_ids all table.Secret = all_permuted HasId _ _ are.secrets.same (all table.Secret)
  shown_ids all table.Setting = all table.Setting
  shown_ids all table.Audit = all table.Audit

-- ---- the audit, when it is counted

-- What counting the audit tells.
abbrev pub IsCounted : Database → Option ℕ → Type 0
IsCounted db None = HasInvalidAudit db
IsCounted db (Some count) = HasValidAudit db

counted : (old new : State) (count : Option ℕ) → TellsCount old new count → IsCounted old.now count
counted old new None told = (told.rows, told.are, told.counts)
counted old new (Some count) told = (told.rows, count, told.are, told.counts)

pub counted_looks : (v : Version) (old new : State) (r : Result (Option ℕ) Error) → (old.in_transaction ≡ false → new.in_transaction ≡ false) → SparesIn v old new → (HasCleanDisk new → HasTablesIn v old → IfOk r (TellsCount old new)) → (HasCleanDisk new → HasTablesIn v old → OnErr r (Rests old new)) → Looks v IsCounted old new r
counted_looks v old new r mode spares told rests = record {
  mode = mode;
  spares = spares;
  told = λ clean has. if_then r _ _ (λ count it. (shows_unchanged old new it.unchanged, counted old new count it)) (told clean has);
  rests = rests;
}

pub counted_valid : (db : Database) (count : Option ℕ) → is_some count ≡ true → IsCounted db count → HasValidAudit db
counted_valid db None some is = absurd cc
counted_valid db (Some count) some is = is

pub counted_invalid : (db : Database) (count : Option ℕ) → is_some count ≡ false → IsCounted db count → HasInvalidAudit db
counted_invalid db None none is = is
counted_invalid db (Some count) none is = absurd cc

-- ---- the tables, when they were read

pub untouched_rests : (old new : State) → IsUntouched old new → Rests old new
untouched_rests old new same = record {
  was_open = same.was_open;
  now = λ o. inl (same.unchanged (same.was_open o)).0.now_is;
  committed = λ o. (same.unchanged (same.was_open o)).0.committed_is;
}

module _ (old mid new : State) (v : Version) (rows : TableRows) where
  reading_same : IsTrue old.is_open → IsReading old mid (Tables v rows) → ShowsSame old mid
  reading_same opened reading = shows_unchanged old mid (reading.untouched.unchanged opened)

  reading_has : IsTrue old.is_open → IsReading old mid (Tables v rows) → mid.now.schema ≡ schema_of v
  reading_has opened reading = ap (λ (d : Database). d.schema) (reading_same opened reading).now_is ∙ (tables_rows old.now v rows reading.is).0.schema

  pub rows_survive : (HasCleanDisk mid → IsTrue old.is_open) → (HasCleanDisk mid → IsReading old mid (Tables v rows)) → Survives old mid (λ _. ⊥) → SparesIn v mid new → Survives old new (λ _. ⊥)
  rows_survive opened reading one two =
      survives_then old mid new _ _ _ (λ _ db none. none) (λ clean db other.
      (let before : HasCleanDisk mid = omega (arith, clean, two.clean) in absurd (other (reading_has (opened before) (reading before))))) one two

  -- What the rows of the tables that were read tell.
  abbrev TellsRows : Database → Option UnusableCause → Type 0
  TellsRows db found = db.schema ≡ schema_of v → AreRowsOf (shown_in v db) rows → ExplainsRows v db found

  explained : IsReading old mid (Tables v rows) → (found : Option UnusableCause) → ExplainsRows v old.now found → ExplainsTables old.now found
  explained reading None told = (Tables v rows, reading.is, told)
  explained reading (Some cause) told = told

  pub rows_explained : (r : Result (Option UnusableCause) Error) → (HasCleanDisk mid → IsTrue old.is_open) → (HasCleanDisk mid → IsReading old mid (Tables v rows)) → Looks v TellsRows mid new r → HasCleanDisk new → IfOk r (ExplainsTables old.now)
  rows_explained r opened reading looks clean =
      let before : HasCleanDisk mid = omega (arith, clean, looks.spares.clean) in
      let read = reading before in
      let same = reading_same (opened before) read in
      let are = tables_rows old.now v rows read.is in
      if_then r _ _ (λ found told. explained read found (subst (λ (db : Database). TellsRows db found) same.now_is told.1 are.0.schema are.1)) (looks.told clean (λ _. reading_has (opened before) read))

  pub rows_rest : (r : Result (Option UnusableCause) Error) → (HasCleanDisk mid → IsTrue old.is_open) → (HasCleanDisk mid → IsReading old mid (Tables v rows)) → Looks v TellsRows mid new r → HasCleanDisk new → Rests old new
  rows_rest r opened reading looks clean =
      let before : HasCleanDisk mid = omega (arith, clean, looks.spares.clean) in
      let read = reading before in
      let same = reading_same (opened before) read in
      let has : HasTablesIn v mid = λ _. reading_has (opened before) read in
      go r same (looks.told clean has) (looks.rests clean has)
    where
      go : (r : Result (Option UnusableCause) Error) → ShowsSame old mid → IfOk r (λ x. ShowsSame mid new × TellsRows mid.now x) → OnErr r (Rests mid new) → Rests old new
      go (Ok x) same told rests = shows_rests old new (shows_both old mid new same told.0)
      go (Err e) same told rests = rests_both old mid new (shows_rests old mid same) rests
