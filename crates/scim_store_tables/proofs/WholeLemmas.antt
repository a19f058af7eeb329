-- What was read of a database is what it is.
use Rattle.std.proofs.Common.{◌≡◌, ◌≢◌, ℕ, zero, suc, List, [], ◌∷◌, map, length, inl, inr, refl, sym, ap, subst, subst₂, ◌∙◌, arith}
use Rattle.std.specs.Prelude.{IsPermutation, Contains}
use Rattle.std.specs.List.{AllByRecursion}
use Rattle.std.proofs.lemmas.List.Sorted.{IsPermutation-sym, IsPermutation-trans, IsPermutation-refl, IsPermutation-map, length_permutation, Contains-permutation}
use Rattle.sqlite.specs.Effect.{Database}
use Rattle.sqlite.specs.Order.{Row, column}
use Rattle.sqlite.specs.Schema.{Schema}
use Rattle.sqlite.specs.State.{State, IsUnchanged}
use Rattle.scim_store_tables.specs.Tables.{old_schema, store_schema, schema_of}
use Rattle.scim_store_tables.specs.Lists.{Lists, AreIn, AreSecrets, version_values, pair, triple}
use Rattle.scim_store_tables.specs.Reading.{shown_in, shown_secrets, shown_settings, owner_first, group_first}
use Rattle.scim_store_tables.specs.Whole.{NamesVersion, NamesNoVersion, NamesAnother, HasFurtherSettings, HasVersion, AreSecretsKeyed, AreAllKeyed, AreInOrder, AreRowsOf, IsByNames, IsByRows, IsOfNone, IsReading, Is, AreNone}
use Rattle.scim_store_tables.specs.declared.database_kinds.TableRows.{TableRows}
use Rattle.scim_store_tables.specs.declared.database_kinds.DatabaseKind.{DatabaseKind}
use Rattle.scim_store_tables.specs.declared.database_kinds.DatabaseKind.TheVariants.{WrongVersion, Foreign, Altered, Tables}
use Rattle.scim_store_tables.specs.declared.versions.Version.{Version}
use Rattle.scim_store_tables.specs.declared.versions.Version.TheVariants.{One, Two}

-- ---- the version

schemas_differ : old_schema ≢ store_schema
schemas_differ same = absurd (let e : 5 ≡ 6 = ap (λ (s : Schema). length s.tables) same in cc)

-- a schema is of one version alone
pub same_version : (v w : Version) → schema_of v ≡ schema_of w → v ≡ w
same_version One One same = refl
same_version One Two same = absurd (schemas_differ same)
same_version Two One same = absurd (schemas_differ (sym same))
same_version Two Two same = refl

-- ---- the settings

module _ (v : Version) (db : Database) where
  -- the rows that were read are those that the table shows
  pub version_named : (rows : List Row) → IsPermutation (shown_settings db) rows → Contains rows (version_values v) → NamesVersion v db
  version_named rows are has = Contains-permutation _ _ (version_values v) (IsPermutation-sym _ _ are) has

  pub version_lacking : (rows : List Row) → IsPermutation (shown_settings db) rows → ¬ Contains rows (version_values v) → ¬ NamesVersion v db
  version_lacking rows are lacks has = lacks (Contains-permutation _ _ (version_values v) are has)

  -- the one row, if it is the only one
  pub version_alone : (rows : List Row) → AreInOrder [] (shown_settings db) rows → Contains rows (version_values v) → length rows ≡ 1 → HasVersion v db
  version_alone [] are has one = absurd cc
  version_alone (row ∷ []) are has one = subst (λ (r : Row). IsPermutation (shown_settings db) (r ∷ [])) (only has) are.same
    where
      only : Contains (row ∷ []) (version_values v) → row ≡ version_values v
      only (zero, within, at) = at
      only (suc k, within, at) = absurd (omega (arith, within))
  version_alone (row ∷ other ∷ rows) are has one = absurd (omega (arith, one))

  pub version_among : (rows : List Row) → AreInOrder [] (shown_settings db) rows → length rows ≢ 1 → ¬ HasVersion v db
  version_among rows are more version = more (sym (length_permutation _ _ (IsPermutation-trans _ _ _ (IsPermutation-sym _ _ are.same) version)))

-- ---- the table `secret`

secrets_shown : (v : Version) (db : Database) → AreSecretsKeyed v db → AreSecrets v db (shown_secrets v db)
secrets_shown One db keyed = refl
secrets_shown Two db keyed = record { keys = keyed; same = IsPermutation-refl _ }

secrets_keyed : (v : Version) (db : Database) (rows : List Row) → AreSecrets v db rows → AreSecretsKeyed v db
secrets_keyed One db rows are = tt
secrets_keyed Two db rows are = are.keys

secrets_same : (v : Version) (db : Database) (rows : List Row) → AreSecrets v db rows → IsPermutation (shown_secrets v db) rows
secrets_same One db rows none = subst (IsPermutation []) (sym none) (IsPermutation-refl [])
secrets_same Two db rows are = are.same

pub none_among : (rows : List Row) → IsPermutation [] rows → rows ≡ []
none_among [] same = refl
none_among (row ∷ rows) same = absurd (let few = length_permutation _ _ same in omega (arith, few))

secrets_held : (v : Version) (db : Database) (rows : List Row) → AreSecrets v db (shown_secrets v db) → IsPermutation (shown_secrets v db) rows → AreSecrets v db rows
secrets_held One db rows are same = none_among rows same
secrets_held Two db rows are same = record { keys = are.keys; same = same }

-- ---- what a database is

-- what the tables show, they hold
pub shown_are : (v : Version) (db : Database) → db.schema ≡ schema_of v → HasVersion v db → AreAllKeyed v db → AreIn v db (shown_in v db)
shown_are v db has version keyed = record {
  schema = has;
  version = record { keys = keyed.settings; same = version };
  resources = record { keys = keyed.resources; same = IsPermutation-refl _ };
  taken = record { keys = keyed.names; same = IsPermutation-refl _ };
  member = record { keys = keyed.members; same = IsPermutation-refl _ };
  audit = IsPermutation-refl _;
  secret = secrets_shown v db keyed.secrets;
}

-- what the rows told is what the database is
pub is_reading : (v : Version) (old new : State) (reading : DatabaseKind) → old.now.schema ≡ schema_of v → IsUnchanged old new × IsByRows v old.now reading → IsReading old new reading
is_reading v old new reading has told = record {
  is = inr (v, has, told.1);
  untouched = record { was_open = λ _. told.0.0.was_open; unchanged = λ _. told.0 };
}

-- the names of the tables alone never tell that they have rows
pub names_no_tables : {A : Type 0} (schema : Schema) (kind : DatabaseKind) (v : Version) (rows : TableRows) → IsByNames schema kind → kind ≡ Tables v rows → A
names_no_tables schema kind v rows by is = absurd (subst (IsByNames schema) is by)

-- a schema that is neither is of no version
pub of_none : (schema : Schema) → schema ≢ store_schema → schema ≢ old_schema → IsOfNone schema
of_none schema other old One = old
of_none schema other old Two = other

-- ---- a database that has no rows of ours

none_of_others : (db : Database) → IsOfNone db.schema → AreNone db
none_of_others db other v lists are = other v are.schema

module _ (v : Version) (db : Database) (has : db.schema ≡ schema_of v) where
  -- the tables are of the version of the schema
  here : (w : Version) (lists : Lists) → AreIn w db lists → AreIn v db lists
  here w lists are = subst (λ u. AreIn u db lists) (same_version w v (sym are.schema ∙ has)) are

  none_of_version : NamesNoVersion db → AreNone db
  none_of_version other w lists are = other w (Contains-permutation _ _ (version_values w) (IsPermutation-sym _ _ are.version.same) (0, omega arith, refl))

  none_of_another : NamesAnother v db → AreNone db
  none_of_another other w lists are = other.0 (Contains-permutation _ _ (version_values v) (IsPermutation-sym _ _ (here w lists are).version.same) (0, omega arith, refl))

  none_of_foreign : ¬ AreAllKeyed v db → AreNone db
  none_of_foreign other w lists are = (let it = here w lists are in other (record { settings = it.version.keys; resources = it.resources.keys; names = it.taken.keys; members = it.member.keys; secrets = secrets_keyed v db lists.secret it.secret }))

  none_of_altered : ¬ HasVersion v db → AreNone db
  none_of_altered other w lists are = other (here w lists are).version.same

-- a database of another version has none of our rows
pub other_none : (db : Database) → Is db WrongVersion → AreNone db
other_none db (inl is) = none_of_others db is.0
other_none db (inr (v, has, by)) = none_of_version v db has by

-- nor has a foreign one
pub foreign_none : (db : Database) → Is db Foreign → AreNone db
foreign_none db (inl is) = none_of_others db is.0
foreign_none db (inr (v, has, inl another)) = none_of_another v db has another
foreign_none db (inr (v, has, inr keyed)) = none_of_foreign v db has keyed.1

-- nor has one with further rows of `setting`
pub altered_none : (db : Database) (v : Version) (rows : TableRows) → Is db (Altered v rows) → AreNone db
altered_none db v rows (inl is) = none_of_others db is.0
altered_none db v rows (inr (w, has, by)) = none_of_altered w db has by.1.1

pub altered_rows : (db : Database) (v : Version) (rows : TableRows) → Is db (Altered v rows) → AreRowsOf (shown_in v db) rows
altered_rows db v rows (inl (other, inl by)) = absurd by.1
altered_rows db v rows (inl (other, inr by)) = absurd by.1
altered_rows db v rows (inr (w, has, by)) = subst (λ u. AreRowsOf (shown_in u db) rows) (sym by.0) by.2

pub altered_further : (db : Database) (v : Version) (rows : TableRows) → Is db (Altered v rows) → HasFurtherSettings v db
altered_further db v rows (inl (other, inl by)) = absurd by.1
altered_further db v rows (inl (other, inr by)) = absurd by.1
altered_further db v rows (inr (w, has, by)) = subst (λ u. HasFurtherSettings u db) (sym by.0) by.1

-- and one with the tables of a version has the rows that were read
pub tables_rows : (db : Database) (v : Version) (rows : TableRows) → Is db (Tables v rows) → AreIn v db (shown_in v db) × AreRowsOf (shown_in v db) rows
tables_rows db v rows (inl (other, inl by)) = absurd by.1
tables_rows db v rows (inl (other, inr by)) = absurd by.1
tables_rows db v rows (inr (w, has, by)) = subst (λ u. AreIn u db (shown_in u db) × AreRowsOf (shown_in u db) rows) (sym by.0) (by.1, by.2)

-- ---- rows and lists

-- the rows that were read are those of each lists that the database holds
pub rows_of : {v : Version} (db : Database) (lists : Lists) (rows : TableRows) → AreIn v db lists → AreRowsOf (shown_in v db) rows → AreRowsOf lists rows
rows_of {v} db lists rows are read = record {
  resources = reordered (shown_in v db).resources lists.resources _ are.resources.same read.resources;
  names = reordered _ _ _ (IsPermutation-map owner_first (shown_in v db).taken lists.taken are.taken.same) read.names;
  members = reordered _ _ _ (IsPermutation-map group_first (shown_in v db).member lists.member are.member.same) read.members;
  secrets = reordered _ _ _ (secrets_same v db lists.secret are.secret) read.secrets;
}
  where
    reordered : {places : List ℕ} (one other rows : List Row) → IsPermutation one other → AreInOrder places one rows → AreInOrder places other rows
    reordered one other rows alike read = record { same = IsPermutation-trans _ _ _ (IsPermutation-sym _ _ alike) read.same; order = read.order }

-- the columns of a unique name that stands behind its owner, in the order of their table
abbrev owner_last : Row → Row
owner_last v = column v 1 ∷ column v 2 ∷ column v 0 ∷ []

-- those of a member behind its group
abbrev group_last : Row → Row
group_last v = column v 1 ∷ column v 0 ∷ []

-- rows of three columns
abbrev pub AreTriples : List Row → Type 0
AreTriples = AllByRecursion (λ v. column v 0 ∷ column v 1 ∷ column v 2 ∷ [] ≡ v)

-- rows of two
abbrev pub ArePairs : List Row → Type 0
ArePairs = AllByRecursion (λ v. column v 0 ∷ column v 1 ∷ [] ≡ v)

names_back : (values : List Row) → AreTriples values → map owner_last (map owner_first values) ≡ values
names_back [] three = refl
names_back (v ∷ values) three = λ i. three.0 i ∷ names_back values three.1 i

members_back : (values : List Row) → ArePairs values → map group_last (map group_first values) ≡ values
members_back [] two = refl
members_back (v ∷ values) two = λ i. two.0 i ∷ members_back values two.1 i

triples : (rows : List Row) → AreTriples (map triple rows)
triples [] = tt
triples (r ∷ rows) = (refl, triples rows)

pairs : (rows : List Row) → ArePairs (map pair rows)
pairs [] = tt
pairs (r ∷ rows) = (refl, pairs rows)

-- the database holds each lists whose rows were read, and whose audit it shows
pub holds_lists : {v : Version} (db : Database) (lists : Lists) (rows : TableRows) → AreTriples lists.taken → ArePairs lists.member → AreIn v db (shown_in v db) → AreRowsOf (shown_in v db) rows → AreRowsOf lists rows → IsPermutation (shown_in v db).audit lists.audit → AreIn v db lists
holds_lists {v} db lists rows three two are read told audit = record {
  schema = are.schema;
  version = are.version;
  resources = record { keys = are.resources.keys; same = alike read.resources.same told.resources.same };
  taken = record {
    keys = are.taken.keys;
    same = subst₂ IsPermutation (names_back (shown_in v db).taken (triples (db.trees 4))) (names_back lists.taken three) (IsPermutation-map owner_last _ _ (alike read.names.same told.names.same));
  };
  member = record {
    keys = are.member.keys;
    same = subst₂ IsPermutation (members_back (shown_in v db).member (pairs (db.trees 6))) (members_back lists.member two) (IsPermutation-map group_last _ _ (alike read.members.same told.members.same));
  };
  audit = audit;
  secret = secrets_held v db lists.secret are.secret (alike read.secrets.same told.secrets.same);
}
  where
    alike : {one other rows : List Row} → IsPermutation one rows → IsPermutation other rows → IsPermutation one other
    alike a b = IsPermutation-trans _ _ _ a (IsPermutation-sym _ _ b)
