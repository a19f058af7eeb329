-- What the statements of the migration make of the tables.
use Rattle.std.proofs.Common.{◌≡◌, ℕ, pos, codes, [], ◌∷◌, ◌++◌, map, true, Ok, Err, Result, OnOk, IsTrue, refl, sym, subst, ◌∙◌, arith}
use Rattle.std.specs.Prelude.{IsPermutation, replicate}
use Rattle.sqlite.specs.declared.error.Error.{Error}
use Rattle.sqlite.specs.Cast.{cast, cast_row}
use Rattle.sqlite.specs.Edit.{IsNoIndex}
use Rattle.sqlite.specs.Effect.{Database}
use Rattle.sqlite.specs.Kind.TheVariants.{Integer}
use Rattle.sqlite.specs.Order.{Row, column}
use Rattle.sqlite.specs.Table.{Table}
use Rattle.sqlite.specs.Term.{eval_all}
use Rattle.sqlite.specs.State.{State, ExecutesInside}
use Rattle.scim_store_tables.specs.Tables.{old_schema, setting_table, secret_table}
use Rattle.scim_store_tables.specs.Lists.{IsTableOf, Lists, AreOld, Are, pair, triple, entry, has_text, without, version_values}
use Rattle.scim_store_tables.specs.Migrating.{Migrates}
use Rattle.scim_store_tables.specs.code.Changes.{Turns}
use Rattle.scim_store_tables.specs.code.Migrating.{AddsSecret, SetsVersion, MayAddSecret, MaySetVersion}
use Rattle.scim_store_tables.specs.code.Opening.{creation}
use Rattle.scim_store_tables.specs.declared.queries.Table.TheVariants.{Secret}
use Rattle.scim_store_tables.specs.declared.versions.Version.TheVariants.{One, Two}
use Rattle.scim_store_tables.proofs.ChangeLemmas.{cast_int, updated, inside}
use Rattle.scim_store_tables.proofs.OpeningLemmas.{creates, creates_secret, secret_defined, empty_table}
use Rattle.scim_store_tables.proofs.TableLemmas.{turned_among, no_index_2, no_index_4, no_index_6, no_index_8, no_index_9}
use Rattle.scim_store_tables.proofs.TestLemmas.{text_of, passes_version}
use Rattle.scim_store_tables.proofs.WholeLemmas.{none_among}
use Rattle.scim_store_tables.proofs.TextLemmas.{set_version_text, version_tests, version_columns, sets_version}

-- the table is added
pub adds_secret : (old new : State) (r : Result ℕ Error) → ExecutesInside 0 (creation Secret) [] old new r → OnOk r (IsTrue new.in_transaction × MayAddSecret old.now new.now)
adds_secret old new (Err e) h = tt
adds_secret old new (Ok count) h = (
  h.1.mode,
  λ has. (let it = creates old_schema secret_table (creation Secret) creates_secret secret_defined refl old new count has h.0 in record { schema_is = it.schema_is; empty = it.empty; others = it.others }),
)

-- the row of the version becomes that of version 2
version_turned : (a b : Database) (turned : Row → Row) → ((r : Row) → has_text 0 (codes "version") (pair r) ≡ true → turned r ≡ cast Integer (column r 0) ∷ version_values Two)
    → (count : ℕ) → Turns 0 (λ r. has_text 0 (codes "version") (pair r)) turned count a b → IsTableOf pair (a.trees 0) (version_values One ∷ []) → IsTableOf pair (b.trees 0) (version_values Two ∷ [])
version_turned a b turned turns count step of =
    let it = turned_among pair 0 a b (has_text 0 (codes "version")) turned (λ r. cast Integer (column r 0)) (version_values Two) (version_values One ∷ []) turns (λ n. refl) count step of in
    subst (λ n. IsTableOf pair (b.trees 0) (replicate n (version_values Two) ++ without (has_text 0 (codes "version")) (version_values One ∷ []))) it.0 it.1

pub sets_version_row : (old new : State) (r : Result ℕ Error) → ExecutesInside 0 set_version_text [] old new r → OnOk r (IsTrue new.in_transaction × MaySetVersion old.now new.now)
sets_version_row old new r =
    let table : Table = record setting_table { tree = 0 } in
    let turned : Row → Row = λ r. cast_row table (eval_all version_columns ([] ∷ r ∷ [])) in
    inside set_version_text [] old new r (λ count h has of.
    let step = updated old new set_version_text [] table has 0 version_tests version_columns sets_version (λ tally does. does) of.keys count h in
    let named = subst (λ test. Turns 0 test turned count old.now new.now) (λ i r. passes_version r i) step in
    record {
      schema_is = step.schema ∙ has;
      version = version_turned old.now new.now turned (λ r is. rw (text_of (codes "version") (column r 1) is, cast_int (pos 2))) count named of;
      others = λ t other bare. step.others t other (subst (λ s. IsNoIndex s t) (sym has) bare);
    })

module _ (a b c : Database) (adds : MayAddSecret a b) (sets : MaySetVersion b c) (lists : Lists) (are : AreOld a lists) where
  added : AddsSecret a b
  added = adds are.schema

  set : SetsVersion b c
  set = sets added.schema_is (subst (λ rows. IsTableOf pair rows (version_values One ∷ [])) (sym added.others.0) are.version)

  -- the rows of the other tables stay
  resources_stay : c.trees 2 ≡ a.trees 2
  resources_stay = set.others 2 (λ e. omega arith) no_index_2 ∙ added.others.1.0

  taken_stay : c.trees 4 ≡ a.trees 4
  taken_stay = set.others 4 (λ e. omega arith) no_index_4 ∙ added.others.1.1.0

  member_stay : c.trees 6 ≡ a.trees 6
  member_stay = set.others 6 (λ e. omega arith) no_index_6 ∙ added.others.1.1.1.0

  audit_stay : c.trees 8 ≡ a.trees 8
  audit_stay = set.others 8 (λ e. omega arith) no_index_8 ∙ added.others.1.1.1.1.0

  no_secret : c.trees 9 ≡ []
  no_secret = set.others 9 (λ e. omega arith) no_index_9 ∙ added.empty

  migrated : Are c lists
  migrated = record {
    schema = set.schema_is;
    version = set.version;
    resources = subst (λ rows. IsTableOf triple rows lists.resources) (sym resources_stay) are.resources;
    taken = subst (λ rows. IsTableOf triple rows lists.taken) (sym taken_stay) are.taken;
    member = subst (λ rows. IsTableOf pair rows lists.member) (sym member_stay) are.member;
    audit = subst (λ rows. IsPermutation (map entry rows) lists.audit) (sym audit_stay) are.audit;
    secret = subst (IsTableOf pair (c.trees 9)) (sym are.secret) (empty_table pair (c.trees 9) no_secret);
  }

  same : (other : Lists) → Are c other → AreOld a other
  same other has = record {
    schema = are.schema;
    version = are.version;
    resources = subst (λ rows. IsTableOf triple rows other.resources) resources_stay has.resources;
    taken = subst (λ rows. IsTableOf triple rows other.taken) taken_stay has.taken;
    member = subst (λ rows. IsTableOf pair rows other.member) member_stay has.member;
    audit = subst (λ rows. IsPermutation (map entry rows) other.audit) audit_stay has.audit;
    secret = none_among other.secret (subst (λ rows. IsPermutation (map pair rows) other.secret) no_secret has.secret.same);
  }

-- both steps migrate
pub migrates : (a b c : Database) → MayAddSecret a b → MaySetVersion b c → Migrates a c
migrates a b c adds sets = record {
  migrated = λ lists are. migrated a b c adds sets lists are;
  same = λ lists other are has. same a b c adds sets lists are other has;
}
