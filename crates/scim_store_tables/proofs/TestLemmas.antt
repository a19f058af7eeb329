-- What a test of a column tells.
use Rattle.std.proofs.Common.{◌≡◌, ℕ, ℤ, pos, List, [], ◌∷◌, codes, ◌&&◌, not, filter, Bool, true, false, Some, refl, sym, ap, ◌∙◌}
use Rattle.std.specs.Ordering.{is_eq, is_lt, is_ge, nat_cmp}
use Rattle.std.specs.Cmp.Lexicographic.{slice_cmp}
use Rattle.std.proofs.lemmas.Map.Text.{is_eq-slice_cmp}
use Rattle.std.proofs.lemmas.Slice.Eq.{bytes_eq-Decides}
use Rattle.sqlite.specs.declared.types.Value.{Value}
use Rattle.sqlite.specs.declared.types.Value.TheVariants.{Null, Int, Real, Text, Blob}
use Rattle.sqlite_sql.specs.declared.ops.BinaryOp.TheVariants as by
use Rattle.sqlite_sql.specs.declared.ops.CompareOp.TheVariants.{Eq, Ge, Lt}
use Rattle.sqlite.specs.Collation.TheVariants.{Binary}
use Rattle.sqlite.specs.Ops.{unary, binary, is_true, from_truth}
use Rattle.sqlite_sql.specs.declared.ops.UnaryOp.TheVariants.{ToNumeric}
use Rattle.sqlite.specs.Order.{Row, column, value_cmp}
use Rattle.sqlite.specs.Term.{Term, col}
use Rattle.sqlite.specs.Effect.{Database}
use Rattle.scim_store_tables.specs.Lists.{is_text, has_texts, triple, entry}
use Rattle.scim_store_tables.specs.Reading.{is_resource, is_between}
use Rattle.scim_store_tables.specs.code.Changes.{Takes}
use Rattle.scim_store_tables.specs.Queries.{is_column}
use Rattle.scim_store_tables.proofs.QueryLemmas.{passes}
use Rattle.scim_store_tables.proofs.TextLemmas.{key_tests, resource_tests, between_tests, version_tests, version_columns}

text_order : (a b : List ℕ) → value_cmp (Text a) (Text b) ≡ slice_cmp nat_cmp a b
unfolding value_cmp lib.Ieee.is_nan lib.Ieee.lt
text_order a b = refl

before_numbers : (n : ℤ) → false ≡ is_eq (value_cmp Null (Int n))
unfolding value_cmp lib.Ieee.is_nan lib.Ieee.lt
before_numbers n = refl

below_numbers : (first end : ℤ) → false ≡ (is_ge (value_cmp Null (Int first)) && is_lt (value_cmp Null (Int end)))
unfolding value_cmp lib.Ieee.is_nan lib.Ieee.lt
below_numbers first end = refl

told : (b : Bool) → is_true (from_truth (Some b)) ≡ b
told true = refl
told false = refl

-- a value is compared with a text
pub is_the_text : (v : Value) (text : List ℕ) → is_true (binary (by.Compare Eq Binary) v (Text text)) ≡ is_text text v
unfolding binary value_cmp lib.Ieee.is_nan lib.Ieee.lt
is_the_text Null text = refl
is_the_text (Int n) text = refl
is_the_text (Real x) text = refl
is_the_text (Text other) text = told (is_eq (slice_cmp nat_cmp other text))
is_the_text (Blob b) text = refl

-- a value that is the text
pub text_of : (text : List ℕ) (v : Value) → is_text text v ≡ true → v ≡ Text text
text_of text Null h = absurd cc
text_of text (Int n) h = absurd cc
text_of text (Real x) h = absurd cc
text_of text (Text t) h = ap (λ x. Text x) ((bytes_eq-Decides t text).0 (sym (is_eq-slice_cmp t text) ∙ h))
text_of text (Blob b) h = absurd cc

-- a value is compared with a number
pub is_the_number : (v : Value) (n : ℤ) → is_true (binary (by.Compare Eq Binary) v (Int n)) ≡ is_eq (value_cmp v (Int n))
unfolding binary
is_the_number Null n = before_numbers n
is_the_number (Int m) n = told (is_eq (value_cmp (Int m) (Int n)))
is_the_number (Real x) n = told (is_eq (value_cmp (Real x) (Int n)))
is_the_number (Text text) n = told (is_eq (value_cmp (Text text) (Int n)))
is_the_number (Blob b) n = told (is_eq (value_cmp (Blob b) (Int n)))

both : (p q : Bool) → (p && (q && true)) ≡ (p && q)
both true true = refl
both true false = refl
both false q = refl

one : (p : Bool) → (p && true) ≡ p
one true = refl
one false = refl

-- one column is tested
pub passes_text : (tree : ℕ) (text : List ℕ) (more r : Row) → passes tree (is_column 1 0 ∷ []) (col 1 0 ∷ []) [] (Text text ∷ more) r ≡ is_text text (column r 1)
passes_text tree text more r = one _ ∙ is_the_text (column r 1) text

-- the name of a setting is tested
pub passes_version : (r : Row) → passes 0 version_tests (col 1 0 ∷ version_columns) [] [] r ≡ is_text (codes "version") (column r 1)
passes_version r = one _ ∙ is_the_text (column r 1) (codes "version")

-- two columns are tested
pub passes_texts : (tree : ℕ) (first second : List ℕ) (r : Row) → passes tree key_tests (col 1 0 ∷ []) [] (Text first ∷ Text second ∷ []) r ≡ (is_text first (column r 1) && is_text second (column r 2))
passes_texts tree first second r = both _ _ ∙ (λ i. is_the_text (column r 1) first i && is_the_text (column r 2) second i)

same_number : (n : ℤ) → unary ToNumeric (Int n) ≡ Int n
unfolding unary
same_number n = refl

-- the id and the kind of a resource are tested
pub passes_resource : (id : List ℕ) (kind : ℕ) (project : List Term) (r : Row) → passes 2 resource_tests project [] (Text id ∷ Int (pos kind) ∷ []) r ≡ is_resource id kind (triple r)
passes_resource id kind project r = both _ _ ∙ (λ i. is_the_text (column r 1) id i && ((λ j. is_true (binary (by.Compare Eq Binary) (column r 2) (same_number (pos kind) j))) ∙ is_the_number (column r 2) (pos kind)) i)

-- a key of two texts is tested, in a query
pub passes_key : (tree : ℕ) (first second : List ℕ) (project : List Term) (r : Row) → passes tree key_tests project [] (Text first ∷ Text second ∷ []) r ≡ has_texts first second (triple r)
passes_key tree first second project r = both _ _ ∙ (λ i. is_the_text (column r 1) first i && is_the_text (column r 2) second i)

-- a value is compared with two numbers
between_told : (v : Value) (first end : ℤ) → (is_true (binary (by.Compare Ge Binary) v (Int first)) && is_true (binary (by.Compare Lt Binary) v (Int end))) ≡ (is_ge (value_cmp v (Int first)) && is_lt (value_cmp v (Int end)))
unfolding binary
between_told Null first end = below_numbers first end
between_told (Int m) first end = (λ i. told (is_ge (value_cmp (Int m) (Int first))) i && told (is_lt (value_cmp (Int m) (Int end))) i)
between_told (Real x) first end = (λ i. told (is_ge (value_cmp (Real x) (Int first))) i && told (is_lt (value_cmp (Real x) (Int end))) i)
between_told (Text t) first end = (λ i. told (is_ge (value_cmp (Text t) (Int first))) i && told (is_lt (value_cmp (Text t) (Int end))) i)
between_told (Blob b) first end = (λ i. told (is_ge (value_cmp (Blob b) (Int first))) i && told (is_lt (value_cmp (Blob b) (Int end))) i)

-- the number of a row of the audit is tested
pub passes_between : (first end : ℤ) (project : List Term) (r : Row) → passes 8 between_tests project [] (Int first ∷ Int end ∷ []) r ≡ is_between first end (entry r)
passes_between first end project r =
    both _ _ ∙ between_told (column r 0) first end

-- two tests that tell the same
pub takes_same : (tree : ℕ) (p q : Row → Bool) (old new : Database) → ((r : Row) → p r ≡ q r) → Takes tree p old new → Takes tree q old new
takes_same tree p q old new same step = record {
  schema = step.schema;
  rows = step.rows ∙ (λ i. filter (λ r. not (same r i)) (old.trees tree));
  others = step.others;
}
