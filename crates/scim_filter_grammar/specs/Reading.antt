-- Reading a filter from left to right, up to the first fault.
use Rattle.std.specs.Prelude.{◌≡◌, ℕ, ℤ, zero, suc, ◌-◌, ◌&&◌, ◌==◌, List, [], ◌∷◌, length, drop, take, codes, Option, Some, None, Result, Ok, Err, ok_or, option_and_then, slice_index, if◌then◌else◌, true, false}
use Rattle.std.specs.Str.{is_utf8}
use Rattle.std.specs.Str.Parse.{signed_digits_value}
use Rattle.scim_filter_grammar.specs.Literals.{is_integer}
use Rattle.serde_json.specs.Read.{read}
use Rattle.serde_json.specs.Find.{as_str}
use Rattle.scim_text.specs.declared.memory.Failed.{Failed}
use Rattle.scim_text.specs.declared.memory.Failed.TheVariants.{Because, NoMemory}
use Rattle.scim_filter_grammar.specs.declared.faults.ReadError.{ReadError}
use Rattle.scim_filter_grammar.specs.declared.faults.ReadError.TheVariants as errors
use Rattle.scim_filter_grammar.specs.declared.tree.Operator.{Operator}
use Rattle.scim_filter_grammar.specs.declared.tree.Operator.TheVariants.{Eq, Ne, Co, Sw, Ew, Gt, Ge, Lt, Le}
use Rattle.scim_filter_grammar.specs.declared.tree.Literal.{Literal}
use Rattle.scim_filter_grammar.specs.declared.tree.Literal.TheVariants as literal
use Rattle.scim_filter_grammar.specs.declared.tree.AttributePath.{AttributePath}
use Rattle.scim_filter_grammar.specs.declared.tree.Scope.{Scope}
use Rattle.scim_filter_grammar.specs.declared.tree.Scope.TheVariants.{Attributes, SubAttributes}
use Rattle.scim_filter_grammar.specs.Bytes.{is_space, is_word_byte, front, behind, is_word, past_quote}
use Rattle.scim_filter_grammar.specs.code.Cuts.{is_no_dot, past_gap, past_join, names_in, urn_in}
use Rattle.scim_filter_grammar.specs.Names.{is_name, is_urn, fits_scope, meant_by}
use Rattle.scim_filter_grammar.specs.Tree.{Tree, Or, And, Not, Present, Compare, Values, attribute_meant}

-- why a text can't be read: it isn't a filter, or it nests too deep
pub data Fault : Type 0 where
  Syntax : Fault
  TooDeep : Fault

-- applies the second step to the result of the first step, or returns the fault of the first step
infixl 10 ◌>>=◌
abbrev pub ◌>>=◌ : {A B : Type 0} → Result A Fault → (A → Result B Fault) → Result B Fault
(Ok x) >>= f = f x
(Err e) >>= f = Err e

-- the error that the code returned is NoMemory, or the fault that the specification returns
abbrev pub Fails : {Y : Type 0} → Failed ReadError → Result Y Fault → Type 0
Fails NoMemory read = Unit {0}
Fails (Because (errors.Syntax left)) read = read ≡ Err Syntax
Fails (Because errors.TooDeep) read = read ≡ Err TooDeep

-- the code returned NoMemory, or the specified result; `view` converts a value of the code into a specified
-- one
abbrev pub Gives : {X Y : Type 0} → (X → Y) → Result X (Failed ReadError) → Result Y Fault → Type 0
Gives view (Ok x) read = read ≡ Ok (view x)
Gives view (Err e) read = Fails e read

-- the result of reading: what was read, with the bytes after it
abbrev pub Read : Type 0 → Type 0
Read A = Result (A × List ℕ) Fault

-- a function that reads a tree from the start of bytes
abbrev pub Reader : Type 0
Reader = List ℕ → Read Tree

-- the bytes before the last colon of a word, if they are a URN, else Syntax; Ok None if there is no colon
unfoldable pub urn_of : Option (List ℕ) → Result (Option (List ℕ)) Fault
urn_of None = Ok None
urn_of (Some urn) = if is_urn urn then Ok (Some urn) else Err Syntax

-- the word, if it is a name, else Syntax
unfoldable pub name_of : List ℕ → Result (List ℕ) Fault
name_of name = if is_name name then Ok name else Err Syntax

-- the sub-attribute's name in the bytes after an attribute's name, which are empty or begin with a dot;
-- Syntax if no name follows the dot
unfoldable pub sub_of : List ℕ → Result (Option (List ℕ)) Fault
sub_of [] = Ok None
sub_of (dot ∷ sub) = name_of sub >>= λ name. Ok (Some name)

-- the path with these names
abbrev pub path_for : Scope → Option (List ℕ) → List ℕ → Option (List ℕ) → AttributePath
path_for scope urn name sub = record { urn = urn; name = name; sub_name = sub; meant = meant_by scope urn name sub }

-- the path with these names, if the scope allows this URN and this sub-attribute, else Syntax
abbrev pub path_with : Scope → Option (List ℕ) → List ℕ → Option (List ℕ) → Result AttributePath Fault
path_with scope urn name sub = if fits_scope scope urn sub then Ok (path_for scope urn name sub) else Err Syntax

-- the path that a whole word spells
unfoldable pub path_of : Scope → List ℕ → Result AttributePath Fault
path_of scope word = do
  urn ← urn_of (urn_in word)
  name ← name_of (front is_no_dot (names_in word))
  sub ← sub_of (behind is_no_dot (names_in word))
  path_with scope urn name sub

-- the operator that a whole word spells
unfoldable pub operator_of : List ℕ → Result Operator Fault
operator_of w =
    if is_word (codes "eq") w then Ok Eq else
    if is_word (codes "ne") w then Ok Ne else
    if is_word (codes "co") w then Ok Co else
    if is_word (codes "sw") w then Ok Sw else
    if is_word (codes "ew") w then Ok Ew else
    if is_word (codes "gt") w then Ok Gt else
    if is_word (codes "ge") w then Ok Ge else
    if is_word (codes "lt") w then Ok Lt else
    if is_word (codes "le") w then Ok Le else Err Syntax

-- the integer that a whole word spells, if it is one
unfoldable pub integer_of : List ℕ → Option ℤ
integer_of w = if is_integer w then Some (signed_digits_value 10 w) else None

-- the number literal that a whole word spells
unfoldable pub number_of : List ℕ → Result Literal Fault
number_of w = ok_or (integer_of w) Syntax >>= λ z. Ok (literal.Number z)

-- the literal that a whole word spells
unfoldable pub word_literal : List ℕ → Result Literal Fault
word_literal w =
    if is_word (codes "true") w then Ok (literal.Truth true) else
    if is_word (codes "false") w then Ok (literal.Truth false) else
    if is_word (codes "null") w then Ok literal.Null else number_of w

-- the text that a JSON string encodes
unfoldable pub string_of : List ℕ → Result (List ℕ) Fault
string_of text = if is_utf8 text then ok_or (option_and_then as_str (read text)) Syntax else Err Syntax

-- the JSON string at the start of bytes
unfoldable pub string_at : List ℕ → Read Literal
string_at bytes = do
  rest ← ok_or (past_quote (drop 1 bytes)) Syntax
  s ← string_of (take (length bytes - length rest) bytes)
  Ok (literal.Text s, rest)

-- the literal at the start of bytes
unfoldable pub literal_at : List ℕ → Read Literal
literal_at bytes = if slice_index bytes 0 == 34 then string_at bytes else do
  x ← word_literal (front is_word_byte bytes)
  Ok (x, behind is_word_byte bytes)

-- the tree and the bytes after the closing bracket; Syntax if the bytes don't begin with this bracket
abbrev pub closing_at : ℕ → Tree → List ℕ → Read Tree
closing_at close t [] = Err Syntax
closing_at close t (b ∷ bs) = if b == close then Ok (t, bs) else Err Syntax

-- the filter after an opening bracket, up to the closing bracket
unfoldable pub enclosed_at : ℕ → Reader → Reader
enclosed_at close filter bytes = do
  x ← filter (behind is_space bytes)
  closing_at close x.0 (behind is_space x.1)

-- the test after a path and a space: `pr`, or an operator and a literal
unfoldable pub relation_at : AttributePath → Reader
relation_at path bytes =
    if is_word (codes "pr") (front is_word_byte bytes) then Ok (Present path, behind is_word_byte bytes) else do
      op ← operator_of (front is_word_byte bytes)
      rest ← ok_or (past_gap (behind is_word_byte bytes)) Syntax
      x ← literal_at rest
      Ok (Compare path op x.0, x.1)

-- the result of reading, with the function applied to its tree
abbrev pub mapped : (Tree → Tree) → Read Tree → Read Tree
mapped f read = read >>= λ x. Ok (f x.0, x.1)

-- the value path on an attribute path, read from the bytes after its opening bracket
unfoldable pub listed_at : (Scope → Reader) → Scope → AttributePath → Reader
listed_at filter (Attributes kind) path bytes = mapped (Values path) (enclosed_at 93 (filter (SubAttributes (attribute_meant path.meant))) bytes)
listed_at filter (SubAttributes a) path bytes = Err Syntax

-- the tree, read from the bytes after an attribute path: a filter in brackets, or a space and a test
unfoldable pub behind_path_at : (Scope → Reader) → Scope → AttributePath → Reader
behind_path_at filter scope path bytes =
    if slice_index bytes 0 == 91 then listed_at filter scope path (drop 1 bytes) else do
      rest ← ok_or (past_gap bytes) Syntax
      relation_at path rest

-- the term that begins with a word: `not (..)`, or a path and its test
unfoldable pub worded_at : (Scope → Reader) → Scope → Reader
worded_at filter scope bytes =
    if is_word (codes "not") (front is_word_byte bytes) && slice_index (behind is_space (behind is_word_byte bytes)) 0 == 40
    then mapped Not (enclosed_at 41 (filter scope) (drop 1 (behind is_space (behind is_word_byte bytes))))
    else do
      path ← path_of scope (front is_word_byte bytes)
      behind_path_at filter scope path (behind is_word_byte bytes)

-- the term at the start of bytes: a filter in brackets, or one that begins with a word
unfoldable pub term_at : (Scope → Reader) → Scope → Reader
term_at filter scope bytes =
    if slice_index bytes 0 == 40 then enclosed_at 41 (filter scope) (drop 1 bytes) else worded_at filter scope bytes

-- the first tree joined with the tree that is read from the bytes after the keyword; the first tree alone if
-- no keyword follows
abbrev pub joined_at : Reader → (Tree → Tree → Tree) → Tree × List ℕ → Option (List ℕ) → Read Tree
joined_at others join x None = Ok x
joined_at others join x (Some rest) = mapped (join x.0) (others rest)

-- a chain of at most n items joined by a keyword, at the start of bytes
abbrev pub chain_at : ℕ → Reader → List ℕ → (Tree → Tree → Tree) → Reader
chain_at zero item keyword join bytes = Err Syntax
chain_at (suc n) item keyword join bytes = item bytes >>= λ x. joined_at (chain_at n item keyword join) join x (past_join keyword x.1)

-- the terms joined by `and` at the start of bytes
unfoldable pub conjunction_at : (Scope → Reader) → Scope → Reader
conjunction_at filter scope bytes = chain_at (suc (length bytes)) (term_at filter scope) (codes "and") And bytes

-- the conjunctions joined by `or` at the start of bytes
unfoldable pub disjunction_at : (Scope → Reader) → Scope → Reader
disjunction_at filter scope bytes = chain_at (suc (length bytes)) (conjunction_at filter scope) (codes "or") Or bytes

-- the filter at the start of bytes, with fewer than n brackets open at one place
unfoldable pub filter_at : ℕ → Scope → Reader
filter_at zero scope bytes = Err TooDeep
filter_at (suc n) scope bytes = disjunction_at (filter_at n) scope bytes

-- the tree if there are no more bytes, else Syntax
abbrev pub ended : Tree → List ℕ → Result Tree Fault
ended t [] = Ok t
ended t (b ∷ bs) = Err Syntax

-- the whole filter, with only spaces around it
unfoldable pub all_of : Scope → List ℕ → Result Tree Fault
all_of scope bytes = do
  x ← filter_at 33 scope (behind is_space bytes)
  ended x.0 (behind is_space x.1)
