-- What is too deep to be read has so many brackets open at some place.
use Rattle.std.proofs.Common.{◌≡◌, ◌≤◌, ℕ, zero, suc, ◌+◌, Bool, true, false, cond, eqb, List, [], ◌∷◌, ◌++◌, drop, length, Option, Some, None, Result, Ok, Err, refl, sym, ap, subst, ◌∙◌, append_assoc, arith}
use Rattle.std.specs.Prelude.{slice_index, ◌&&◌, codes, ok_or}
use Rattle.scim_filter_grammar.specs.declared.tree.AttributePath.{AttributePath}
use Rattle.scim_filter_grammar.specs.declared.tree.Scope.{Scope}
use Rattle.scim_filter_grammar.specs.declared.tree.Scope.TheVariants.{Attributes, SubAttributes}
use Rattle.scim_filter_grammar.specs.Brackets.{open_behind, IsDeeper}
use Rattle.scim_filter_grammar.specs.Bytes.{is_space, is_word_byte, front, behind, is_word}
use Rattle.scim_filter_grammar.specs.code.Cuts.{past_gap, past_join}
use Rattle.scim_filter_grammar.specs.Tree.{Tree, Or, And, Not, Values, attribute_meant}
use Rattle.scim_filter_grammar.specs.Grammar.{Conjunction, Term, Spells}
use Rattle.scim_filter_grammar.specs.Reading.{Fault, Syntax, TooDeep, ◌>>=◌, Read, Reader, urn_of, name_of, sub_of, path_of, operator_of, number_of, word_literal, string_of, string_at, literal_at, listed_at, closing_at, enclosed_at, relation_at, mapped, behind_path_at, worded_at, term_at, joined_at, chain_at, conjunction_at, disjunction_at, filter_at, ended, all_of}
use Rattle.scim_filter_grammar.proofs.FrontLemmas.{chosen, front-behind, join_takes, first_is, both_true}
use Rattle.scim_filter_grammar.proofs.TakeLemmas.{Spelling, Takes, term_takes, conjunction_takes, filter_takes}
use Rattle.scim_filter_grammar.proofs.BracketLemmas.{IsBalanced, IsPlain, space_plain, word_plain, front_balanced, IsPlainWord, join_balanced, IsOpening, round_opens, square_opens, spelled_balanced}

-- at some place n more brackets are open than in front
record IsNested (n : ℕ) (bytes : List ℕ) : Type 0 where
  before : List ℕ
  after : List ℕ
  whole : bytes ≡ before ++ after
  open_there : (k : ℕ) → n + k ≤ open_behind k before

nested_none : (bytes : List ℕ) → IsNested 0 bytes
nested_none bytes = record { before = []; after = bytes; whole = refl; open_there = λ k. omega arith }

nested_behind : {n : ℕ} {text rest : List ℕ} → IsBalanced text → IsNested n rest → IsNested n (text ++ rest)
nested_behind {text = text} balanced h = record {
  before = text ++ h.before;
  after = h.after;
  whole = ap (λ (t : List ℕ). text ++ t) h.whole ∙ sym (append_assoc text h.before h.after);
  open_there = λ k. rw (balanced.leaves k h.before) (h.open_there k);
}

nested_within : {n open_byte : ℕ} {rest : List ℕ} → IsOpening open_byte → IsNested n rest → IsNested (suc n) (open_byte ∷ rest)
nested_within {open_byte = open_byte} opening h = record {
  before = open_byte ∷ h.before;
  after = h.after;
  whole = ap (λ (t : List ℕ). open_byte ∷ t) h.whole;
  open_there = λ k. rw (opening.opens k h.before) (omega (arith, h.open_there (suc k)));
}

nested_in : {n : ℕ} {a b : List ℕ} → a ≡ b → IsNested n b → IsNested n a
nested_in {n = n} e h = subst (IsNested n) (sym e) h

nested_past : (p : ℕ → Bool) (n : ℕ) (bytes : List ℕ) → IsPlain p → IsNested n (behind p bytes) → IsNested n bytes
nested_past p n bytes plain h = nested_in (front-behind p bytes) (nested_behind (front_balanced p bytes plain) h)

-- ---- readers that open no bracket

abbrev too_deep : {A : Type 0} → Result A Fault
too_deep = Err TooDeep

-- what opens no bracket never is too deep
record IsShallow {A : Type 0} (r : Result A Fault) : Type 0 where
  never : r ≡ too_deep → ⊥

shallow_ok : {A : Type 0} (x : A) → IsShallow (Ok x)
shallow_ok x = record { never = λ e. absurd cc }

shallow_syntax : {A : Type 0} → IsShallow {A = A} (Err Syntax)
shallow_syntax = record { never = λ e. absurd cc }

shallow_if : {A : Type 0} (b : Bool) (x y : Result A Fault) → IsShallow x → IsShallow y → IsShallow (cond b x y)
shallow_if true x y h j = h
shallow_if false x y h j = j

shallow_or : {A : Type 0} (o : Option A) → IsShallow (ok_or o Syntax)
shallow_or None = shallow_syntax
shallow_or (Some x) = shallow_ok x

shallow_then : {A B : Type 0} (r : Result A Fault) (f : A → Result B Fault) → IsShallow r → ((x : A) → IsShallow (f x)) → IsShallow (r >>= f)
shallow_then (Ok x) f h j = j x
shallow_then (Err Syntax) f h j = shallow_syntax
shallow_then (Err TooDeep) f h j = absurd (h.never refl)

ruleset shallow = (shallow_ok, shallow_syntax, shallow_if, shallow_or, shallow_then)

operator_shallow : (w : List ℕ) → IsShallow (operator_of w)
unfolding operator_of
operator_shallow w = search shallow depth 12

urn_shallow : (o : Option (List ℕ)) → IsShallow (urn_of o)
unfolding urn_of
urn_shallow None = shallow_ok None
urn_shallow (Some urn) = search shallow

name_shallow : (name : List ℕ) → IsShallow (name_of name)
unfolding name_of
name_shallow name = search shallow

sub_shallow : (bytes : List ℕ) → IsShallow (sub_of bytes)
unfolding sub_of
sub_shallow [] = shallow_ok None
sub_shallow (dot ∷ name) = search (shallow, name_shallow)

path_shallow : (scope : Scope) (word : List ℕ) → IsShallow (path_of scope word)
unfolding path_of
path_shallow scope word = search (shallow, urn_shallow, name_shallow, sub_shallow) depth 8

literal_shallow : (bytes : List ℕ) → IsShallow (literal_at bytes)
unfolding literal_at string_at string_of word_literal number_of
literal_shallow bytes = search shallow depth 12

relation_shallow : (path : AttributePath) (bytes : List ℕ) → IsShallow (relation_at path bytes)
unfolding relation_at
relation_shallow path bytes = search (shallow, operator_shallow, literal_shallow) depth 8

closing_shallow : (close : ℕ) (t : Tree) (bytes : List ℕ) → IsShallow (closing_at close t bytes)
closing_shallow close t [] = shallow_syntax
closing_shallow close t (b ∷ bs) = search shallow

ended_shallow : (t : Tree) (bytes : List ℕ) → IsShallow (ended t bytes)
ended_shallow t [] = shallow_ok t
ended_shallow t (b ∷ bs) = shallow_syntax

-- ---- a step that stops at brackets

bind_deep : {A B : Type 0} (P : Type 0) (r : Result A Fault) (f : A → Result B Fault) → (r >>= f) ≡ too_deep → (r ≡ too_deep → P) → ((x : A) → r ≡ Ok x → f x ≡ too_deep → P) → P
bind_deep P (Ok x) f e first then = then x refl e
bind_deep P (Err Syntax) f e first then = absurd cc
bind_deep P (Err TooDeep) f e first then = first refl

mapped_deep : (f : Tree → Tree) (r : Read Tree) → mapped f r ≡ too_deep → r ≡ too_deep
mapped_deep f (Ok x) e = absurd cc
mapped_deep f (Err Syntax) e = absurd cc
mapped_deep f (Err TooDeep) e = refl

-- ---- items with a keyword between them

module _ (item : Reader) (keyword : List ℕ) (join : Tree → Tree → Tree) (n : ℕ) (A : Spelling)
    (plain : IsPlainWord keyword)
    (balanced : (a : List ℕ) (t : Tree) → A a t → IsBalanced a)
    (item_takes : (bytes : List ℕ) (x : Tree × List ℕ) → item bytes ≡ Ok x → Takes A bytes x)
    (item_deep : (bytes : List ℕ) → item bytes ≡ too_deep → IsNested n bytes) where
  joined_deep : (others : Reader) (x : Tree × List ℕ) (o : Option (List ℕ)) → ((rest : List ℕ) → others rest ≡ too_deep → IsNested n rest)
      → past_join keyword x.1 ≡ o → joined_at others join x o ≡ too_deep → IsNested n x.1
  joined_deep others x None others_deep is e = absurd cc
  joined_deep others x (Some rest) others_deep is e =
      let j = join_takes keyword x.1 rest is in
      nested_in j.whole (nested_behind (join_balanced keyword j.join plain j.is_join) (others_deep rest (mapped_deep (join x.0) (others rest) e)))

  chain_deep : (m : ℕ) (bytes : List ℕ) → chain_at m item keyword join bytes ≡ too_deep → IsNested n bytes
  chain_deep zero bytes e = absurd cc
  chain_deep (suc m) bytes e =
      bind_deep (IsNested n bytes) (item bytes) (λ x. joined_at (chain_at m item keyword join) join x (past_join keyword x.1)) e (item_deep bytes)
      (λ x is f.
      let took = item_takes bytes x is in
      nested_in took.whole (nested_behind (balanced took.text x.0 took.spells) (joined_deep (chain_at m item keyword join) x (past_join keyword x.1) (chain_deep m) refl f)))

-- ---- brackets

-- a reader within brackets that stops where n more are open
abbrev DeepInner : (Scope → Reader) → ℕ → Type 0
DeepInner filter n = (i : Scope) (bytes : List ℕ) → filter i bytes ≡ too_deep → IsNested n bytes

enclosed_deep : (filter : Scope → Reader) (n : ℕ) (i : Scope) (o close : ℕ) (bytes : List ℕ) → IsOpening o → DeepInner filter n → enclosed_at close (filter i) bytes ≡ too_deep → IsNested (suc n) (o ∷ bytes)
unfolding enclosed_at
enclosed_deep filter n i o close bytes opening inner e =
    bind_deep (IsNested (suc n) (o ∷ bytes)) (filter i (behind is_space bytes)) (λ x. closing_at close x.0 (behind is_space x.1)) e
    (λ f. nested_within opening (nested_past is_space n bytes space_plain (inner i (behind is_space bytes) f)))
    (λ x _ f. absurd ((closing_shallow close x.0 (behind is_space x.1)).never f))

listed_deep : (filter : Scope → Reader) (n : ℕ) (i : Scope) (path : AttributePath) (bytes : List ℕ) → DeepInner filter n → listed_at filter i path bytes ≡ too_deep → IsNested (suc n) (91 ∷ bytes)
unfolding listed_at
listed_deep filter n (SubAttributes a) path bytes inner e = absurd cc
listed_deep filter n (Attributes kind) path bytes inner e =
    let within = SubAttributes (attribute_meant path.meant) in
    enclosed_deep filter n within 91 93 bytes square_opens inner (mapped_deep (Values path) (enclosed_at 93 (filter within) bytes) e)

behind_path_deep : (filter : Scope → Reader) (n : ℕ) (i : Scope) (path : AttributePath) (bytes : List ℕ) → DeepInner filter n → behind_path_at filter i path bytes ≡ too_deep → IsNested (suc n) bytes
unfolding behind_path_at
behind_path_deep filter n i path bytes inner e =
    let relates = ok_or (past_gap bytes) Syntax >>= relation_at path in
    chosen (IsNested (suc n) bytes) (eqb (slice_index bytes 0) 91) (listed_at filter i path (drop 1 bytes)) relates too_deep e
    (λ h f. nested_in (first_is bytes 90 h) (listed_deep filter n i path (drop 1 bytes) inner f))
    (λ _ f. let shallow_here : IsShallow relates = search (shallow, relation_shallow) in absurd (shallow_here.never f))

worded_deep : (filter : Scope → Reader) (n : ℕ) (i : Scope) (bytes : List ℕ) → DeepInner filter n → worded_at filter i bytes ≡ too_deep → IsNested (suc n) bytes
unfolding worded_at
worded_deep filter n i bytes inner e =
    let w = front is_word_byte bytes in
    let after = behind is_word_byte bytes in
    let rest = behind is_space after in
    let negated = mapped Not (enclosed_at 41 (filter i) (drop 1 rest)) in
    let named = path_of i w >>= λ path. behind_path_at filter i path after in
    nested_past is_word_byte (suc n) bytes word_plain
    (chosen (IsNested (suc n) after) (is_word (codes "not") w && eqb (slice_index rest 0) 40) negated named too_deep e
    (λ h f.
    let both = both_true (is_word (codes "not") w) (eqb (slice_index rest 0) 40) h in
    nested_past is_space (suc n) after space_plain
    (nested_in (first_is rest 39 both.1) (enclosed_deep filter n i 40 41 (drop 1 rest) round_opens inner (mapped_deep Not (enclosed_at 41 (filter i) (drop 1 rest)) f))))
    (λ _ f. bind_deep (IsNested (suc n) after) (path_of i w) (λ path. behind_path_at filter i path after) f
    (λ g. absurd ((path_shallow i w).never g)) (λ path _ g. behind_path_deep filter n i path after inner g)))

term_deep : (filter : Scope → Reader) (n : ℕ) (i : Scope) (bytes : List ℕ) → DeepInner filter n → term_at filter i bytes ≡ too_deep → IsNested (suc n) bytes
unfolding term_at
term_deep filter n i bytes inner e =
    chosen (IsNested (suc n) bytes) (eqb (slice_index bytes 0) 40) (enclosed_at 41 (filter i) (drop 1 bytes)) (worded_at filter i bytes) too_deep e
    (λ h f. nested_in (first_is bytes 39 h) (enclosed_deep filter n i 40 41 (drop 1 bytes) round_opens inner f))
    (λ _ f. worded_deep filter n i bytes inner f)

-- ---- a whole text

conjunction_deep : (n : ℕ) (i : Scope) (bytes : List ℕ) → DeepInner (filter_at n) n → conjunction_at (filter_at n) i bytes ≡ too_deep → IsNested (suc n) bytes
unfolding conjunction_at
conjunction_deep n i bytes inner e =
    chain_deep (term_at (filter_at n) i) (codes "and") And (suc n) (Spells i Term n) refl (λ a t s. spelled_balanced s)
    (λ bs x f. term_takes (filter_at n) i n bs x (filter_takes n) f) (λ bs f. term_deep (filter_at n) n i bs inner f) (suc (length bytes)) bytes e

disjunction_deep : (n : ℕ) (i : Scope) (bytes : List ℕ) → DeepInner (filter_at n) n → disjunction_at (filter_at n) i bytes ≡ too_deep → IsNested (suc n) bytes
unfolding disjunction_at
disjunction_deep n i bytes inner e =
    chain_deep (conjunction_at (filter_at n) i) (codes "or") Or (suc n) (Spells i Conjunction n) refl (λ a t s. spelled_balanced s)
    (λ bs x f. conjunction_takes (filter_at n) i n bs x (filter_takes n) f) (λ bs f. conjunction_deep n i bs inner f) (suc (length bytes)) bytes e

filter_deep : (n : ℕ) → DeepInner (filter_at n) n
unfolding filter_at
filter_deep zero i bytes e = nested_none bytes
filter_deep (suc n) i bytes e = disjunction_deep n i bytes (filter_deep n) e

pub all_deep : (scope : Scope) (bytes : List ℕ) → all_of scope bytes ≡ Err TooDeep → IsDeeper 32 bytes
unfolding all_of
all_deep scope bytes e =
    let deep = bind_deep (IsNested 33 bytes) (filter_at 33 scope (behind is_space bytes)) (λ x. ended x.0 (behind is_space x.1)) e
    (λ f. nested_past is_space 33 bytes space_plain (filter_deep 33 scope (behind is_space bytes) f))
    (λ x _ f. absurd ((ended_shallow x.0 (behind is_space x.1)).never f)) in
    record { before = deep.before; after = deep.after; whole = deep.whole; open_there = omega (arith, deep.open_there 0) }
