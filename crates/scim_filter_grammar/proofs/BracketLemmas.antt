-- What is spelled leaves as many brackets open as there were in front of it.
use Rattle.std.proofs.Common.{◌≡◌, ℕ, suc, Bool, true, false, cond, eqb, List, [], ◌∷◌, ◌++◌, Some, refl, sym, ap, subst, ◌∙◌, append_assoc}
use Rattle.std.specs.Prelude.{codes, map}
use Rattle.std.specs.List.{list_all}
use Rattle.std.specs.Char.{to_ascii_lowercase}
use Rattle.scim_filter_grammar.specs.declared.tree.Literal.{Literal}
use Rattle.scim_filter_grammar.specs.declared.tree.Literal.TheVariants as literal
use Rattle.scim_filter_grammar.specs.declared.tree.Scope.{Scope}
use Rattle.scim_filter_grammar.specs.declared.tree.Scope.TheVariants.{Attributes}
use Rattle.scim_filter_grammar.specs.Brackets.{open_behind, open_string, open_escaped}
use Rattle.scim_filter_grammar.specs.Bytes.{is_space, is_word_byte, front, past_quote, past_escaped}
use Rattle.scim_filter_grammar.specs.Literals.{IsWord, IsString, IsLiteral}
use Rattle.scim_filter_grammar.specs.Tree.{Tree}
use Rattle.scim_filter_grammar.specs.Grammar.{IsBlank, IsGap, IsJoin, Encloses, Level, Spells, one_conjunction, either, one_term, both, group, negation, presence, comparison, values}
use Rattle.scim_filter_grammar.proofs.FrontLemmas.{chosen, both_true}
use Rattle.scim_filter_grammar.proofs.SpelledLemmas.{not_at, blank_all, word_bytes, IsRun}
use Rattle.scim_filter_grammar.proofs.IntegerLemmas.{integer_number}
use Rattle.scim_filter_grammar.proofs.LiteralLemmas.{closes_before}
use Rattle.scim_filter_grammar.proofs.LiteralAgainLemmas.{number_run}
use Rattle.scim_filter_grammar.proofs.AgainLemmas.{path_run, operator_run}

-- behind it as many brackets are open as in front of it
pub record IsBalanced (text : List ℕ) : Type 0 where
  pub leaves : (k : ℕ) (rest : List ℕ) → open_behind k (text ++ rest) ≡ open_behind k rest

balanced_as : {a b : List ℕ} → a ≡ b → IsBalanced b → IsBalanced a
balanced_as e h = subst IsBalanced (sym e) h

joined_balanced : {a b : List ℕ} → IsBalanced a → IsBalanced b → IsBalanced (a ++ b)
joined_balanced {a = a} {b = b} h j = record { leaves = λ k rest. ap (open_behind k) (append_assoc a b rest) ∙ h.leaves k (b ++ rest) ∙ j.leaves k rest }

-- ---- runs of bytes

-- a test that quotes and brackets fail
pub record IsPlain (p : ℕ → Bool) : Type 0 where
  pub no_quote : p 34 ≡ false
  pub no_open_round : p 40 ≡ false
  pub no_close_round : p 41 ≡ false
  pub no_open_square : p 91 ≡ false
  pub no_close_square : p 93 ≡ false

plain_leaves : (p : ℕ → Bool) (a : List ℕ) → IsPlain p → list_all p a ≡ true → (k : ℕ) (rest : List ℕ) → open_behind k (a ++ rest) ≡ open_behind k rest
plain_leaves p [] plain h k rest = refl
plain_leaves p (b ∷ bs) plain h k rest =
    let t = both_true (p b) (list_all p bs) h in
    rw (not_at p b 34 t.0 plain.no_quote, not_at p b 40 t.0 plain.no_open_round, not_at p b 91 t.0 plain.no_open_square, not_at p b 41 t.0 plain.no_close_round, not_at p b 93 t.0 plain.no_close_square)
    (plain_leaves p bs plain t.1 k rest)

plain_balanced : (p : ℕ → Bool) (a : List ℕ) → IsPlain p → list_all p a ≡ true → IsBalanced a
plain_balanced p a plain h = record { leaves = plain_leaves p a plain h }

pub space_plain : IsPlain is_space
space_plain = record { no_quote = refl; no_open_round = refl; no_close_round = refl; no_open_square = refl; no_close_square = refl }

pub word_plain : IsPlain is_word_byte
word_plain = record { no_quote = refl; no_open_round = refl; no_close_round = refl; no_open_square = refl; no_close_square = refl }

front_each : (p : ℕ → Bool) (bytes : List ℕ) → list_all p (front p bytes) ≡ true
front_each p [] = refl
front_each p (b ∷ bs) =
    let at : (v : Bool) → p b ≡ v → list_all p (cond v (b ∷ front p bs) []) ≡ true =
    λ v. elim v as (λ w. p b ≡ w → list_all p (cond w (b ∷ front p bs) []) ≡ true) [ true ↦ λ e. rw e (front_each p bs) | false ↦ λ e. refl ]
    in at (p b) refl

pub front_balanced : (p : ℕ → Bool) (bytes : List ℕ) → IsPlain p → IsBalanced (front p bytes)
front_balanced p bytes plain = plain_balanced p (front p bytes) plain (front_each p bytes)

blank_balanced : (s : List ℕ) → IsBlank s → IsBalanced s
blank_balanced s h = plain_balanced is_space s space_plain (blank_all s h)

gap_balanced : (g : List ℕ) → IsGap g → IsBalanced g
gap_balanced [] h = absurd h
gap_balanced (b ∷ bs) h = blank_balanced (b ∷ bs) h

run_balanced : {a : List ℕ} → IsRun a → IsBalanced a
run_balanced {a = a} run = plain_balanced is_word_byte a word_plain run.each

-- a keyword with no quote and no bracket
abbrev pub IsPlainWord : List ℕ → Type 0
IsPlainWord keyword = list_all is_word_byte (map to_ascii_lowercase keyword) ≡ true

word_balanced : (keyword w : List ℕ) → IsPlainWord keyword → IsWord keyword w → IsBalanced w
word_balanced keyword w plain h = plain_balanced is_word_byte w word_plain (word_bytes keyword w h plain)

pub join_balanced : (keyword join : List ℕ) → IsPlainWord keyword → IsJoin keyword join → IsBalanced join
join_balanced keyword join plain j =
    balanced_as j.whole (joined_balanced (gap_balanced j.before j.before_gap) (joined_balanced (word_balanced keyword j.word plain j.word_is) (gap_balanced j.after j.after_gap)))

-- ---- literals

mutual
  string_leaves : (k : ℕ) (bytes rest : List ℕ) → past_quote bytes ≡ Some rest → open_string k bytes ≡ open_behind k rest
  string_leaves k [] rest e = absurd cc
  string_leaves k (b ∷ bs) rest e =
      let leaves = open_string k (b ∷ bs) ≡ open_behind k rest in
      chosen leaves (eqb b 34) (Some bs) (cond (eqb b 92) (past_escaped bs) (past_quote bs)) (Some rest) e
      (λ h f. let same : bs ≡ rest = cc in rw h (ap (open_behind k) same))
      (λ h f. chosen leaves (eqb b 92) (past_escaped bs) (past_quote bs) (Some rest) f (λ g i. rw (h, g) (escaped_leaves k bs rest i)) (λ g i. rw (h, g) (string_leaves k bs rest i)))

  escaped_leaves : (k : ℕ) (bytes rest : List ℕ) → past_escaped bytes ≡ Some rest → open_escaped k bytes ≡ open_behind k rest
  escaped_leaves k [] rest e = absurd cc
  escaped_leaves k (b ∷ bs) rest e = string_leaves k bs rest e

string_balanced : (l s : List ℕ) → IsString l s → IsBalanced l
string_balanced l s h = balanced_as h.whole (record { leaves = λ k rest. string_leaves k (h.body ++ rest) rest (closes_before h.body rest h.closes) })

literal_balanced : (l : List ℕ) (x : Literal) → IsLiteral l x → IsBalanced l
literal_balanced l (literal.Text s) h = string_balanced l s h
literal_balanced l (literal.Number z) h = run_balanced (number_run l (integer_number l h.0))
literal_balanced l (literal.Truth true) h = word_balanced (codes "true") l refl h
literal_balanced l (literal.Truth false) h = word_balanced (codes "false") l refl h
literal_balanced l literal.Null h = word_balanced (codes "null") l refl h

-- ---- brackets

-- behind this byte one more bracket is open
pub record IsOpening (open_byte : ℕ) : Type 0 where
  pub opens : (k : ℕ) (rest : List ℕ) → open_behind k (open_byte ∷ rest) ≡ open_behind (suc k) rest

-- behind this byte one less is open
record IsClosing (close_byte : ℕ) : Type 0 where
  closes : (k : ℕ) (rest : List ℕ) → open_behind (suc k) (close_byte ∷ rest) ≡ open_behind k rest

pub round_opens : IsOpening 40
round_opens = record { opens = λ k rest. refl }

pub square_opens : IsOpening 91
square_opens = record { opens = λ k rest. refl }

round_closes : IsClosing 41
round_closes = record { closes = λ k rest. refl }

square_closes : IsClosing 93
square_closes = record { closes = λ k rest. refl }

enclosed_balanced : {o c : ℕ} {a text : List ℕ} → IsOpening o → IsClosing c → IsBalanced a → Encloses o c a text → IsBalanced text
enclosed_balanced {o = o} {c = c} {a = a} opening closing h enc = balanced_as enc.whole (record {
  leaves = λ k rest.
      let tail = enc.after ++ c ∷ rest in
      let regroup : (o ∷ (enc.before ++ (a ++ (enc.after ++ c ∷ [])))) ++ rest ≡ o ∷ (enc.before ++ (a ++ tail)) = simp append_assoc in
      ap (open_behind k) regroup ∙ opening.opens k (enc.before ++ (a ++ tail)) ∙ (blank_balanced enc.before enc.before_blank).leaves (suc k) (a ++ tail)
      ∙ h.leaves (suc k) tail ∙ (blank_balanced enc.after enc.after_blank).leaves (suc k) (c ∷ rest) ∙ closing.closes k rest;
})

-- ---- the grammar

pub spelled_balanced : {i : Scope} {l : Level} {n : ℕ} {a : List ℕ} {t : Tree} → Spells i l n a t → IsBalanced a
spelled_balanced (one_conjunction s) = spelled_balanced s
spelled_balanced (either {w = w} s j u) = joined_balanced (spelled_balanced s) (joined_balanced (join_balanced (codes "or") w refl j) (spelled_balanced u))
spelled_balanced (one_term s) = spelled_balanced s
spelled_balanced (both {w = w} s j u) = joined_balanced (spelled_balanced s) (joined_balanced (join_balanced (codes "and") w refl j) (spelled_balanced u))
spelled_balanced (group s enc) = enclosed_balanced round_opens round_closes (spelled_balanced s) enc
spelled_balanced (negation w s is_not is_blank u enc) =
    joined_balanced (word_balanced (codes "not") w refl is_not) (joined_balanced (blank_balanced s is_blank) (enclosed_balanced round_opens round_closes (spelled_balanced u) enc))
spelled_balanced (presence {i = i} {path = path} p g w is_path is_gap is_pr) =
    joined_balanced (run_balanced (path_run i p path is_path)) (joined_balanced (gap_balanced g is_gap) (word_balanced (codes "pr") w refl is_pr))
spelled_balanced (comparison {i = i} {path = path} {op = op} {x = x} p g w h l is_path is_gap is_op is_gap2 is_literal) =
    joined_balanced (run_balanced (path_run i p path is_path)) (joined_balanced (gap_balanced g is_gap)
    (joined_balanced (run_balanced (operator_run op w is_op)) (joined_balanced (gap_balanced h is_gap2) (literal_balanced l x is_literal))))
spelled_balanced (values {kind = kind} {path = path} p is_path u enc) =
    joined_balanced (run_balanced (path_run (Attributes kind) p path is_path)) (enclosed_balanced square_opens square_closes (spelled_balanced u) enc)
