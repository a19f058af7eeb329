-- What is read is spelled so.
use Rattle.std.proofs.Common.{◌≡◌, ℕ, zero, suc, ◌≤◌, true, false, cond, eqb, List, [], ◌∷◌, ◌++◌, length, drop, take, ◌-◌, Option, Some, None, Result, Ok, Err, refl, sym, ap, subst, ◌∙◌, append_assoc, arith, length-append}
use Rattle.std.specs.Prelude.{slice_index, codes, ◌&&◌, ok_or}
use Rattle.std.proofs.lemmas.Bool.{eqb-true}
use Rattle.std.proofs.lemmas.List.{append-nil}
use Rattle.scim_filter_grammar.specs.Reading.{Fault}
use Rattle.scim_filter_grammar.specs.Reading.{Syntax}
use Rattle.scim_filter_grammar.specs.declared.tree.Operator.{Operator}
use Rattle.scim_filter_grammar.specs.declared.tree.Operator.TheVariants.{Eq, Ne, Co, Sw, Ew, Gt, Ge, Lt, Le}
use Rattle.scim_filter_grammar.specs.declared.tree.Literal.{Literal}
use Rattle.scim_filter_grammar.specs.declared.tree.Literal.TheVariants as literal
use Rattle.scim_filter_grammar.specs.declared.tree.AttributePath.{AttributePath}
use Rattle.scim_filter_grammar.specs.declared.tree.Scope.{Scope}
use Rattle.scim_filter_grammar.specs.declared.tree.Scope.TheVariants.{Attributes, SubAttributes}
use Rattle.scim_filter_grammar.specs.Literals.{IsWord, is_integer, IsLiteral}
use Rattle.scim_filter_grammar.specs.Names.{IsPath, IsPassed, is_name, is_urn, fits_scope, meant_by, names_text, path_text}
use Rattle.scim_filter_grammar.specs.Tree.{Tree, Or, And, Not, Present, Compare, Values, attribute_meant}
use Rattle.scim_filter_grammar.specs.Bytes.{is_space, is_word_byte, front, behind, is_word, past_quote}
use Rattle.scim_filter_grammar.specs.code.Cuts.{is_no_dot, past_gap, past_join, names_in, urn_in}
use Rattle.scim_filter_grammar.specs.Grammar.{IsGap, IsJoin, spelled, Encloses, Disjunction, Conjunction, Term, Spells, one_conjunction, either, one_term, both, group, negation, presence, comparison, values}
use Rattle.scim_filter_grammar.specs.Reading.{◌>>=◌, Read, Reader, urn_of, name_of, sub_of, path_with, path_of, operator_of, integer_of, number_of, word_literal, string_of, string_at, literal_at, listed_at, closing_at, enclosed_at, relation_at, mapped, behind_path_at, worded_at, term_at, joined_at, chain_at, conjunction_at, disjunction_at, filter_at}
use Rattle.scim_filter_grammar.proofs.FrontLemmas.{some_if, both_true, not_false, behind_first, bind_ok, ok_if, chosen, front-behind, blank_front, gap_takes, join_takes, first_is}
use Rattle.std.specs.Str.Parse.{signed_digits_value}
use Rattle.scim_filter_grammar.proofs.NameLemmas.{urn_split}
use Rattle.scim_filter_grammar.proofs.LiteralLemmas.{quote_cut, string_means}

abbrev pub Spelling : Type 1
Spelling = List ℕ → Tree → Type 0

-- what a reader took from the front
pub record Takes (P : Spelling) (bytes : List ℕ) (x : Tree × List ℕ) : Type 0 where
  pub text : List ℕ
  pub spells : P text x.0
  pub whole : bytes ≡ text ++ x.1

abbrev done : {A : Type 0} → A → Result A Fault
done x = Ok x

pub ok_is : {A : Type 0} (x y : A) → done x ≡ done y → x ≡ y
ok_is x y e = cc

pub mapped_ok : (f : Tree → Tree) (r : Read Tree) (y : Tree × List ℕ) → mapped f r ≡ Ok y → (x : Tree × List ℕ) × (r ≡ Ok x) × ((f x.0, x.1) ≡ y)
mapped_ok f r y e = let b = bind_ok r (λ x. Ok (f x.0, x.1)) y e in (b.0, b.1, ok_is (f b.0.0, b.0.1) y b.2)

-- ---- items with a keyword between them

module _ (item : Reader) (keyword : List ℕ) (join : Tree → Tree → Tree) (A B : Spelling)
    (one : (a : List ℕ) (t : Tree) → A a t → B a t)
    (more : (a w b : List ℕ) (t u : Tree) → A a t → IsJoin keyword w → B b u → B (a ++ (w ++ b)) (join t u))
    (item_takes : (bytes : List ℕ) (x : Tree × List ℕ) → item bytes ≡ Ok x → Takes A bytes x) where
  joined_takes : (n : ℕ) (bytes : List ℕ) (x y : Tree × List ℕ) (o : Option (List ℕ)) → ((bs : List ℕ) (z : Tree × List ℕ) → chain_at n item keyword join bs ≡ Ok z → Takes B bs z)
      → Takes A bytes x → past_join keyword x.1 ≡ o → joined_at (chain_at n item keyword join) join x o ≡ Ok y → Takes B bytes y
  joined_takes n bytes x y None rec took is e = subst (λ z. Takes B bytes z) (ok_is x y e) (record { text = took.text; spells = one took.text x.0 took.spells; whole = took.whole })
  joined_takes n bytes x y (Some rest) rec took is e =
      let m = mapped_ok (join x.0) (chain_at n item keyword join rest) y e in
      let others = rec rest m.0 m.1 in
      let j = join_takes keyword x.1 rest is in
      let regroup : (took.text ++ (j.join ++ others.text)) ++ m.0.1 ≡ took.text ++ (j.join ++ (others.text ++ m.0.1)) = simp append_assoc in
      let whole : bytes ≡ (took.text ++ (j.join ++ others.text)) ++ m.0.1 = took.whole ∙ ap (λ (t : List ℕ). took.text ++ t) (j.whole ∙ ap (λ (t : List ℕ). j.join ++ t) others.whole) ∙ sym regroup in
      subst (λ z. Takes B bytes z) m.2 (record { text = took.text ++ (j.join ++ others.text); spells = more took.text j.join others.text x.0 m.0.0 took.spells j.is_join others.spells; whole = whole })

  chain_takes : (n : ℕ) (bytes : List ℕ) (y : Tree × List ℕ) → chain_at n item keyword join bytes ≡ Ok y → Takes B bytes y
  chain_takes zero bytes y e = absurd cc
  chain_takes (suc n) bytes y e =
      let b = bind_ok (item bytes) (λ x. joined_at (chain_at n item keyword join) join x (past_join keyword x.1)) y e in
      joined_takes n bytes b.0 y (past_join keyword b.0.1) (chain_takes n) (item_takes bytes b.0 b.1) refl b.2

-- ---- leaves

urn_takes : (o urn : Option (List ℕ)) → urn_of o ≡ Ok urn → (o ≡ urn) × IsPassed is_urn urn
unfolding urn_of
urn_takes None urn e = let same : None ≡ urn = ok_is None urn e in (same, subst (IsPassed is_urn) same tt)
urn_takes (Some text) urn e = let s = ok_if (is_urn text) Syntax (Some text) urn e in (s.1, subst (IsPassed is_urn) s.1 s.0)

pub name_takes : (text name : List ℕ) → name_of text ≡ Ok name → (text ≡ name) × (is_name name ≡ true)
unfolding name_of
name_takes text name e = let s = ok_if (is_name text) Syntax text name e in (s.1, ap is_name (sym s.1) ∙ s.0)

-- what stands behind the first name of a path
record TakesSub (behind : List ℕ) (sub : Option (List ℕ)) : Type 0 where
  passed : IsPassed is_name sub
  joins : (name : List ℕ) → name ++ behind ≡ names_text name sub

sub_takes : (bs : List ℕ) (sub : Option (List ℕ)) → sub_of bs ≡ Ok sub → ((d : ℕ) (ds : List ℕ) → bs ≡ d ∷ ds → d ≡ 46) → TakesSub bs sub
unfolding sub_of
sub_takes [] sub e dots = subst (TakesSub []) (ok_is None sub e) (record { passed = tt; joins = λ name. append-nil name })
sub_takes (d ∷ ds) sub e dots =
    let b = bind_ok (name_of ds) (λ name. Ok (Some name)) sub e in
    let is = name_takes ds b.0 b.1 in
    subst (TakesSub (d ∷ ds)) (ok_is (Some b.0) sub b.2)
    (record { passed = is.1; joins = λ name. ap (λ (x : ℕ). name ++ x ∷ ds) (dots d ds refl) ∙ ap (λ (t : List ℕ). name ++ 46 ∷ t) is.0 })

pub path_takes : (scope : Scope) (word : List ℕ) (path : AttributePath) → path_of scope word ≡ Ok path → IsPath scope word path
unfolding path_of
path_takes scope word path e =
    let n = front is_no_dot (names_in word) in
    let r = behind is_no_dot (names_in word) in
    let a = bind_ok (urn_of (urn_in word)) (λ urn. name_of n >>= λ name. sub_of r >>= λ sub. path_with scope urn name sub) path e in
    let b = bind_ok (name_of n) (λ name. sub_of r >>= λ sub. path_with scope a.0 name sub) path a.2 in
    let c = bind_ok (sub_of r) (λ sub. path_with scope a.0 b.0 sub) path b.2 in
    let s = ok_if (fits_scope scope a.0 c.0) Syntax (record { urn = a.0; name = b.0; sub_name = c.0; meant = meant_by scope a.0 b.0 c.0 }) path c.2 in
    let urn = urn_takes (urn_in word) a.0 a.1 in
    let name = name_takes n b.0 b.1 in
    let sub = sub_takes r c.0 c.1 (λ d ds h. eqb-true _ _ (not_false (eqb d 46) (behind_first is_no_dot (names_in word) d ds h))) in
    let names : names_in word ≡ names_text b.0 c.0 = front-behind is_no_dot (names_in word) ∙ sub.joins n ∙ ap (λ (t : List ℕ). names_text t c.0) name.0 in
    let whole : word ≡ path_text a.0 (names_text b.0 c.0) = urn_split word ∙ ap (λ (o : Option (List ℕ)). path_text o (names_in word)) urn.0 ∙ ap (λ (t : List ℕ). path_text a.0 t) names in
    subst (λ (p : AttributePath). IsPath scope word p) s.1 (record { urn_is = urn.1; name_is = name.1; sub_is = sub.passed; fits = s.0; whole = whole; leads = refl })

operator_takes : (w : List ℕ) (op : Operator) → operator_of w ≡ Ok op → IsWord (spelled op) w
unfolding operator_of
operator_takes w op e0 = chosen (IsWord (spelled op) w) (is_word (codes "eq") w) (Ok Eq) (cond (is_word (codes "ne") w) (Ok Ne) (cond (is_word (codes "co") w) (Ok Co) (cond (is_word (codes "sw") w) (Ok Sw) (cond (is_word (codes "ew") w) (Ok Ew) (cond (is_word (codes "gt") w) (Ok Gt) (cond (is_word (codes "ge") w) (Ok Ge) (cond (is_word (codes "lt") w) (Ok Lt) (cond (is_word (codes "le") w) (Ok Le) (Err Syntax))))))))) (Ok op) e0 (λ h f. subst (λ o. IsWord (spelled o) w) (ok_is Eq op f) h) (λ _ e1. chosen (IsWord (spelled op) w) (is_word (codes "ne") w) (Ok Ne) (cond (is_word (codes "co") w) (Ok Co) (cond (is_word (codes "sw") w) (Ok Sw) (cond (is_word (codes "ew") w) (Ok Ew) (cond (is_word (codes "gt") w) (Ok Gt) (cond (is_word (codes "ge") w) (Ok Ge) (cond (is_word (codes "lt") w) (Ok Lt) (cond (is_word (codes "le") w) (Ok Le) (Err Syntax)))))))) (Ok op) e1 (λ h f. subst (λ o. IsWord (spelled o) w) (ok_is Ne op f) h) (λ _ e2. chosen (IsWord (spelled op) w) (is_word (codes "co") w) (Ok Co) (cond (is_word (codes "sw") w) (Ok Sw) (cond (is_word (codes "ew") w) (Ok Ew) (cond (is_word (codes "gt") w) (Ok Gt) (cond (is_word (codes "ge") w) (Ok Ge) (cond (is_word (codes "lt") w) (Ok Lt) (cond (is_word (codes "le") w) (Ok Le) (Err Syntax))))))) (Ok op) e2 (λ h f. subst (λ o. IsWord (spelled o) w) (ok_is Co op f) h) (λ _ e3. chosen (IsWord (spelled op) w) (is_word (codes "sw") w) (Ok Sw) (cond (is_word (codes "ew") w) (Ok Ew) (cond (is_word (codes "gt") w) (Ok Gt) (cond (is_word (codes "ge") w) (Ok Ge) (cond (is_word (codes "lt") w) (Ok Lt) (cond (is_word (codes "le") w) (Ok Le) (Err Syntax)))))) (Ok op) e3 (λ h f. subst (λ o. IsWord (spelled o) w) (ok_is Sw op f) h) (λ _ e4. chosen (IsWord (spelled op) w) (is_word (codes "ew") w) (Ok Ew) (cond (is_word (codes "gt") w) (Ok Gt) (cond (is_word (codes "ge") w) (Ok Ge) (cond (is_word (codes "lt") w) (Ok Lt) (cond (is_word (codes "le") w) (Ok Le) (Err Syntax))))) (Ok op) e4 (λ h f. subst (λ o. IsWord (spelled o) w) (ok_is Ew op f) h) (λ _ e5. chosen (IsWord (spelled op) w) (is_word (codes "gt") w) (Ok Gt) (cond (is_word (codes "ge") w) (Ok Ge) (cond (is_word (codes "lt") w) (Ok Lt) (cond (is_word (codes "le") w) (Ok Le) (Err Syntax)))) (Ok op) e5 (λ h f. subst (λ o. IsWord (spelled o) w) (ok_is Gt op f) h) (λ _ e6. chosen (IsWord (spelled op) w) (is_word (codes "ge") w) (Ok Ge) (cond (is_word (codes "lt") w) (Ok Lt) (cond (is_word (codes "le") w) (Ok Le) (Err Syntax))) (Ok op) e6 (λ h f. subst (λ o. IsWord (spelled o) w) (ok_is Ge op f) h) (λ _ e7. chosen (IsWord (spelled op) w) (is_word (codes "lt") w) (Ok Lt) (cond (is_word (codes "le") w) (Ok Le) (Err Syntax)) (Ok op) e7 (λ h f. subst (λ o. IsWord (spelled o) w) (ok_is Lt op f) h) (λ _ e8. chosen (IsWord (spelled op) w) (is_word (codes "le") w) (Ok Le) (Err Syntax) (Ok op) e8 (λ h f. subst (λ o. IsWord (spelled o) w) (ok_is Le op f) h) (λ _ e9. absurd cc)))))))))

ok_or_some : {A : Type 0} (o : Option A) (d : Fault) (y : A) → ok_or o d ≡ Ok y → o ≡ Some y
ok_or_some (Some x) d y e = cc
ok_or_some None d y e = absurd cc

number_takes : (w : List ℕ) (x : Literal) → number_of w ≡ Ok x → IsLiteral w x
unfolding number_of integer_of
number_takes w x e =
    let b = bind_ok (ok_or (integer_of w) Syntax) (λ z. Ok (literal.Number z)) x e in
    let s = some_if (is_integer w) (signed_digits_value 10 w) b.0 (ok_or_some (integer_of w) Syntax b.0 b.1) in
    subst (λ y. IsLiteral w y) (ok_is (literal.Number b.0) x b.2) s

word_literal_takes : (w : List ℕ) (x : Literal) → word_literal w ≡ Ok x → IsLiteral w x
unfolding word_literal
word_literal_takes w x e =
    chosen (IsLiteral w x) (is_word (codes "true") w) (Ok (literal.Truth true)) (cond (is_word (codes "false") w) (Ok (literal.Truth false)) (cond (is_word (codes "null") w) (Ok literal.Null) (number_of w))) (Ok x) e
    (λ h f. subst (λ y. IsLiteral w y) (ok_is (literal.Truth true) x f) h)
    (λ _ e1. chosen (IsLiteral w x) (is_word (codes "false") w) (Ok (literal.Truth false)) (cond (is_word (codes "null") w) (Ok literal.Null) (number_of w)) (Ok x) e1
    (λ h f. subst (λ y. IsLiteral w y) (ok_is (literal.Truth false) x f) h)
    (λ _ e2. chosen (IsLiteral w x) (is_word (codes "null") w) (Ok literal.Null) (number_of w) (Ok x) e2
    (λ h f. subst (λ y. IsLiteral w y) (ok_is literal.Null x f) h)
    (λ _ f. number_takes w x f)))

-- a literal that was taken from the front
pub record TakesLiteral (bytes : List ℕ) (x : Literal × List ℕ) : Type 0 where
  pub text : List ℕ
  pub is_literal : IsLiteral text x.0
  pub whole : bytes ≡ text ++ x.1

string_takes : (bytes : List ℕ) (x : Literal × List ℕ) → bytes ≡ 34 ∷ drop 1 bytes → string_at bytes ≡ Ok x → TakesLiteral bytes x
unfolding string_at
string_takes bytes x first e =
    let a = bind_ok (ok_or (past_quote (drop 1 bytes)) Syntax) (λ rest. string_of (take (length bytes - length rest) bytes) >>= λ s. Ok (literal.Text s, rest)) x e in
    let b = bind_ok (string_of (take (length bytes - length a.0) bytes)) (λ s. Ok (literal.Text s, a.0)) x a.2 in
    let cut = quote_cut bytes a.0 first (ok_or_some (past_quote (drop 1 bytes)) Syntax a.0 a.1) in
    let text = take (length bytes - length a.0) bytes in
    let means = string_means text b.0 b.1 in
    subst (λ z. TakesLiteral bytes z) (ok_is (literal.Text b.0, a.0) x b.2)
    (record { text = text; is_literal = record { body = cut.body; whole = cut.text_is; closes = cut.closes; utf8 = means.0; means = means.1 }; whole = cut.whole })

literal_takes : (bytes : List ℕ) (x : Literal × List ℕ) → literal_at bytes ≡ Ok x → TakesLiteral bytes x
unfolding literal_at
literal_takes bytes x e =
    let w = front is_word_byte bytes in
    chosen (TakesLiteral bytes x) (eqb (slice_index bytes 0) 34) (string_at bytes) (word_literal w >>= λ y. Ok (y, behind is_word_byte bytes)) (Ok x) e
    (λ h f. string_takes bytes x (first_is bytes 33 h) f)
    (λ _ f.
    let b = bind_ok (word_literal w) (λ y. Ok (y, behind is_word_byte bytes)) x f in
    subst (λ z. TakesLiteral bytes z) (ok_is (b.0, behind is_word_byte bytes) x b.2) (record { text = w; is_literal = word_literal_takes w b.0 b.1; whole = front-behind is_word_byte bytes }))

-- what was taken from the front completes a term
pub record Completes (term_from : List ℕ → Type 0) (bytes rest : List ℕ) : Type 0 where
  pub text : List ℕ
  pub completes : term_from text
  pub whole : bytes ≡ text ++ rest

abbrev BehindGap : Scope → ℕ → AttributePath → Tree → List ℕ → Type 0
BehindGap i n path t text = (p g : List ℕ) → IsPath i p path → IsGap g → Spells i Term n (p ++ (g ++ text)) t

relation_takes : (i : Scope) (n : ℕ) (path : AttributePath) (bytes : List ℕ) (x : Tree × List ℕ) → relation_at path bytes ≡ Ok x → Completes (BehindGap i n path x.0) bytes x.1
unfolding relation_at
relation_takes i n path bytes x e =
    let w = front is_word_byte bytes in
    let after = behind is_word_byte bytes in
    let compared = λ (op : Operator). ok_or (past_gap after) Syntax >>= λ rest. literal_at rest >>= λ y. Ok (Compare path op y.0, y.1) in
    chosen (Completes (BehindGap i n path x.0) bytes x.1) (is_word (codes "pr") w) (Ok (Present path, after)) (operator_of w >>= compared) (Ok x) e
    (λ h f. subst (λ (z : Tree × List ℕ). Completes (BehindGap i n path z.0) bytes z.1) (ok_is (Present path, after) x f) (record { text = w; completes = λ p g is_path is_gap. presence p g w is_path is_gap h; whole = front-behind is_word_byte bytes }))
    (λ _ f.
    let a = bind_ok (operator_of w) compared x f in
    let b = bind_ok (ok_or (past_gap after) Syntax) (λ rest. literal_at rest >>= λ y. Ok (Compare path a.0 y.0, y.1)) x a.2 in
    let c = bind_ok (literal_at b.0) (λ y. Ok (Compare path a.0 y.0, y.1)) x b.2 in
    let gap = gap_takes after b.0 (ok_or_some (past_gap after) Syntax b.0 b.1) in
    let lit = literal_takes b.0 c.0 c.1 in
    let parts : bytes ≡ w ++ (gap.gap ++ (lit.text ++ c.0.1)) = front-behind is_word_byte bytes ∙ ap (λ (t : List ℕ). w ++ t) (gap.whole ∙ ap (λ (t : List ℕ). gap.gap ++ t) lit.whole) in
    let regroup : (w ++ (gap.gap ++ lit.text)) ++ c.0.1 ≡ w ++ (gap.gap ++ (lit.text ++ c.0.1)) = simp append_assoc in
    subst (λ (z : Tree × List ℕ). Completes (BehindGap i n path z.0) bytes z.1) (ok_is (Compare path a.0 c.0.0, c.0.1) x c.2)
    (record { text = w ++ (gap.gap ++ lit.text); completes = λ p g is_path is_gap. comparison p g w gap.gap lit.text is_path is_gap (operator_takes w a.0 a.1) gap.is_gap lit.is_literal; whole = parts ∙ sym regroup }))

-- ---- brackets

-- what a reader within brackets takes, where n more may be opened
abbrev pub TakesInner : (Scope → Reader) → ℕ → Type 0
TakesInner filter n = (i : Scope) (bytes : List ℕ) (x : Tree × List ℕ) → filter i bytes ≡ Ok x → (m : ℕ) × (n ≡ suc m) × Takes (Spells i Disjunction m) bytes x

-- brackets that were taken, the open one included
pub record TakesBrackets (i : Scope) (n open_byte close : ℕ) (bytes : List ℕ) (x : Tree × List ℕ) : Type 0 where
  pub depth : ℕ
  pub is_depth : n ≡ suc depth
  pub inner : List ℕ
  pub text : List ℕ
  pub spells : Spells i Disjunction depth inner x.0
  pub encloses : Encloses open_byte close inner text
  pub whole : open_byte ∷ bytes ≡ text ++ x.1

closing_takes : (close : ℕ) (t : Tree) (bytes : List ℕ) (x : Tree × List ℕ) → closing_at close t bytes ≡ Ok x → (t ≡ x.0) × (bytes ≡ close ∷ x.1)
closing_takes close t [] x e = absurd cc
closing_takes close t (b ∷ bs) x e =
    let s = ok_if (eqb b close) Syntax (t, bs) x e in
    (ap (λ (z : Tree × List ℕ). z.0) s.1, ap (λ c. c ∷ bs) (eqb-true _ _ s.0) ∙ ap (λ (z : Tree × List ℕ). close ∷ z.1) s.1)

pub enclosed_takes : (filter : Scope → Reader) (i : Scope) (n open_byte close : ℕ) (bytes : List ℕ) (x : Tree × List ℕ) → TakesInner filter n → enclosed_at close (filter i) bytes ≡ Ok x → TakesBrackets i n open_byte close bytes x
unfolding enclosed_at
enclosed_takes filter i n open_byte close bytes x inner e =
    let b = bind_ok (filter i (behind is_space bytes)) (λ y. closing_at close y.0 (behind is_space y.1)) x e in
    let took = inner i (behind is_space bytes) b.0 b.1 in
    let closed = closing_takes close b.0.0 (behind is_space b.0.1) x b.2 in
    let s = front is_space bytes in
    let a = took.2.text in
    let z = front is_space b.0.1 in
    let parts : bytes ≡ s ++ (a ++ (z ++ close ∷ x.1)) =
    front-behind is_space bytes ∙ ap (λ (t : List ℕ). s ++ t) (took.2.whole ∙ ap (λ (t : List ℕ). a ++ t) (front-behind is_space b.0.1 ∙ ap (λ (t : List ℕ). z ++ t) closed.1)) in
    let regroup : (s ++ (a ++ (z ++ close ∷ []))) ++ x.1 ≡ s ++ (a ++ (z ++ close ∷ x.1)) = simp append_assoc in
    record {
      depth = took.0;
      is_depth = took.1;
      inner = a;
      text = open_byte ∷ (s ++ (a ++ (z ++ close ∷ [])));
      spells = subst (λ t. Spells i Disjunction took.0 a t) closed.0 took.2.spells;
      encloses = record { before = s; after = z; before_blank = blank_front bytes; after_blank = blank_front b.0.1; whole = refl };
      whole = ap (λ (t : List ℕ). open_byte ∷ t) (parts ∙ sym regroup);
    }

abbrev BehindPath : Scope → ℕ → AttributePath → Tree → List ℕ → Type 0
BehindPath i n path t text = (p : List ℕ) → IsPath i p path → Spells i Term n (p ++ text) t

listed_takes : (filter : Scope → Reader) (i : Scope) (n : ℕ) (path : AttributePath) (bytes : List ℕ) (x : Tree × List ℕ) → TakesInner filter n → bytes ≡ 91 ∷ drop 1 bytes → listed_at filter i path (drop 1 bytes) ≡ Ok x → Completes (BehindPath i n path x.0) bytes x.1
unfolding listed_at
listed_takes filter (SubAttributes a) n path bytes x inner first e = absurd cc
listed_takes filter (Attributes kind) n path bytes x inner first e =
    let within = SubAttributes (attribute_meant path.meant) in
    let m = mapped_ok (Values path) (enclosed_at 93 (filter within) (drop 1 bytes)) x e in
    let t = enclosed_takes filter within n 91 93 (drop 1 bytes) m.0 inner m.1 in
    let made : BehindPath (Attributes kind) n path (Values path m.0.0) t.text = λ p is_path. subst (λ k. Spells (Attributes kind) Term k (p ++ t.text) (Values path m.0.0)) (sym t.is_depth) (values p is_path t.spells t.encloses) in
    subst (λ (z : Tree × List ℕ). Completes (BehindPath (Attributes kind) n path z.0) bytes z.1) m.2 (record { text = t.text; completes = made; whole = first ∙ t.whole })

behind_path_takes : (filter : Scope → Reader) (i : Scope) (n : ℕ) (path : AttributePath) (bytes : List ℕ) (x : Tree × List ℕ) → TakesInner filter n → behind_path_at filter i path bytes ≡ Ok x → Completes (BehindPath i n path x.0) bytes x.1
unfolding behind_path_at
behind_path_takes filter i n path bytes x inner e =
    let relates = ok_or (past_gap bytes) Syntax >>= relation_at path in
    chosen (Completes (BehindPath i n path x.0) bytes x.1) (eqb (slice_index bytes 0) 91) (listed_at filter i path (drop 1 bytes)) relates (Ok x) e
    (λ h f. listed_takes filter i n path bytes x inner (first_is bytes 90 h) f)
    (λ _ f.
    let b = bind_ok (ok_or (past_gap bytes) Syntax) (relation_at path) x f in
    let gap = gap_takes bytes b.0 (ok_or_some (past_gap bytes) Syntax b.0 b.1) in
    let r = relation_takes i n path b.0 x b.2 in
    record { text = gap.gap ++ r.text; completes = λ p is_path. r.completes p gap.gap is_path gap.is_gap; whole = gap.whole ∙ ap (λ (t : List ℕ). gap.gap ++ t) r.whole ∙ sym (append_assoc gap.gap r.text x.1) })

worded_takes : (filter : Scope → Reader) (i : Scope) (n : ℕ) (bytes : List ℕ) (x : Tree × List ℕ) → TakesInner filter n → worded_at filter i bytes ≡ Ok x → Takes (Spells i Term n) bytes x
unfolding worded_at
worded_takes filter i n bytes x inner e =
    let w = front is_word_byte bytes in
    let after = behind is_word_byte bytes in
    let s = front is_space after in
    let rest = behind is_space after in
    let negated = mapped Not (enclosed_at 41 (filter i) (drop 1 rest)) in
    let named = path_of i w >>= λ path. behind_path_at filter i path after in
    chosen (Takes (Spells i Term n) bytes x) (is_word (codes "not") w && eqb (slice_index rest 0) 40) negated named (Ok x) e
    (λ h f.
    let both = both_true (is_word (codes "not") w) (eqb (slice_index rest 0) 40) h in
    let m = mapped_ok Not (enclosed_at 41 (filter i) (drop 1 rest)) x f in
    let t = enclosed_takes filter i n 40 41 (drop 1 rest) m.0 inner m.1 in
    let parts : bytes ≡ w ++ (s ++ (t.text ++ m.0.1)) = front-behind is_word_byte bytes ∙ ap (λ (q : List ℕ). w ++ q) (front-behind is_space after ∙ ap (λ (q : List ℕ). s ++ q) (first_is rest 39 both.1 ∙ t.whole)) in
    let regroup : (w ++ (s ++ t.text)) ++ m.0.1 ≡ w ++ (s ++ (t.text ++ m.0.1)) = simp append_assoc in
    subst (λ z. Takes (Spells i Term n) bytes z) m.2 (record { text = w ++ (s ++ t.text); spells = subst (λ k. Spells i Term k (w ++ (s ++ t.text)) (Not m.0.0)) (sym t.is_depth) (negation w s both.0 (blank_front after) t.spells t.encloses); whole = parts ∙ sym regroup }))
    (λ _ f.
    let b = bind_ok (path_of i w) (λ path. behind_path_at filter i path after) x f in
    let r = behind_path_takes filter i n b.0 after x inner b.2 in
    record { text = w ++ r.text; spells = r.completes w (path_takes i w b.0 b.1); whole = front-behind is_word_byte bytes ∙ ap (λ (t : List ℕ). w ++ t) r.whole ∙ sym (append_assoc w r.text x.1) })

pub term_takes : (filter : Scope → Reader) (i : Scope) (n : ℕ) (bytes : List ℕ) (x : Tree × List ℕ) → TakesInner filter n → term_at filter i bytes ≡ Ok x → Takes (Spells i Term n) bytes x
unfolding term_at
term_takes filter i n bytes x inner e =
    chosen (Takes (Spells i Term n) bytes x) (eqb (slice_index bytes 0) 40) (enclosed_at 41 (filter i) (drop 1 bytes)) (worded_at filter i bytes) (Ok x) e
    (λ h f.
    let t = enclosed_takes filter i n 40 41 (drop 1 bytes) x inner f in
    record { text = t.text; spells = subst (λ k. Spells i Term k t.text x.0) (sym t.is_depth) (group t.spells t.encloses); whole = first_is bytes 39 h ∙ t.whole })
    (λ _ f. worded_takes filter i n bytes x inner f)

pub conjunction_takes : (filter : Scope → Reader) (i : Scope) (n : ℕ) (bytes : List ℕ) (x : Tree × List ℕ) → TakesInner filter n → conjunction_at filter i bytes ≡ Ok x → Takes (Spells i Conjunction n) bytes x
unfolding conjunction_at
conjunction_takes filter i n bytes x inner e =
    chain_takes (term_at filter i) (codes "and") And (Spells i Term n) (Spells i Conjunction n) (λ a t h. one_term h) (λ a w b t u h j k. both h j k) (λ bs y f. term_takes filter i n bs y inner f) (suc (length bytes)) bytes x e

pub disjunction_takes : (filter : Scope → Reader) (i : Scope) (n : ℕ) (bytes : List ℕ) (x : Tree × List ℕ) → TakesInner filter n → disjunction_at filter i bytes ≡ Ok x → Takes (Spells i Disjunction n) bytes x
unfolding disjunction_at
disjunction_takes filter i n bytes x inner e =
    chain_takes (conjunction_at filter i) (codes "or") Or (Spells i Conjunction n) (Spells i Disjunction n) (λ a t h. one_conjunction h) (λ a w b t u h j k. either h j k) (λ bs y f. conjunction_takes filter i n bs y inner f) (suc (length bytes)) bytes x e

pub filter_takes : (n : ℕ) → TakesInner (filter_at n) n
unfolding filter_at
filter_takes zero i bytes x e = absurd cc
filter_takes (suc n) i bytes x e = (n, refl, disjunction_takes (filter_at n) i n bytes x (filter_takes n) e)

-- what is read is no longer than the bytes
pub term_shrinks : (n : ℕ) (i : Scope) (bytes : List ℕ) (x : Tree × List ℕ) → term_at (filter_at n) i bytes ≡ Ok x → length x.1 ≤ length bytes
term_shrinks n i bytes x e = let t = term_takes (filter_at n) i n bytes x (filter_takes n) e in omega (arith, ap length t.whole, length-append t.text x.1)

pub conjunction_shrinks : (n : ℕ) (i : Scope) (bytes : List ℕ) (x : Tree × List ℕ) → conjunction_at (filter_at n) i bytes ≡ Ok x → length x.1 ≤ length bytes
conjunction_shrinks n i bytes x e = let t = conjunction_takes (filter_at n) i n bytes x (filter_takes n) e in omega (arith, ap length t.whole, length-append t.text x.1)
