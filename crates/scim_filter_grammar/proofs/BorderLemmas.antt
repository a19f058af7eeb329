-- A text may be cut where a token begins or ends, since an ASCII byte stands there.
use Rattle.std.proofs.Common.{◌≡◌, ℕ, ◌+◌, ◌-◌, ◌<◌, Bool, true, false, cond, eqb, leb, List, [], ◌∷◌, ◌++◌, length, drop, get_or, Some, None, refl, sym, ap, subst, ◌∙◌, append_assoc, length-append, arith}
use Rattle.std.specs.Prelude.{slice_index, not}
use Rattle.std.specs.Str.{IsUtf8, IsCharBoundary}
use Rattle.std.proofs.Math.Seq.{append_snoc, drop-append_seam, drop-append-add, get_or-append_seam}
use Rattle.std.proofs.lemmas.Bool.{leb-false, eqb-true}
use Rattle.std.proofs.lemmas.Str.{IsUtf8-nil, IsUtf8-drop, IsCharBoundary-at_seam, IsCharBoundary-before_ascii, IsCharBoundary-after_ascii}
use Rattle.scim_filter_grammar.specs.Bytes.{is_word_byte, front, behind, past_quote}
use Rattle.scim_filter_grammar.specs.Tokens.{is_bracket, past_token}
use Rattle.scim_filter_grammar.proofs.FrontLemmas.{chosen, front-behind, behind_first}
use Rattle.scim_filter_grammar.proofs.SpelledLemmas.{not_at, word_byte}

-- what is left of a text, from where a character begins
pub record IsRest (text rest : List ℕ) : Type 0 where
  pub before : List ℕ
  pub whole : text ≡ before ++ rest
  pub utf8 : IsUtf8 rest

pub rest_boundary : (text rest : List ℕ) → IsRest text rest → IsCharBoundary text (length text - length rest)
rest_boundary text rest r =
    let n : length r.before ≡ length text - length rest = omega (arith, ap length r.whole, length-append r.before rest) in
    subst (IsCharBoundary text) n (IsCharBoundary-at_seam text r.before rest r.whole r.utf8)

rest_of_rest : (text rest passed after : List ℕ) → IsRest text rest → rest ≡ passed ++ after → IsUtf8 after → IsRest text after
rest_of_rest text rest passed after r e u = record { before = r.before ++ passed; whole = r.whole ∙ ap (λ (t : List ℕ). r.before ++ t) e ∙ sym (append_assoc r.before passed after); utf8 = u }

after_ascii : (before rest : List ℕ) (c : ℕ) → c < 128 → IsUtf8 (before ++ c ∷ rest) → IsUtf8 rest
after_ascii before rest c lt u =
    let text = before ++ c ∷ rest in
    let at : get_or text (length before) 0 < 128 = rw (get_or-append_seam before c rest 0) lt in
    let there : length before < length text = omega (arith, length-append before (c ∷ rest)) in
    subst IsUtf8 (drop-append-add before (c ∷ rest) 1) (IsUtf8-drop text (length before + 1) u (IsCharBoundary-after_ascii text (length before) u there at))

before_ascii : (before rest : List ℕ) (c : ℕ) → c < 128 → IsUtf8 (before ++ c ∷ rest) → IsUtf8 (c ∷ rest)
before_ascii before rest c lt u =
    let text = before ++ c ∷ rest in
    let at : get_or text (length before) 0 < 128 = rw (get_or-append_seam before c rest 0) lt in
    let there : length before < length text = omega (arith, length-append before (c ∷ rest)) in
    subst IsUtf8 (drop-append_seam before (c ∷ rest)) (IsUtf8-drop text (length before) u (IsCharBoundary-before_ascii text (length before) there at))

-- a byte that fails a test which all bytes from 128 on pass
below : (p : ℕ → Bool) (b : ℕ) → (leb 128 b ≡ true → p b ≡ true) → p b ≡ false → b < 128
below p b h e =
    let at : (w : Bool) → leb 128 b ≡ w → b < 128 =
    λ w. elim w as (λ x. leb 128 b ≡ x → b < 128) [ true ↦ λ k. absurd (let no : p b ≡ true = h k in cc) | false ↦ λ k. leb-false 128 b k ]
    in at (leb 128 b) refl

stop_below : (b : ℕ) → is_word_byte b ≡ false → b < 128
stop_below b = below is_word_byte b (λ h. word_byte (leb 128) b h refl refl refl refl refl refl)

bracket_below : (b : ℕ) → is_bracket b ≡ true → b < 128
bracket_below b e = below (λ c. not (is_bracket c)) b (λ h. rw (not_at (leb 128) b 40 h refl, not_at (leb 128) b 41 h refl, not_at (leb 128) b 91 h refl, not_at (leb 128) b 93 h refl) refl) (ap not e)

-- what stands behind a quote
record BehindQuote (bytes rest : List ℕ) : Type 0 where
  before : List ℕ
  whole : bytes ≡ before ++ 34 ∷ rest

further : (b : ℕ) (bs rest : List ℕ) → BehindQuote bs rest → BehindQuote (b ∷ bs) rest
further b bs rest q = record { before = b ∷ q.before; whole = ap (λ (t : List ℕ). b ∷ t) q.whole }

behind_now : (b : ℕ) (bs rest : List ℕ) → eqb b 34 ≡ true → Some bs ≡ Some rest → BehindQuote (b ∷ bs) rest
behind_now b bs rest h e = let first : b ≡ 34 = eqb-true _ _ h in let same : bs ≡ rest = cc in record { before = []; whole = cc }

behind_quote : (bs rest : List ℕ) → past_quote bs ≡ Some rest → BehindQuote bs rest
behind_quote [] rest e = absurd cc
behind_quote (b ∷ []) rest e =
    chosen (BehindQuote (b ∷ []) rest) (eqb b 34) (Some []) (cond (eqb b 92) None None) (Some rest) e
    (behind_now b [] rest)
    (λ h f. chosen (BehindQuote (b ∷ []) rest) (eqb b 92) None None (Some rest) f (λ k g. absurd cc) (λ k g. absurd cc))
behind_quote (b ∷ d ∷ ds) rest e =
    chosen (BehindQuote (b ∷ d ∷ ds) rest) (eqb b 34) (Some (d ∷ ds)) (cond (eqb b 92) (past_quote ds) (past_quote (d ∷ ds))) (Some rest) e
    (behind_now b (d ∷ ds) rest)
    (λ h f. chosen (BehindQuote (b ∷ d ∷ ds) rest) (eqb b 92) (past_quote ds) (past_quote (d ∷ ds)) (Some rest) f
    (λ k g. further b (d ∷ ds) rest (further d ds rest (behind_quote ds rest g)))
    (λ k g. further b (d ∷ ds) rest (behind_quote (d ∷ ds) rest g)))

behind_word : (b : ℕ) (bs rest : List ℕ) → IsUtf8 (b ∷ bs) → behind is_word_byte bs ≡ rest → IsUtf8 rest
behind_word b bs [] u e = IsUtf8-nil
behind_word b bs (x ∷ xs) u e =
    let whole : b ∷ bs ≡ (b ∷ front is_word_byte bs) ++ x ∷ xs = ap (λ (t : List ℕ). b ∷ t) (front-behind is_word_byte bs ∙ ap (λ (t : List ℕ). front is_word_byte bs ++ t) e) in
    before_ascii (b ∷ front is_word_byte bs) xs x (stop_below x (behind_first is_word_byte bs x xs e)) (subst IsUtf8 whole u)

pub rest_behind_space : (text rest : List ℕ) → IsRest text rest → 0 < length rest → slice_index rest 0 ≡ 32 → IsRest text (drop 1 rest)
rest_behind_space text [] r lt h = absurd (omega arith)
rest_behind_space text (b ∷ bs) r lt h = rest_of_rest text (b ∷ bs) (b ∷ []) bs r refl (after_ascii [] bs b (omega (arith, h)) r.utf8)

pub rest_behind_token : (text rest after : List ℕ) → IsRest text rest → 0 < length rest → past_token (slice_index rest 0) (drop 1 rest) ≡ Some after → IsRest text after
rest_behind_token text [] after r lt e = absurd (omega arith)
rest_behind_token text (b ∷ bs) after r lt e =
    chosen (IsRest text after) (eqb b 34) (past_quote bs) (cond (is_bracket b) (Some bs) (Some (behind is_word_byte bs))) (Some after) e
    (λ h f.
    let q = behind_quote bs after f in
    let whole : b ∷ bs ≡ b ∷ q.before ++ 34 ∷ after = ap (λ (t : List ℕ). b ∷ t) q.whole in
    let regroup : (b ∷ q.before ++ 34 ∷ []) ++ after ≡ b ∷ q.before ++ 34 ∷ after = append_snoc (b ∷ q.before) 34 after in
    rest_of_rest text (b ∷ bs) (b ∷ q.before ++ 34 ∷ []) after r (whole ∙ sym regroup) (after_ascii (b ∷ q.before) after 34 (omega arith) (subst IsUtf8 whole r.utf8)))
    (λ h f. chosen (IsRest text after) (is_bracket b) (Some bs) (Some (behind is_word_byte bs)) (Some after) f
    (λ k g. let same : bs ≡ after = cc in rest_of_rest text (b ∷ bs) (b ∷ []) after r (ap (λ (t : List ℕ). b ∷ t) same) (subst IsUtf8 same (after_ascii [] bs b (bracket_below b k) r.utf8)))
    (λ k g. let same : behind is_word_byte bs ≡ after = cc in rest_of_rest text (b ∷ bs) (b ∷ front is_word_byte bs) after r (ap (λ (t : List ℕ). b ∷ t) (front-behind is_word_byte bs ∙ ap (λ (t : List ℕ). front is_word_byte bs ++ t) same)) (behind_word b bs after r.utf8 same)))
