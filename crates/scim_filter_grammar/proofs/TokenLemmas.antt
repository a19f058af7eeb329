-- One step over the tokens of a text.
use Rattle.std.proofs.Common.{cond, eqb, ◌≡◌, ℕ, ◌-◌, ◌<◌, List, [], ◌∷◌, length, drop, Some, None, refl, sym, subst, arith}
use Rattle.std.specs.Prelude.{◌≢◌, slice_index}
use Rattle.scim_filter_grammar.specs.Bytes.{is_word_byte, behind, past_quote}
use Rattle.scim_filter_grammar.specs.Tokens.{is_bracket, past_token, Span, Tokens, done, space, token, Unclosed, here, past_space, past_one}
use Rattle.std.proofs.lemmas.Bool.{eqb-true}
use Rattle.scim_filter_grammar.proofs.FrontLemmas.{chosen}

pub space_at : (total : ℕ) (rest : List ℕ) (ts : List Span) → 0 < length rest → slice_index rest 0 ≡ 32 → Tokens total (drop 1 rest) ts → Tokens total rest ts
space_at total [] ts lt h t = absurd (omega arith)
space_at total (b ∷ bs) ts lt h t = subst (λ c. Tokens total (c ∷ bs) ts) (sym h) (space t)

pub token_at : (total : ℕ) (rest after : List ℕ) (ts : List Span) → 0 < length rest → slice_index rest 0 ≢ 32 → past_token (slice_index rest 0) (drop 1 rest) ≡ Some after → Tokens total after ts → Tokens total rest ((total - length rest, total - length after) ∷ ts)
token_at total [] after ts lt n h t = absurd (omega arith)
token_at total (b ∷ bs) after ts lt n h t = token n h t

-- what is left, where the text has tokens
pub after_space : (total : ℕ) (rest : List ℕ) (ts : List Span) → 0 < length rest → slice_index rest 0 ≡ 32 → Tokens total rest ts → (more : List Span) × Tokens total (drop 1 rest) more
after_space total [] ts lt h t = absurd (omega arith)
after_space total (b ∷ bs) ts lt h (space t) = (ts, t)
after_space total (b ∷ bs) ts lt h (token n e t) = absurd (n h)

pub after_token : (total : ℕ) (rest after : List ℕ) (ts : List Span) → 0 < length rest → slice_index rest 0 ≢ 32 → past_token (slice_index rest 0) (drop 1 rest) ≡ Some after → Tokens total rest ts → (more : List Span) × Tokens total after more
after_token total [] after ts lt n h t = absurd (omega arith)
after_token total (b ∷ bs) after ts lt n h (space t) = absurd (n refl)
after_token total (b ∷ bs) after ts lt n h (token {rest = r} {ts = more} m e t) = let same : r ≡ after = cc in (more, subst (λ q. Tokens total q more) same t)

pub no_token : (total : ℕ) (rest : List ℕ) (ts : List Span) → 0 < length rest → slice_index rest 0 ≢ 32 → past_token (slice_index rest 0) (drop 1 rest) ≡ None → Tokens total rest ts → ⊥
no_token total [] ts lt n h t = absurd (omega arith)
no_token total (b ∷ bs) ts lt n h (space t) = absurd (n refl)
no_token total (b ∷ bs) ts lt n h (token m e t) = absurd cc

pub done_at : (total : ℕ) (rest : List ℕ) → length rest ≡ 0 → Tokens total rest []
done_at total [] h = done
done_at total (b ∷ bs) h = absurd (omega arith)

-- the same for a string that isn't closed
pub unclosed_behind_space : (total : ℕ) (rest : List ℕ) (at : ℕ) → 0 < length rest → slice_index rest 0 ≡ 32 → Unclosed total (drop 1 rest) at → Unclosed total rest at
unclosed_behind_space total [] at lt h u = absurd (omega arith)
unclosed_behind_space total (b ∷ bs) at lt h u = subst (λ c. Unclosed total (c ∷ bs) at) (sym h) (past_space u)

pub unclosed_behind_token : (total : ℕ) (rest after : List ℕ) (at : ℕ) → 0 < length rest → slice_index rest 0 ≢ 32 → past_token (slice_index rest 0) (drop 1 rest) ≡ Some after → Unclosed total after at → Unclosed total rest at
unclosed_behind_token total [] after at lt n h u = absurd (omega arith)
unclosed_behind_token total (b ∷ bs) after at lt n h u = past_one n h u

pub unclosed_here : (total : ℕ) (rest : List ℕ) → 0 < length rest → past_token (slice_index rest 0) (drop 1 rest) ≡ None → Unclosed total rest (total - length rest)
unclosed_here total [] lt e = absurd (omega arith)
unclosed_here total (b ∷ bs) lt e =
    let P = Unclosed total (b ∷ bs) (total - length (b ∷ bs)) in
    chosen P (eqb b 34) (past_quote bs) (cond (is_bracket b) (Some bs) (Some (behind is_word_byte bs))) None e
    (λ h f. subst (λ c. Unclosed total (c ∷ bs) (total - length (b ∷ bs))) (sym (eqb-true _ _ h)) (here f))
    (λ h f. chosen P (is_bracket b) (Some bs) (Some (behind is_word_byte bs)) None f (λ k g. absurd cc) (λ k g. absurd cc))
