-- The tokens of a filter's text (RFC 7644 section 3.4.2.2).
use Rattle.std.specs.Prelude.{◌≡◌, ◌≢◌, ℕ, ◌-◌, Bool, ◌||◌, ◌==◌, List, [], ◌∷◌, map, length, slice_range, Option, Some, None, if◌then◌else◌}
use Rattle.scim_filter_grammar.specs.declared.tokens.Token.{Token}
use Rattle.scim_filter_grammar.specs.Bytes.{is_word_byte, behind, past_quote}

-- whether the byte is a round or square bracket
abbrev pub is_bracket : ℕ → Bool
is_bracket b = b == 40 || b == 41 || b == 91 || b == 93

-- the bytes after the first token: a string, a bracket, or a longest run of other bytes
abbrev pub past_token : ℕ → List ℕ → Option (List ℕ)
past_token b bs = if b == 34 then past_quote bs else if is_bracket b then Some bs else Some (behind is_word_byte bs)

-- the positions where a token begins and ends
abbrev pub Span : Type 0
Span = ℕ × ℕ

-- the span of each token
abbrev pub spans : List Token → List Span
spans ts = map (λ t. (t.start, t.end)) ts

-- the list has the spans of all tokens in the last bytes of a text with `total` bytes, in order
pub data Tokens (total : ℕ) : List ℕ → List Span → Type 0 where
  done : Tokens total [] []
  space : {bs : List ℕ} {ts : List Span} → Tokens total bs ts → Tokens total (32 ∷ bs) ts
  token : {b : ℕ} {bs rest : List ℕ} {ts : List Span} → b ≢ 32 → past_token b bs ≡ Some rest → Tokens total rest ts
      → Tokens total (b ∷ bs) ((total - length (b ∷ bs), total - length rest) ∷ ts)

-- an unclosed string begins at this position of a text with `total` bytes; between the start of the given
-- last bytes of the text and this position, there are only whole tokens and spaces
pub data Unclosed (total : ℕ) : List ℕ → ℕ → Type 0 where
  here : {bs : List ℕ} → past_quote bs ≡ None → Unclosed total (34 ∷ bs) (total - length (34 ∷ bs))
  past_space : {bs : List ℕ} {at : ℕ} → Unclosed total bs at → Unclosed total (32 ∷ bs) at
  past_one : {b : ℕ} {bs rest : List ℕ} {at : ℕ} → b ≢ 32 → past_token b bs ≡ Some rest → Unclosed total rest at → Unclosed total (b ∷ bs) at

-- the token's text is the part of the text in its span
abbrev pub IsSlice : List ℕ → Token → Type 0
IsSlice text t = t.slice.now ≡ slice_range text t.start t.end
