-- How the literals in a filter are spelled.
use Rattle.std.specs.Prelude.{◌≡◌, ℕ, ℤ, Bool, true, false, not, ◌&&◌, ◌==◌, nat_lt, nat_le, List, [], ◌∷◌, length, Some, codes, slice_index, if◌then◌else◌}
use Rattle.std.specs.List.{list_all}
use Rattle.std.specs.Char.{digit_value}
use Rattle.std.specs.Str.{IsUtf8}
use Rattle.std.specs.Str.Parse.{starts_with_minus, without_leading_sign, digits_value, signed_digits_value}
use Rattle.serde_json.specs.Data.{string}
use Rattle.serde_json.specs.Read.{read}
use Rattle.scim_filter_grammar.specs.declared.tree.Literal.{Literal}
use Rattle.scim_filter_grammar.specs.declared.tree.Literal.TheVariants as literal
use Rattle.scim_filter_grammar.specs.Bytes.{is_word, past_quote}

-- the text is the keyword, in any ASCII case
abbrev pub IsWord : List ℕ → List ℕ → Type 0
IsWord keyword text = is_word keyword text ≡ true

-- the text is a JSON string, with its quotes, that encodes the value
pub record IsString (text value : List ℕ) : Type 0 where
  pub body : List ℕ
  pub whole : text ≡ 34 ∷ body
  pub closes : past_quote body ≡ Some []
  pub utf8 : IsUtf8 text
  pub means : read text ≡ Some (string value)

-- whether the bytes are all digits
abbrev pub are_digits : List ℕ → Bool
are_digits text = list_all (λ c. nat_lt (digit_value c) 10) text

-- whether the number with this sign and absolute value fits a signed 64-bit integer
abbrev pub is_within : Bool → ℕ → Bool
is_within negative n = nat_le n (if negative then 9223372036854775808 else 9223372036854775807)

-- whether a word is an integer: an optional minus and one or more digits, fitting a signed 64-bit integer
abbrev pub is_integer : List ℕ → Bool
is_integer w =
    not (slice_index w 0 == 43) && nat_lt 0 (length (without_leading_sign w)) && are_digits (without_leading_sign w)
    && is_within (starts_with_minus w) (digits_value 10 (without_leading_sign w))

-- the text spells the integer
abbrev pub IsInteger : List ℕ → ℤ → Type 0
IsInteger text z = (is_integer text ≡ true) × (signed_digits_value 10 text ≡ z)

-- the text spells the literal
abbrev pub IsLiteral : List ℕ → Literal → Type 0
IsLiteral text (literal.Text s) = IsString text s
IsLiteral text (literal.Number z) = IsInteger text z
IsLiteral text (literal.Truth true) = IsWord (codes "true") text
IsLiteral text (literal.Truth false) = IsWord (codes "false") text
IsLiteral text literal.Null = IsWord (codes "null") text
