-- The text of a number alone has that number as its value.
use Rattle.std.proofs.Common.{◌≡◌, ℕ, List, [], ◌∷◌, Option, Some, None, option_map, option_and_then, refl, sym, ap, ◌∙◌, append-nil}
use Rattle.json.specs.Print.{IsNumber, ArePrintable, print, print_from}
use Rattle.json.specs.Lex.{tokens}
use Rattle.json.specs.Token.{Token}
use Rattle.json.specs.Json as json
use Rattle.json.specs.Json.{if_last}
use Rattle.json.proofs.Grammar.{value_is}
use Rattle.json.proofs.Printed.Tokens.{tokens-print}
use Rattle.serde_json.specs.Data.{Num, Data, number}
use Rattle.serde_json.specs.Find.{as_number}
use Rattle.serde_json.specs.Read.{of_json, number_of, read, max_depth}

printed : (s : List ℕ) → print (Token.number s ∷ []) ≡ s
unfolding print_from
printed s = append-nil s

tokens-number : (s : List ℕ) → IsNumber s → tokens s ≡ Token.number s ∷ []
unfolding ArePrintable
tokens-number s h = ap tokens (sym (printed s)) ∙ tokens-print (Token.number s ∷ []) (h, tt)

read-number : (s : List ℕ) → IsNumber s → read s ≡ option_map number (number_of s)
read-number s h = ap (λ ts. option_and_then of_json (option_and_then (λ p. if_last p.0 p.1) (json.value max_depth ts))) (tokens-number s h) ∙ ap (λ o. option_and_then of_json (option_and_then (λ p. if_last p.0 p.1) o)) (value_is max_depth (Token.number s ∷ []))

none_of : (o : Option Num) → option_map number o ≡ None → o ≡ None
none_of None e = refl
none_of (Some n) e = absurd (cc)

some_of : (o : Option Num) (d : Data) → option_map number o ≡ Some d → o ≡ as_number d
some_of None d e = absurd (cc)
some_of (Some n) d e = ap (λ o. option_and_then as_number o) e

-- a text of a number without a value has none as a number
pub no_number : (s : List ℕ) → IsNumber s → read s ≡ None → number_of s ≡ None
no_number s h e = none_of (number_of s) (sym (read-number s h) ∙ e)

-- the value of the text of a number is that number
pub number_read : (s : List ℕ) (d : Data) → IsNumber s → read s ≡ Some d → number_of s ≡ as_number d
number_read s d h e = some_of (number_of s) d (sym (read-number s h) ∙ e)
