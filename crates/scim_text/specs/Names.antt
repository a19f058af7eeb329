-- The comparison of names, and the folding of texts, without regard to case.
use Rattle.std.specs.Prelude.{ℕ, Bool, List, chars, encode_utf8_all}
use Rattle.std.specs.Str.{str_eq_ignore_ascii_case}
use Rattle.caseless.specs.Caseless.{default_case_fold}

-- whether two names are equal without regard to ASCII case (RFC 7643 section 2.1)
abbrev pub is_same_name : List ℕ → List ℕ → Bool
is_same_name a b = str_eq_ignore_ascii_case a b

-- the text in full Unicode case folding, equal for texts that differ only in case
unfoldable pub folded : List ℕ → List ℕ
folded text = encode_utf8_all (default_case_fold (chars text))
