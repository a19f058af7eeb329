-- The beginning of a stream of requests, and the prefixes of a text that is written.
use Rattle.std.specs.Prelude.{◌≡◌, ℕ, List, ◌++◌, Option}
use Rattle.std.specs.Io.KnownBytes.{Appends}
use Rattle.httparse.specs.Grammar.{LineEnd, print_blank}
use Rattle.scim_wire.specs.Parts.{IsHeadPart}

-- the input consists of empty lines, a text that satisfies `IsText`, and the bytes `after`
pub record OpensThen (IsText : List ℕ → Type 0) (input after : List ℕ) : Type 0 where
  pub blank : List LineEnd
  pub text : List ℕ
  pub split : input ≡ print_blank blank ++ (text ++ after)
  pub is_text : IsText text

-- the input consists of empty lines and the unfinished head `part`
pub record IsOpening (input part : List ℕ) : Type 0 where
  pub blank : List LineEnd
  pub split : input ≡ print_blank blank ++ part
  pub is_part : IsHeadPart part

-- the input consists of empty lines and an unfinished head
abbrev pub IsUnended : List ℕ → Type 0
IsUnended input = (part : List ℕ) × IsOpening input part

-- the bytes are a prefix of the text, perhaps empty or whole
abbrev pub BeginsWith : List ℕ → List ℕ → Type 0
BeginsWith text front = (back : List ℕ) × (text ≡ front ++ back)

-- the writer's contents grow by a prefix of the text and nothing else
abbrev pub AppendsFront : Option (List ℕ) → Option (List ℕ) → List ℕ → Type 0
AppendsFront old new text = (front : List ℕ) × BeginsWith text front × Appends old new front
