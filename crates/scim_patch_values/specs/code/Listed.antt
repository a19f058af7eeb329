-- The set of texts in which the code looks up the `value` of each value.
use Rattle.std.specs.Prelude.{ℕ, ◌≡◌, String, List}
use Rattle.std.specs.List.{list_any}
use Rattle.std.specs.Str.{bytes_eq}
use Rattle.std.specs.declared.alloc.Global.{Global}
use Rattle.std.specs.BTreeSet.{BTreeSet, contains_text}

-- the set has exactly these texts
abbrev pub HoldsTexts : BTreeSet (String Global) → List (List ℕ) → Type 0
HoldsTexts set texts = (q : List ℕ) → contains_text set q ≡ list_any (bytes_eq q) texts
