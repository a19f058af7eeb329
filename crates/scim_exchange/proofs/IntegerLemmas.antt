-- The number of a text is that of a literal in a filter.
use Rattle.std.proofs.Common.{◌≡◌, ℕ, List, refl}
use Rattle.scim_filter_grammar.specs.Reading.{integer_of}
use Rattle.scim_exchange.specs.QueryStrings.{integer_in}

pub as_literal : (text : List ℕ) → integer_of text ≡ integer_in text
unfolding integer_of integer_in
as_literal text = refl
