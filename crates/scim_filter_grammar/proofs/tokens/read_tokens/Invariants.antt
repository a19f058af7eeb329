use Rattle.std.proofs.Common.{ℕ, ◌≤◌, ◌++◌, List, All, length}
use Rattle.scim_filter_grammar.specs.Tokens.{Span, spans, Tokens, Unclosed, IsSlice}
use Rattle.scim_filter_grammar.proofs.BorderLemmas.{IsRest}
use Rattle.scim_filter_grammar.proofs.tokens.read_tokens.Given as goal

abbrev pub invariant-loop-rest : goal.invariant-loop-rest
invariant-loop-rest l = record {
  left : IsRest l.text l.rest;
  in_range : length l.rest ≤ length l.text;
  found : (ts : List Span) → Tokens (length l.text) l.rest ts → Tokens (length l.text) l.text (spans l.tokens.items ++ ts);
  unclosed : (at : ℕ) → Unclosed (length l.text) l.rest at → Unclosed (length l.text) l.text at;
  slices : All (IsSlice l.text) l.tokens.items;
  only : (ts : List Span) → Tokens (length l.text) l.text ts → (more : List Span) × Tokens (length l.text) l.rest more;
}

abbrev pub decreases-loop-rest : goal.decreases-loop-rest
decreases-loop-rest l = length l.rest
