-- The syntax of a head's text.
use Rattle.std.specs.Prelude.{ℕ, ◌≤◌, List, [], length}
use Rattle.httparse.specs.Grammar.{RequestHead, ReadsRequest}

-- the text is the request line and headers of `h`, with at most 64 headers
abbrev pub IsRequestText : List ℕ → RequestHead → Type 0
IsRequestText text h = ReadsRequest text h [] × (length h.fields ≤ 64)

-- the text isn't a request line with at most 64 headers
abbrev pub SaysNothing : List ℕ → Type 0
SaysNothing text = (h : RequestHead) → ¬ (IsRequestText text h)
