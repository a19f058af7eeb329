-- How string literals are stored.
use Rattle.std.specs.Prelude.{◌≡◌}
use Rattle.scim_text.specs.Names.{folded}
use Rattle.scim_filter_grammar.specs.declared.string_literals.StringLiteral.TheInside.{Inside as LiteralInside}
use Rattle.scim_text.specs.MomentIn.{moment_in}

-- the invariant of a stored string literal: its folded text, and its date and time, are computed from its
-- text
abbrev pub IsSoundLiteral : LiteralInside → Type 0
IsSoundLiteral s = (s.folded ≡ folded s.text) × (s.moment ≡ moment_in s.text)
