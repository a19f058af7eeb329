-- What a scripted system reads.
use Rattle.std.specs.Prelude.{List}
use Rattle.scim_token.specs.TokenFile.{Entry}
use Rattle.scim_token.specs.declared.token_table.Tokens.{Tokens}
use Rattle.scim_token.specs.Tokens.{Knows}

-- The table of tokens has the entries of some token file.
abbrev pub KnowsSome : Tokens → Type 0
KnowsSome tokens = (entries : List Entry) × Knows entries tokens
