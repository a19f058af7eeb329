-- The entry that the code reads from a line.
use Rattle.scim_token.specs.declared.token_lines.TokenLine.{TokenLine}
use Rattle.scim_token.specs.TokenFile.{Entry}

-- the client and the digest of a token line, as an entry
abbrev pub entry_of : TokenLine → Entry
entry_of l = record { client = l.client.now; digest = l.digest.bytes }
