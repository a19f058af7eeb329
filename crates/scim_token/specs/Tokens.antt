-- The entries that a token table holds.
use Rattle.std.specs.Prelude.{◌≡◌, ℕ, List, length, Option, Result, Ok, Err}
use Rattle.std.specs.HashMap.{get, hash_map_len}
use Rattle.scim_token.specs.declared.digests.Digest.{Digest}
use Rattle.scim_token.specs.contracts.digests.DigestPartialEq.TheImpl as digest_eq
use Rattle.scim_token.specs.declared.token_table.Tokens.{Tokens}
use Rattle.scim_token.specs.declared.faults.TokenFault.{TokenFault}
use Rattle.scim_token.specs.TokenFile.{Entry, client_with}

-- the client that the table has for a digest; `None` if the table doesn't have the digest
abbrev pub client_at : Tokens → Digest → Option (List ℕ)
client_at tokens d = get (digest_eq.ghosts).eq tokens.clients d

-- the table has exactly these entries
pub record Knows (entries : List Entry) (tokens : Tokens) : Type 0 where
  pub count : hash_map_len tokens.clients ≡ length entries
  pub clients : (d : Digest) → client_at tokens d ≡ client_with entries d.bytes

-- a token file is read correctly: the result is a table with exactly the file's entries, or the file's fault
abbrev pub Reads : Result (List Entry) TokenFault → Result Tokens TokenFault → Type 0
Reads (Ok entries) (Ok tokens) = Knows entries tokens
Reads (Err fault) (Err told) = told ≡ fault
Reads _ _ = ⊥
