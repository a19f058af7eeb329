-- The line of a token in a token file.
use Rattle.std.specs.Prelude.{◌≡◌, ℕ, false, List, ◌∷◌, ◌++◌, Ok}
use Rattle.hex.specs.Hex.{encode_lower}
use Rattle.sha2.specs.Sha256.{sha256}
use Rattle.scim_token.specs.TokenFile.{entry_in, says_nothing}

-- the client's name, a space, and the SHA-256 of the token in hex
abbrev pub line_of : List ℕ → List ℕ → List ℕ
line_of client token = client ++ 32 ∷ encode_lower (sha256 token)

-- a token file with this line gives the client this token
pub record IsLineOf (client token line : List ℕ) : Type 0 where
  pub counts : says_nothing line ≡ false
  pub entry : entry_in line ≡ Ok (record { client = client; digest = sha256 token })
