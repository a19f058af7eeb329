-- The line of a token is read as an entry of a token file.
use Rattle.std.specs.Prelude.{◌≡◌, ℕ, ◌+◌, ◌==◌, true, false, List, [], ◌∷◌, ◌++◌, length, take, drop, Some, Ok}
use Rattle.std.specs.List.{list_all, position_or_len}
use Rattle.std.specs.Result.{result_ok}
use Rattle.std.proofs.Common.{refl, sym, ap, ◌∙◌, arith, suc}
use Rattle.std.proofs.lemmas.List.{length-append}
use Rattle.std.proofs.lemmas.Bool.{and_parts, ne_eqb}
use Rattle.hex.specs.Hex.{IsBytes, encode_lower}
use Rattle.hex.proofs.HexLemmas.{decode_sized-encode_lower}
use Rattle.sha2.specs.Sha256.{sha256}
use Rattle.sha2.proofs.Facts256.{length-sha256}
use Rattle.scim_policy_file.specs.Paths.{is_client_byte, is_client_name}
use Rattle.scim_token.specs.TokenFile.{digest_in, entry_in, is_space, says_nothing}
use Rattle.scim_new_token.specs.NewToken.{IsLineOf, line_of}

-- a byte that isn't one of clients' names is no byte of a client's name
other_byte : (b n : ℕ) → is_client_byte n ≡ false → is_client_byte b ≡ true → (b == n) ≡ false
other_byte b n none h = ne_eqb b n (λ same. let both : true ≡ false = sym h ∙ ap is_client_byte same ∙ none in cc)

-- the first space is behind the name
space_behind : (client rest : List ℕ) → list_all is_client_byte client ≡ true
    → position_or_len is_space (client ++ 32 ∷ rest) ≡ length client
space_behind [] rest h = refl
space_behind (b ∷ bs) rest h =
    let parts = and_parts (is_client_byte b) (list_all is_client_byte bs) h in
    let later = space_behind bs rest parts.1 in
    rw (other_byte b 32 refl parts.0) (omega (arith, later))

before : (client rest : List ℕ) → take (length client) (client ++ rest) ≡ client
before [] rest = refl
before (b ∷ bs) rest = ap (λ xs. b ∷ xs) (before bs rest)

behind_one : (client : List ℕ) (b : ℕ) (rest : List ℕ) → drop (suc (length client)) (client ++ b ∷ rest) ≡ rest
behind_one [] b rest = refl
behind_one (c ∷ cs) b rest = behind_one cs b rest

behind : (client : List ℕ) (b : ℕ) (rest : List ℕ) → drop (length client + 1) (client ++ b ∷ rest) ≡ rest
behind client b rest =
    let next : length client + 1 ≡ suc (length client) = omega arith in
    ap (λ n. drop n (client ++ b ∷ rest)) next ∙ behind_one client b rest

shorter : (client : List ℕ) (b : ℕ) (rest : List ℕ) → (length client == length (client ++ b ∷ rest)) ≡ false
shorter client b rest =
    let both = length-append client (b ∷ rest) in
    ne_eqb (length client) (length (client ++ b ∷ rest)) (λ same. absurd (omega (arith, same, both)))

starts : (client rest : List ℕ) → is_client_name client ≡ true → says_nothing (client ++ rest) ≡ false
unfolding is_client_name
starts [] rest h = cc
starts (b ∷ bs) rest h =
    other_byte b 35 refl (and_parts (is_client_byte b) (list_all is_client_byte bs) (and_parts _ _ (and_parts _ _ h).1).1).0

named : (client : List ℕ) → is_client_name client ≡ true → list_all is_client_byte client ≡ true
unfolding is_client_name
named client h = (and_parts _ _ (and_parts _ _ h).1).1

-- the digits of a digest are read back
digits : (token : List ℕ) → IsBytes (sha256 token) → digest_in (encode_lower (sha256 token)) ≡ Some (sha256 token)
digits token bytes = ap result_ok (decode_sized-encode_lower (sha256 token) 32 (length-sha256 token) bytes)

pub is_line : (client token : List ℕ) → is_client_name client ≡ true → IsBytes (sha256 token)
    → IsLineOf client token (line_of client token)
is_line client token h bytes =
    let hex = encode_lower (sha256 token) in
    let place = space_behind client hex (named client h) in record {
      counts = starts client (32 ∷ hex) h;
      entry = rw (place, shorter client 32 hex, before client (32 ∷ hex), h, behind client 32 hex, digits token bytes) refl;
    }
