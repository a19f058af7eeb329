-- Token files: the clients' bearer tokens, as SHA-256 digests.
use Rattle.std.specs.Prelude.{ℕ, ◌+◌, ◌==◌, nat_eq, Bool, true, false, List, [], ◌∷◌, ◌++◌, length, find, Option, None, Some, option_map, Result, Ok, Err, if◌then◌else◌}
use Rattle.std.specs.List.{list_any, position, position_or_len, before_first, after_first, slice_split}
use Rattle.std.specs.Cmp.Lexicographic.{pointwise}
use Rattle.std.specs.Result.{result_ok}
use Rattle.hex.specs.Hex.{decode_sized}
use Rattle.scim_schema.specs.declared.limits.TheConstants.{MOST_TOKENS}
use Rattle.scim_policy_file.specs.Paths.{is_client_name}
use Rattle.scim_token.specs.declared.faults.LineFault.{LineFault}
use Rattle.scim_token.specs.declared.faults.LineFault.TheVariants.{BadLine, BadName, BadDigest, Twice, TooMany}
use Rattle.scim_token.specs.declared.faults.TokenFault.{TokenFault}

-- a client, and the SHA-256 of one of its tokens
pub record Entry : Type 0 where
  pub client : List ℕ
  pub digest : List ℕ

-- whether a line is empty or a comment, which begins with `#`
abbrev pub says_nothing : List ℕ → Bool
says_nothing [] = true
says_nothing (b ∷ bs) = b == 35

-- the 32 bytes that 64 hex digits in upper or lower case encode; `None` for any other text
abbrev pub digest_in : List ℕ → Option (List ℕ)
digest_in text = result_ok (decode_sized text 32)

-- the entry with this client and this digest; the error `BadDigest` if the digest is `None`
abbrev pub entry_with : List ℕ → Option (List ℕ) → Result Entry LineFault
entry_with client None = Err BadDigest
entry_with client (Some digest) = Ok (record { client = client; digest = digest })

-- whether a byte is a space
abbrev pub is_space : ℕ → Bool
is_space b = b == 32

-- the entry in a line: the client's name before the first space, and the digest after it; or the first fault
-- of the line
abbrev pub entry_in : List ℕ → Result Entry LineFault
entry_in line =
    if position_or_len is_space line == length line then Err BadLine
    else if is_client_name (before_first is_space line) then entry_with (before_first is_space line) (digest_in (after_first is_space line))
    else Err BadName

-- whether an entry has the digest
abbrev pub has_digest : List ℕ → Entry → Bool
has_digest digest e = pointwise nat_eq digest e.digest

-- the entries `known` with `e` added; the error `Twice` if an entry of `known` has the digest of `e`, or
-- `TooMany` if `known` has 10,000 entries already
abbrev pub added : List Entry → Entry → Result (List Entry) LineFault
added known e = if list_any (has_digest e.digest) known then Err Twice else if length known == MOST_TOKENS then Err TooMany else Ok (known ++ e ∷ [])

-- the entries `known` with the entry of a line added, or the first fault of the line
abbrev pub list_with_entry : List Entry → Result Entry LineFault → Result (List Entry) LineFault
list_with_entry known (Ok e) = added known e
list_with_entry known (Err fault) = Err fault

-- the entries after `line` is read, where `known` are the entries before it; or the first fault of the line
abbrev pub after_line : List Entry → List ℕ → Result (List Entry) LineFault
after_line known line = if says_nothing line then Ok known else list_with_entry known (entry_in line)

-- the result of `rest`, which reads the lines after line `n`; or the fault of line `n` if it has one
abbrev pub if_well : ℕ → Result (List Entry) LineFault → (List Entry → Result (List Entry) TokenFault) → Result (List Entry) TokenFault
if_well n (Ok known) rest = rest known
if_well n (Err cause) rest = Err (record { line = n; cause = cause })

-- the entries after these lines, or the first faulty line; `n` is the number of the first of these lines, and
-- `known` are the entries before it
unfoldable pub entries_from : ℕ → List Entry → List (List ℕ) → Result (List Entry) TokenFault
entries_from n known [] = Ok known
entries_from n known (line ∷ lines) = if_well n (after_line known line) (λ next. entries_from (n + 1) next lines)

-- whether a byte is a line feed
abbrev pub is_line_feed : ℕ → Bool
is_line_feed b = b == 10

-- the entries of a token file, or its first faulty line; a CR before a line feed is part of the line
abbrev pub entries_in : List ℕ → Result (List Entry) TokenFault
entries_in text = entries_from 1 [] (slice_split is_line_feed text)

-- the client that has the token with this digest; `None` if no client has it
abbrev pub client_with : List Entry → List ℕ → Option (List ℕ)
client_with entries digest = option_map (λ e. e.client) (find (has_digest digest) entries)

-- whether one of the entries `known` has the digest of this entry; a faulty line has none
abbrev pub is_known : List Entry → Result Entry LineFault → Bool
is_known known (Ok e) = list_any (has_digest e.digest) known
is_known known (Err fault) = false

-- whether the line has the digest of one of the entries `known`
abbrev pub is_shared : List Entry → List ℕ → Bool
is_shared known line = if says_nothing line then false else is_known known (entry_in line)

-- the number of the first line of a token file that has the digest of one of the entries `known`
abbrev pub first_shared : List Entry → List ℕ → Option ℕ
first_shared known text = option_map (λ before. before + 1) (position (is_shared known) (slice_split is_line_feed text))
