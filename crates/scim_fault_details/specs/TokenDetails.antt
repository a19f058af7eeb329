-- What is told of the fault of a token file.
use Rattle.std.specs.Prelude.{◌≡◌, ℕ, ◌-◌, List, [], Option, None, Some, unwrap_or, slice_get, Result, Ok, Err}
use Rattle.std.specs.List.{slice_split}
use Rattle.scim_token.specs.declared.faults.TokenFault.{TokenFault}
use Rattle.scim_token.specs.TokenFile.{Entry, entries_in, first_shared, is_line_feed}
use Rattle.scim_fault_details.specs.declared.token_details.TokenDetail.{TokenDetail}

-- the line with this number, from 1; empty if there is none
abbrev pub line_at : ℕ → List ℕ → List ℕ
line_at n text = unwrap_or (slice_get (slice_split is_line_feed text) (n - 1)) []

-- the number of the first line of a file that has the digest of one of these entries; None if there are no entries
abbrev pub shared_line : List ℕ → Result (List Entry) TokenFault → Option ℕ
shared_line text (Ok entries) = first_shared entries text
shared_line text (Err fault) = None

-- the detail has the cause of the fault, and the number of the first line with the digest of the faulty one, if that has
-- a digest
pub record IsDetailOf (text : List ℕ) (fault : TokenFault) (detail : TokenDetail) : Type 0 where
  pub cause : detail.cause ≡ fault.cause
  pub earlier : detail.earlier ≡ shared_line text (entries_in (line_at fault.line text))

-- there is a detail of a file that has a fault, and none of any other
abbrev pub IsDetail : List ℕ → Result (List Entry) TokenFault → Option TokenDetail → Type 0
IsDetail text (Ok entries) o = o ≡ None
IsDetail text (Err fault) None = ⊥
IsDetail text (Err fault) (Some detail) = IsDetailOf text fault detail
