-- The framing of a request's body by its headers (RFC 9112 section 6).
use Rattle.std.specs.Prelude.{ℕ, min, Bool, ◌&&◌, List, [], ◌∷◌, length, Option, Some, None, Result, Ok, Err, if◌then◌else◌, nat_lt, codes}
use Rattle.std.specs.List.{list_any, list_all}
use Rattle.std.specs.Char.{is_ascii_digit}
use Rattle.std.specs.Str.Parse.{digits_value}
use Rattle.scim_audit.specs.declared.refusals.Refusal.{Refusal}
use Rattle.scim_audit.specs.declared.refusals.Refusal.TheVariants.{TooLarge, BadFraming, UnknownCoding}
use Rattle.scim_wire.specs.declared.body_framing.Framing.{Framing}
use Rattle.scim_wire.specs.declared.body_framing.Framing.TheVariants.{Sized, Chunked}
use Rattle.scim_schema.specs.declared.limits.TheConstants.{MAX_BODY}
use Rattle.scim_wire.specs.Headers.{same_name, values_named}

-- whether the bytes are one or more digits (1*DIGIT)
abbrev pub is_number : List ℕ → Bool
is_number digits = nat_lt 0 (length digits) && list_all is_ascii_digit digits

-- the number with these decimal digits, or `cap` if the number is larger; `None` if the bytes aren't one or
-- more digits
abbrev pub number_up_to : ℕ → List ℕ → Option ℕ
number_up_to cap digits = if is_number digits then Some (min (digits_value 10 digits) cap) else None

-- whether the bytes are the digits of a number above the limit of a body
abbrev pub is_over_limit : List ℕ → Bool
is_over_limit digits = is_number digits && nat_lt MAX_BODY (digits_value 10 digits)

-- the framing for one value of `Content-Length`; the error `BadFraming` if it isn't a number
abbrev pub sized : List ℕ → Result Framing Refusal
sized digits = if is_number digits then Ok (Sized (digits_value 10 digits)) else Err BadFraming

-- the framing for one value of `Transfer-Encoding`; the error `UnknownCoding` if it isn't `chunked`
abbrev pub coded : List ℕ → Result Framing Refusal
coded coding = if same_name coding (codes "chunked") then Ok Chunked else Err UnknownCoding

-- the framing for these values of `Content-Length`, which are within the limit, and these values of
-- `Transfer-Encoding`
abbrev pub framing_by : List (List ℕ) → List (List ℕ) → Result Framing Refusal
framing_by [] [] = Ok (Sized 0)
framing_by (length ∷ []) [] = sized length
framing_by [] (coding ∷ []) = coded coding
framing_by _ _ = Err BadFraming

-- the framing of the body that follows headers with these names and values
abbrev pub framing : List (List ℕ × List ℕ) → Result Framing Refusal
framing fields =
    let lengths = values_named (codes "content-length") fields in
    let codings = values_named (codes "transfer-encoding") fields in
    if list_any is_over_limit lengths then Err TooLarge else framing_by lengths codings
