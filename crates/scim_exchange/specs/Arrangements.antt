-- The order and the page of a search (RFC 7644 sections 3.4.2.3 and 3.4.2.4).
use Rattle.std.specs.Prelude.{ℕ, zero, suc, ℤ, pos, negsuc, min, Bool, true, false, List, codes, Option, None, Some, option_and_then, Result, Ok, Err, if◌then◌else◌}
use Rattle.scim_schema.specs.declared.limits.TheConstants.{MOST_SHOWN, USUALLY_SHOWN}
use Rattle.scim_schema.specs.declared.Kind.{Kind}
use Rattle.scim_text.specs.Names.{is_same_name}
use Rattle.scim_audit.specs.declared.refusals.Refusal.{Refusal}
use Rattle.scim_audit.specs.declared.refusals.Refusal.TheVariants.{MessageValue}
use Rattle.scim_query.specs.SortKeys.{sort_leaf}
use Rattle.scim_exchange.specs.declared.paging.Arrangement.{Arrangement}
use Rattle.scim_exchange.specs.Refused.{◌>>=◌}

-- whether `sortOrder` is `descending`, in any ASCII case; false if it isn't given, and the refusal
-- `MessageValue` if it is neither `ascending` nor `descending` (RFC 7644 section 3.4.2.3)
abbrev pub is_descending : Option (List ℕ) → Result Bool Refusal
is_descending None = Ok false
is_descending (Some text) =
    if is_same_name text (codes "descending") then Ok true
    else if is_same_name text (codes "ascending") then Ok false
    else Err MessageValue

-- the 1-based position of the first resource on the page: `startIndex`, or 1 if it is below 1 or not given
-- (RFC 7644 section 3.4.2.4)
abbrev pub first_shown : Option ℤ → ℕ
first_shown None = 1
first_shown (Some (pos zero)) = 1
first_shown (Some (pos (suc n))) = suc n
first_shown (Some (negsuc n)) = 1

-- the page size: `count` limited to at most 200, 0 if it is negative, and 100 if it isn't given (RFC 7644
-- section 3.4.2.4)
abbrev pub most_shown : Option ℤ → ℕ
most_shown None = USUALLY_SHOWN
most_shown (Some (pos n)) = min n MOST_SHOWN
most_shown (Some (negsuc n)) = 0

-- the sorting and paging that `sortBy`, `sortOrder`, `startIndex` and `count` select, or the refusal
-- `MessageValue` if `sortOrder` is invalid; a `sortBy` that names no leaf is ignored
abbrev pub arranged : Kind → Option (List ℕ) → Option (List ℕ) → Option ℤ → Option ℤ → Result Arrangement Refusal
arranged kind sort_by sort_order start_index count =
    is_descending sort_order >>= λ descending. Ok (record {
      sort_by = option_and_then (sort_leaf kind) sort_by;
      descending = descending;
      start = first_shown start_index;
      count = most_shown count;
    })
