-- The parts that a pager holds in code: their order, and the insertion of one more.
use Rattle.std.specs.Prelude.{◌≡◌, ℕ, ◌+◌, Bool, Option, None, Some, List, [], ◌∷◌, ◌++◌, length, take, insert}
use Rattle.std.specs.declared.cmp.Ordering.{Ordering}
use Rattle.std.specs.Ordering.{is_lt}
use Rattle.scim_cell.specs.Content.{Content}
use Rattle.scim_query.specs.declared.queries.Query.{Query}
use Rattle.scim_query.specs.declared.kept_parts.KeptPart.{KeptPart}
use Rattle.scim_query.specs.declared.pagers.Pager.{Pager}
use Rattle.scim_query.specs.Order.{Rank, rank_of, rank_cmp}
use Rattle.scim_query.specs.Pagers.{keyed, Holds, most_held}

-- the rank of a held part: its key and its id
abbrev pub kept_rank : KeptPart → Rank
kept_rank k = (k.key, k.part.id)

-- the order of held parts: by key in the given direction, then by ascending id
abbrev pub kept_cmp : Bool → KeptPart → KeptPart → Ordering
kept_cmp descending a b = rank_cmp descending (kept_rank a) (kept_rank b)

-- whether one held part comes before another
abbrev pub comes_before : Bool → KeptPart → KeptPart → Bool
comes_before descending a b = is_lt (kept_cmp descending a b)

-- the held parts with one more part inserted at its place; unchanged if it has no place
abbrev pub held_with : Option ℕ → KeptPart → List KeptPart → List KeptPart
held_with None k held = held
held_with (Some place) k held = insert held place k

-- `place` is where to insert the next matching part, which has this rank, or None to leave it out: with the
-- part inserted and the parts beyond the maximum dropped, the pager holds the parts that it must hold
abbrev pub IsPlace : Query → ℕ → List KeptPart → Rank → Option ℕ → Type 0
IsPlace query before held rank place = (found : List Content) (p : Content) → rank_of query.sort_by p ≡ rank → before ≡ length found
    → Holds query.sort_by query found held
    → Holds query.sort_by query (found ++ p ∷ []) (take (most_held query) (held_with place (keyed query.sort_by p) held))

-- the pager has counted one more match and holds these parts
pub record HasCounted (after : List KeptPart) (old new : Pager) : Type 0 where
  pub total : new.total ≡ old.total + 1
  pub held : new.held.items ≡ after
