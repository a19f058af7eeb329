-- The path and the query of request targets (RFC 9112 section 3.2, RFC 3986 sections 2.1 and 3).
use Rattle.std.specs.Prelude.{ℕ, Bool, List, [], ◌∷◌, length, drop, codes, Option, None, Some, ◌==◌, ◌||◌, if◌then◌else◌, nat_eq}
use Rattle.std.specs.List.{starts_with, position_or_len, before_first, after_first}
use Rattle.std.specs.Str.{is_utf8}
use Rattle.percent_encoding.specs.Percent.{percent_decode}

-- whether a byte is `/`
abbrev pub is_slash : ℕ → Bool
is_slash b = b == 47

-- whether a byte is `?`
abbrev pub is_question_mark : ℕ → Bool
is_question_mark b = b == 63

-- whether a byte ends an authority: `/` or `?` (RFC 3986 section 3.2; a target has no fragment)
abbrev pub ends_authority : ℕ → Bool
ends_authority b = b == 47 || b == 63

-- whether a target is in absolute form, which begins with `http://` (RFC 9112 section 3.2.2)
abbrev pub is_absolute : List ℕ → Bool
is_absolute target = starts_with nat_eq target (codes "http://")

-- the part of a target in absolute form after its authority, from the first `/` or `?` after `http://`
abbrev pub behind_authority : List ℕ → List ℕ
behind_authority target = drop (position_or_len ends_authority (drop 7 target)) (drop 7 target)

-- the part of a target after its authority; `None` if the target isn't in absolute form
abbrev pub behind_authority_of : List ℕ → Option (List ℕ)
behind_authority_of target = if is_absolute target then Some (behind_authority target) else None

-- the part of a target that has its path and query: in absolute form the part after the authority, otherwise
-- the whole target
abbrev pub path_and_query : List ℕ → List ℕ
path_and_query target = if is_absolute target then behind_authority target else target

-- a path, or `/` if it is empty
abbrev pub or_root : List ℕ → List ℕ
or_root [] = codes "/"
or_root (b ∷ path) = b ∷ path

-- the path of a target, still percent-encoded: the part of `path_and_query` before the first `?`; in absolute
-- form, an empty path becomes `/`
abbrev pub path_of : List ℕ → List ℕ
path_of target =
    if is_absolute target then or_root (before_first is_question_mark (behind_authority target))
    else before_first is_question_mark target

-- the part after the first `?`; `None` if there is no `?`
abbrev pub behind_question_mark : List ℕ → Option (List ℕ)
behind_question_mark bytes = if position_or_len is_question_mark bytes == length bytes then None else Some (after_first is_question_mark bytes)

-- the query of a target; `None` if the target has no `?`
abbrev pub query_of : List ℕ → Option (List ℕ)
query_of target = behind_question_mark (path_and_query target)

-- the path with its percent-encoding decoded (RFC 3986 section 2.1); `None` if the result isn't UTF-8
abbrev pub decoded : List ℕ → Option (List ℕ)
decoded path = if is_utf8 (percent_decode path) then Some (percent_decode path) else None
