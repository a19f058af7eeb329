-- Reading the path of a PATCH operation from left to right.
use Rattle.std.specs.Prelude.{ℕ, ◌==◌, List, [], ◌∷◌, drop, Some, None, Result, Ok, Err, slice_index, if◌then◌else◌}
use Rattle.scim_schema.specs.declared.Kind.{Kind}
use Rattle.scim_filter_grammar.specs.declared.tree.AttributePath.{AttributePath}
use Rattle.scim_filter_grammar.specs.declared.tree.Scope.TheVariants.{Attributes}
use Rattle.scim_filter_grammar.specs.Bytes.{is_space, is_word_byte, front, behind}
use Rattle.scim_filter_grammar.specs.Tree.{Tree}
use Rattle.scim_filter_grammar.specs.Reading.{Fault, Syntax, ◌>>=◌, name_of, path_of, listed_at, filter_at}
use Rattle.scim_filter_grammar.specs.WrittenPaths.{Written, Plain, Filtered}

-- the path if there are no more bytes, else Syntax
abbrev pub nothing_left : Written → List ℕ → Result Written Fault
nothing_left w [] = Ok w
nothing_left w (b ∷ bs) = Err Syntax

-- the path if all remaining bytes are spaces, else Syntax
unfoldable pub ended_at : Written → List ℕ → Result Written Fault
ended_at w bytes = nothing_left w (behind is_space bytes)

-- the value path with this tree, and with the name of a sub-attribute if the bytes begin with a dot
unfoldable pub sub_at : Tree → List ℕ → Result Written Fault
sub_at tree bytes = if slice_index bytes 0 == 46 then (name_of (front is_word_byte (drop 1 bytes)) >>= λ name. ended_at (Filtered tree (Some name)) (behind is_word_byte (drop 1 bytes))) else ended_at (Filtered tree None) bytes

-- the value path, read from the bytes after its attribute path and opening bracket
unfoldable pub filtered_at : ℕ → Kind → AttributePath → List ℕ → Result Written Fault
filtered_at depth kind path bytes = listed_at (filter_at depth) (Attributes kind) path bytes >>= λ x. sub_at x.0 x.1

-- the path, read from the bytes after its attribute path, which are a filter in brackets or nothing
unfoldable pub behind_names_at : ℕ → Kind → AttributePath → List ℕ → Result Written Fault
behind_names_at depth kind path bytes = if slice_index bytes 0 == 91 then filtered_at depth kind path (drop 1 bytes) else ended_at (Plain path) bytes

-- the path that the bytes spell, with at most `depth` brackets open at one place
unfoldable pub written_at : ℕ → Kind → List ℕ → Result Written Fault
written_at depth kind bytes = path_of (Attributes kind) (front is_word_byte bytes) >>= λ path. behind_names_at depth kind path (behind is_word_byte bytes)
