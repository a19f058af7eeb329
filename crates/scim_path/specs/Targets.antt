-- The target that a text names as the path of a change, as a function of the text (RFC 7644 section 3.5.2).
use Rattle.std.specs.Prelude.{ℕ, nat_le, List, length, Option, None, Some, Result, Ok, Err, if◌then◌else◌}
use Rattle.std.specs.Result.{result_ok}
use Rattle.scim_schema.specs.declared.Kind.{Kind}
use Rattle.scim_schema.specs.declared.schema_urns.Schema.{Schema}
use Rattle.scim_schema.specs.declared.limits.TheConstants.{LONGEST_FILTER}
use Rattle.scim_filter_grammar.specs.Bytes.{is_space, behind}
use Rattle.scim_filter_grammar.specs.WrittenPaths.{Written}
use Rattle.scim_filter_grammar.specs.PathReading.{written_at}
use Rattle.scim_path.specs.declared.faults.PathFault.{PathFault}
use Rattle.scim_path.specs.declared.faults.PathFault.TheVariants as fault
use Rattle.scim_path.specs.Paths.{PathTarget, OfExtension, extension_named, written_target, Names}

-- the path that the text spells; None if the text isn't a path, has over 4,096 bytes, or nests over 32
-- brackets
abbrev pub written_in : Kind → List ℕ → Option Written
written_in kind text = if nat_le (length text) LONGEST_FILTER then result_ok (written_at 32 kind (behind is_space text)) else None

-- the target of a path; the fault `Syntax` if there is no path
abbrev pub spelled_target : Option Written → Result PathTarget PathFault
spelled_target None = Err fault.Syntax
spelled_target (Some w) = written_target w

-- the target of a text: the extension, if the text is the URN of an extension; otherwise the target of the
-- path that the text spells
abbrev pub target_with : Option Schema → Option Written → Result PathTarget PathFault
target_with (Some schema) w = Ok (OfExtension schema)
target_with None w = spelled_target w

-- the target that a text names for a kind, or the fault if the text names no target
unfoldable pub target_in : Kind → List ℕ → Result PathTarget PathFault
target_in kind text = target_with (extension_named kind text) (written_in kind text)

-- for every text, `target_in` is the target or the fault that the grammar of paths defines for the text
abbrev pub TargetsAreNamed : Type 0
TargetsAreNamed = (kind : Kind) (text : List ℕ) → Names kind text (target_in kind text)
