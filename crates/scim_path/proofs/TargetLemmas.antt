-- What a text names, as a function of it, is what the grammar says, and it is all that the grammar lets it name.
use Rattle.std.proofs.Common.{◌≡◌, ◌≤◌, ℕ, List, length, Option, None, Some, Result, Ok, Err, refl, inl, inr, arith}
use Rattle.std.specs.Prelude.{nat_le, MatchOption}
use Rattle.std.specs.Result.{result_ok}
use Rattle.std.proofs.lemmas.Bool.{cases_Bool, leb-true, leb-false}
use Rattle.scim_schema.specs.declared.Kind.{Kind}
use Rattle.scim_schema.specs.declared.schema_urns.Schema.{Schema}
use Rattle.scim_schema.specs.declared.limits.TheConstants.{LONGEST_FILTER}
use Rattle.scim_filter_grammar.specs.Bytes.{is_space, behind}
use Rattle.scim_filter_grammar.specs.WrittenPaths.{Written}
use Rattle.scim_filter_grammar.specs.Reading.{Fault}
use Rattle.scim_filter_grammar.specs.PathReading.{written_at}
use Rattle.scim_filter_grammar.proofs.Facts.{whole_takes, not_written}
use Rattle.scim_text.specs.declared.memory.Failed.{Failed}
use Rattle.scim_text.specs.declared.memory.Failed.TheVariants.{Because, NoMemory}
use Rattle.scim_text.specs.Failures.{UnlessMemory}
use Rattle.scim_path.specs.declared.paths.Path.{Path}
use Rattle.scim_path.specs.Results.{target_read}
use Rattle.scim_path.specs.declared.faults.PathFault.{PathFault}
use Rattle.scim_path.specs.Paths.{PathTarget, OfExtension, extension_named, Reads, spelled, unspelled, Names, TextsNameOneThing}
use Rattle.scim_path.specs.Targets.{written_in, spelled_target, target_with, target_in, TargetsAreNamed}

-- a text that isn't too long is read so
short_reads : (kind : Kind) (text : List ℕ) (r : Result Written Fault) → written_at 32 kind (behind is_space text) ≡ r → length text ≤ LONGEST_FILTER
    → Reads kind text (spelled_target (result_ok r))
short_reads kind text (Ok w) e short = spelled w short (whole_takes kind text w e)
short_reads kind text (Err f) e short = unspelled (λ w l h. not_written kind text f w e h)

-- any text is
reads : (kind : Kind) (text : List ℕ) → Reads kind text (spelled_target (written_in kind text))
reads kind text = elim (cases_Bool (nat_le (length text) LONGEST_FILTER)) [
  | inl t ↦ (let short : length text ≤ LONGEST_FILTER = leb-true (length text) LONGEST_FILTER t in
      rw t (short_reads kind text (written_at 32 kind (behind is_space text)) refl short))
  | inr f ↦ (let long = leb-false (length text) LONGEST_FILTER f in
      rw f (unspelled (λ w short h. absurd (omega (arith, long, short)))))
]

-- with an extension's URN alone in it or not
named_with : (kind : Kind) (text : List ℕ) (o : Option Schema) (w : Option Written) → Reads kind text (spelled_target w)
    → MatchOption o (Reads kind text (target_with o w)) (λ schema. target_with o w ≡ Ok (OfExtension schema))
named_with kind text None w h = h
named_with kind text (Some schema) w h = refl

pub targets_are_named : TargetsAreNamed
unfolding target_in
targets_are_named kind text = named_with kind text (extension_named kind text) (written_in kind text) (reads kind text)

-- so whatever is named is what the function gives
pub target_is : TextsNameOneThing → (kind : Kind) (text : List ℕ) (r : Result PathTarget PathFault) → Names kind text r → target_in kind text ≡ r
target_is one kind text r h = one kind text (target_in kind text) r (targets_are_named kind text) h

-- what a reader of paths returns, which is what the text names
pub named_is : TextsNameOneThing → (kind : Kind) (text : List ℕ) (r : Result Path (Failed PathFault)) → UnlessMemory (λ x. Names kind text (target_read x)) r
    → UnlessMemory (λ x. target_in kind text ≡ target_read x) r
named_is one kind text (Ok path) h = target_is one kind text (target_read (Ok path)) h
named_is one kind text (Err (Because f)) h = target_is one kind text (target_read (Err f)) h
named_is one kind text (Err NoMemory) h = tt
