use Rattle.std.proofs.Common.{◌≡◌, List, ℕ, Option, Some, None, Result, Ok, refl, sym, ap, ◌∙◌}
use Rattle.std.specs.Prelude.{MatchOption}
use Rattle.scim_schema.specs.declared.Kind.{Kind}
use Rattle.scim_schema.specs.declared.schema_urns.Schema.{Schema}
use Rattle.scim_filter_grammar.specs.Spelled.{OnePathIsSpelled}
use Rattle.scim_path.specs.declared.faults.PathFault.{PathFault}
use Rattle.scim_path.specs.Paths.{PathTarget, OfExtension, written_target, Reads, spelled, unspelled}
use Rattle.scim_path.proofs.laws.texts_name_one_thing.Goals as goal

-- what is read of a text in which no extension's URN stands alone
one_reading : OnePathIsSpelled → (kind : Kind) (text : List ℕ) (r s : Result PathTarget PathFault) → Reads kind text r → Reads kind text s → r ≡ s
one_reading one kind text _ _ (spelled v short h) (spelled w _ k) = ap written_target (one kind text 32 32 v w h k)
one_reading one kind text _ _ (spelled v short h) (unspelled none) = absurd (none v short h)
one_reading one kind text _ _ (unspelled none) (spelled w short k) = absurd (none w short k)
one_reading one kind text _ _ (unspelled none) (unspelled more) = refl

one_thing : OnePathIsSpelled → (kind : Kind) (text : List ℕ) (o : Option Schema) (r s : Result PathTarget PathFault)
    → MatchOption o (Reads kind text r) (λ schema. r ≡ Ok (OfExtension schema)) → MatchOption o (Reads kind text s) (λ schema. s ≡ Ok (OfExtension schema)) → r ≡ s
one_thing one kind text None r s h k = one_reading one kind text r s h k
one_thing one kind text (Some schema) r s h k = h ∙ sym k

pub returns : goal.returns
returns c = λ kind text r s h k. one_thing c.one_path_is_spelled.ensures kind text _ r s h k
