use Rattle.std.proofs.Common.{◌≡◌, sym, ◌∙◌, false}
use Rattle.std.specs.Cmp.Lexicographic.{bytes_decides}
use Rattle.std.proofs.lemmas.Bool.Decides.{same_from_decides}
use denote.Enum.Bare.{same_true}
use Rattle.scim_schema.specs.contracts.Kind.{the_type as the_kind}
use Rattle.scim_value.specs.Equality.{is_same_part-Decides}
use Rattle.scim_value.proofs.EqualityLemmas.{rows_decide}
use Rattle.scim_value.proofs.equality.PartPartialEq.eq.Goals as goal
use Rattle.scim_value.proofs.equality.PartPartialEq.eq.Goals.{then-eq, else-eq}

pub returns-then-eq-2 : goal.returns-then-eq-2
returns-then-eq-2 c =
    let rows = rw (c.rows.ensures.rows, c.rows-then-eq-2.ensures.rows) at c.eq-then-eq-2.ensures in
    let same : (c.args.self.now.kind ≡ c.args.other.now.kind) × (c.args.self.now.id ≡ c.args.other.now.id) = elim c.if-eq.branch [
      | then-eq w ↦ (
        sym c.kind.ensures ∙ same_true the_kind tt _ _ (sym c.eq.ensures ∙ w.if-eq.true) ∙ c.kind-2.ensures,
        sym w.id.ensures ∙ (bytes_decides w.id.result w.id-then-eq.result).0 (sym w.eq-then-eq.ensures ∙ sym w.value-is ∙ c.if-eq-2.true) ∙ w.id-then-eq.ensures,
      )
      | else-eq w ↦ let none : c.if-eq.value ≡ false = w.value-is ∙ w.if-eq.false in cc
    ] in
    let exact = rows_decide _ _ _ c.rows.ensures.valid c.rows-then-eq-2.ensures.valid same.0 same.1 rows in
    record { value = same_from_decides _ _ exact (is_same_part-Decides _ _); exact = exact }
