-- A text that is read is the printed text of the id, and so has its form; a text of that form parses, and prints as itself.
use Rattle.std.proofs.Common.{◌≡◌, Bool, true, false, true≢false, Option, Some, Result, Ok, Err, List, ℕ, IsSome, IfOk, is_some, eqb, unwrap_or, sym, ap, subst, ◌∙◌}
use Rattle.std.specs.Bool.{then_some}
use Rattle.std.specs.Result.{result_ok}
use Rattle.std.specs.Cmp.Lexicographic.{pointwise, bytes_decides}
use Rattle.uuid.specs.Text.{parsed}
use Rattle.scim_cell.specs.Ids.{IsIdText, id_text}
use Rattle.scim_cell.proofs.IdLemmas.{bytes_of, parsed-id, id_text-bytes_of, IsIdText-id_text}
use Rattle.scim_cell.proofs.ids.Id.read.Goals as goal

-- what an `Ok` of the reader holds
parsed_as : {E : Type 0} (r : Result (List ℕ) E) (text id : List ℕ) → IfOk r (λ u. Some u ≡ parsed text) → Some id ≡ result_ok r → parsed text ≡ Some id
parsed_as (Ok u) text id read same = sym (same ∙ read)
parsed_as (Err e) text id read same = absurd (true≢false (ap is_some same))

-- the comparison with the printed text lets through what has the form
accepted : (text id written : List ℕ) (equal : Bool) (result : Option (List ℕ)) → written ≡ id_text id → parsed text ≡ Some id
    → equal ≡ pointwise eqb written text → result ≡ then_some equal id → (IsSome result → IsIdText text) × (IsIdText text → IsSome result)
accepted text id written true result prints reads test is =
    let same : written ≡ text = (bytes_decides written text).0 (sym test) in
    (λ some. subst IsIdText (sym prints ∙ same) (IsIdText-id_text id), λ form. ap is_some is)
accepted text id written false result prints reads test is = (
  λ (some : IsSome result). absurd (true≢false (sym some ∙ ap is_some is)),
  λ form.
      let spelled : id ≡ bytes_of text = ap (λ (o : Option (List ℕ)). unwrap_or o id) (sym reads ∙ parsed-id text form) in
      let same : written ≡ text = prints ∙ ap id_text spelled ∙ id_text-bytes_of text form in
      absurd (true≢false (sym (test ∙ (bytes_decides written text).1 same))),
)

pub returns-in_err-ok-clause-form : goal.returns-in_err-ok-clause-form
returns-in_err-ok-clause-form c = (
  λ (some : IsSome c.from_residual.result). absurd (true≢false (sym some ∙ ap is_some c.from_residual.ensures)),
  λ form.
      let reads = c.try_parse.ensures.ok.1 (bytes_of c.args.text.now, parsed-id c.args.text.now form) in
      absurd (true≢false (sym reads ∙ sym c.in_err-ok.ensures.variant)),
)

pub returns-clause-form : goal.returns-clause-form
returns-clause-form c =
    let reads : parsed c.args.text.now ≡ Some c.id_of-id.result =
    parsed_as c.try_parse.result c.args.text.now c.id_of-id.result c.try_parse.ensures.bytes (ap Some c.id_of-id.ensures.value ∙ c.in_ok-ok.ensures.value) in
    accepted c.args.text.now c.id_of-id.result c.write.result.now c.eq.result c.then_some.result c.write.ensures.value reads c.eq.ensures c.then_some.ensures
