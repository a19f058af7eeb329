use Rattle.std.proofs.Common.{◌≡◌, ℕ, List, sym, ap, subst, ◌∙◌, Some, w64}
use Rattle.std.specs.Prelude.{ℤ, FitsSigned}
use Rattle.std.specs.Str.Parse.{IsNumeral, without_leading_sign, signed_digits_value}
use Rattle.std.proofs.lemmas.Bool.{false≢true}
use Rattle.std.proofs.lemmas.Int.{to_z-of_z}
use Rattle.scim_filter_grammar.proofs.IntegerLemmas.{IsNumber, integer_none, integer_some, number_utf8}
use Rattle.scim_filter_grammar.proofs.literals.integer.Goals as goal

pub returns-then-starts_with_plus : goal.returns-then-starts_with_plus
returns-then-starts_with_plus c = integer_none c.args.word.now (λ n. false≢true (sym n.no_plus ∙ sym c.starts_with_plus.ensures ∙ c.if-starts_with_plus.true))

pub returns-in-Err : goal.returns-in-Err
returns-in-Err c = integer_none c.args.word.now (λ n. c.in-Err.ensures.cases.0 (number_utf8 c.args.word.now n))

pub returns-in-Ok-parse : goal.returns-in-Ok-parse
returns-in-Ok-parse c =
    let e : c.in-Ok.text.now ≡ c.args.word.now = c.in-Ok.ensures.cases.0 in
    let p = c.in-Ok-parse.ensures.value.0 in
    let number : IsNumber c.args.word.now = record {
      no_plus = sym c.starts_with_plus.ensures ∙ c.if-starts_with_plus.false;
      numeral = subst (λ (x : List ℕ). IsNumeral 10 (without_leading_sign x)) e p.0.0;
      fits = subst (λ (x : List ℕ). FitsSigned w64 (signed_digits_value 10 x)) e p.0.1;
    } in
    let fits : FitsSigned w64 c.in-Ok-parse.n = subst (λ (z : ℤ). FitsSigned w64 z) (sym p.1) p.0.1 in
    ap (λ (z : ℤ). Some z) (to_z-of_z w64 c.in-Ok-parse.n fits) ∙ integer_some c.args.word.now c.in-Ok-parse.n number (p.1 ∙ ap (λ (x : List ℕ). signed_digits_value 10 x) e)

pub returns-in-Err-parse : goal.returns-in-Err-parse
returns-in-Err-parse c =
    let e : c.args.word.now ≡ c.in-Ok.text.now = sym c.in-Ok.ensures.cases.0 in
    integer_none c.args.word.now (λ n. c.in-Err-parse.ensures.value.0 (
      subst (λ (x : List ℕ). IsNumeral 10 (without_leading_sign x)) e n.numeral,
      subst (λ (x : List ℕ). FitsSigned w64 (signed_digits_value 10 x)) e n.fits,
    ))
