use Rattle.std.proofs.Common.{sym, ap, ◌∙◌, Some, w64}
use Rattle.std.specs.Prelude.{ℤ, FitsSigned}
use Rattle.std.proofs.lemmas.Bool.{false≢true}
use Rattle.std.proofs.lemmas.Int.{to_z-of_z}
use Rattle.std.proofs.Common.{subst}
use Rattle.scim_filter_grammar.proofs.Facts.{IsNumber, integer_none, integer_some}
use Rattle.scim_exchange.proofs.IntegerLemmas.{as_literal}
use Rattle.scim_exchange.proofs.query_strings.integer_in.Goals as goal

pub returns-then-starts_with_plus : goal.returns-then-starts_with_plus
returns-then-starts_with_plus c =
    integer_none c.args.text.now (λ n. false≢true (sym n.no_plus ∙ sym c.starts_with_plus.ensures ∙ c.if-starts_with_plus.true)) ∙ as_literal c.args.text.now

pub returns-in-Ok : goal.returns-in-Ok
returns-in-Ok c =
    let p = c.in-Ok.ensures.value.0 in
    let number : IsNumber c.args.text.now = record { no_plus = sym c.starts_with_plus.ensures ∙ c.if-starts_with_plus.false; numeral = p.0.0; fits = p.0.1 } in
    let fits : FitsSigned w64 c.in-Ok.number = subst (λ (z : ℤ). FitsSigned w64 z) (sym p.1) p.0.1 in
    ap (λ (z : ℤ). Some z) (to_z-of_z w64 c.in-Ok.number fits) ∙ integer_some c.args.text.now c.in-Ok.number number p.1 ∙ as_literal c.args.text.now

pub returns-in-Err : goal.returns-in-Err
returns-in-Err c = integer_none c.args.text.now (λ n. c.in-Err.ensures.value.0 (n.numeral, n.fits)) ∙ as_literal c.args.text.now
