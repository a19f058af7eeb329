use Rattle.std.proofs.Common.{rules, tests, ◌≡◌, ◌∙◌, ap, true, false, is_some}
use Rattle.scim_admin.proofs.answers.answer.Goals as goal

-- src/answers.rt
pub returns-in-Ok-clause-refuses : goal.returns-in-Ok-clause-refuses
returns-in-Ok-clause-refuses g c = λ table entries is knows none.
    let no : c.is_admitted.result ≡ false = c.is_admitted.ensures.known table entries is knows ∙ ap is_some none in
    let yes : c.is_admitted.result ≡ true = search (rules, tests) in
    absurd (let e = no in let f = yes in cc)

-- src/answers.rt
pub returns-in-Err-Because-clause-refuses : goal.returns-in-Err-Because-clause-refuses
returns-in-Err-Because-clause-refuses g c = λ table entries is knows none.
    let no : c.is_admitted.result ≡ false = c.is_admitted.ensures.known table entries is knows ∙ ap is_some none in
    let yes : c.is_admitted.result ≡ true = search (rules, tests) in
    absurd (let e = no in let f = yes in cc)
