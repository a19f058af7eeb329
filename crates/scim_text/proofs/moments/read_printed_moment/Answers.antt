use Rattle.std.proofs.Common.{◌≡◌, ◌≤◌, sym, ap, ◌∙◌, rules}
use Rattle.std.specs.Prelude.{bytes_eq}
use Rattle.scim_text.specs.Moments.{last_moment, moment_text}
use Rattle.scim_text.proofs.Printed.{moment_of-not_meant, moment_of-meant}
use Rattle.scim_text.proofs.moments.read_printed_moment.Goals as goal

pub returns-in_default : goal.returns-in_default
returns-in_default c =
    sym (moment_of-not_meant c.args.text.now c.moment_meant.result c.in_default.is c.moment_meant.ensures.complete)

pub returns : goal.returns
returns c =
    let text = c.args.text.now in
    let moment = c.in-Some.moment in
    let high : moment ≤ last_moment = search rules in
    let printed : c.as_str.result.now ≡ moment_text moment = c.as_str.ensures.value ∙ c.in_ok-printed.ensures in
    let tested : c.eq.result ≡ bytes_eq (moment_text moment) text = c.eq.ensures ∙ ap (λ shown. bytes_eq shown text) printed in
    c.then_some.ensures ∙ moment_of-meant text moment c.eq.result high tested c.in-Some.ensures.complete
