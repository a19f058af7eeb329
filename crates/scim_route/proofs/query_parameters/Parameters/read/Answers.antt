use Rattle.std.proofs.Common.{rules, ◌≡◌, ◌∙◌, sym, ap, map, ℕ, List, ◌∷◌}
use Rattle.form_urlencoded.specs.Parse.{raw_pairs_left}
use Rattle.scim_route.specs.Parameters.{decoded_pair}
use Rattle.scim_route.specs.code.Taken.{with_pair, with_pairs}
use Rattle.scim_route.proofs.ParameterLemmas.{pair_taken}
use Rattle.scim_route.proofs.query_parameters.Parameters.read.Goals as goal

pub loop-name-preserved : goal.loop-name-preserved
loop-name-preserved c =
    let rest = map decoded_pair (raw_pairs_left c.next.new.self) in
    let pair = decoded_pair (c.in-Some.name.now, c.in-Some.value.now) in
    let held = c.loop-name.parameters in
    let left : map decoded_pair (raw_pairs_left c.loop-name.name-iterator) ≡ pair ∷ rest = ap (map decoded_pair) c.in-Some.ensures.steps in
    let now : c.take_pair.new.self ≡ with_pair pair held = search rules in
    ap (with_pairs rest) now ∙ pair_taken pair rest held ∙ ap (λ (ps : List (List ℕ × List ℕ)). with_pairs ps held) (sym left) ∙ c.loop-name.invariant
