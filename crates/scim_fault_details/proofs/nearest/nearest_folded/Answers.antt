use Rattle.std.proofs.Common.{◌∙◌, ap, sym, subst, ℕ, List, map, take}
use Rattle.std.proofs.lemmas.List.{map_more}
use Rattle.scim_fault_details.specs.Nearest.{distance}
use Rattle.scim_fault_details.specs.code.BestName.{IsBest}
use Rattle.scim_fault_details.specs.code.Borrowed.{text_at}
use Rattle.scim_fault_details.proofs.nearest.nearest_folded.Goals as goal

pub loop-name-preserved : goal.loop-name-preserved
loop-name-preserved c =
    let word = c.args.word.now in
    let names = c.args.names.now in
    let i = c.loop-name.name-index in
    let far = c.in_ok-distance.ensures ∙ ap (distance word) (c.as_str.ensures.value ∙ c.in_ok-folded.ensures) in
    let best = c.nearer-best.ensures word (map text_at (take i names)) far c.loop-name.invariant in
    subst (λ (before : List (List ℕ)). IsBest word before c.nearer-best.result) (sym (map_more text_at names i _ c.loop-name-test.true)) best
