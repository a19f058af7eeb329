use Rattle.std.proofs.Common.{◌≡◌, sym, ◌∙◌, ap, subst, ◌+◌, ◌<◌, List, [], ◌∷◌, ◌++◌, length, take, arith}
use Rattle.std.proofs.lemmas.List.{take_more}
use Rattle.std.proofs.lemmas.List.Elements.{filter-append}
use Rattle.scim_filter_texts.specs.declared.needs.NeededText.{NeededText}
use Rattle.scim_search.specs.PossibleIds.{indexed_of, is_indexed}
use Rattle.scim_search.specs.Walks.{AreCompared}
use Rattle.scim_search.proofs.possible_ids.indexed_texts.Goals as goal

pub loop-needed-preserved : goal.loop-needed-preserved
loop-needed-preserved c =
    let kind = c.args.kind in
    let texts = c.args.texts.now in
    let k = c.loop-needed.needed-index in
    let needed : NeededText = c.needed-item.result in
    let inside : k < length texts = omega arith in
    let more : indexed_of kind (take (k + 1) texts) ≡ indexed_of kind (take k texts) ++ indexed_of kind (needed ∷ [])
    = ap (indexed_of kind) (take_more texts k needed inside ∙ ap (λ (t : NeededText). take k texts ++ t ∷ []) (sym c.needed-item.is))
    ∙ filter-append (is_indexed kind) (take k texts) (needed ∷ []) in
    subst (λ (ts : List NeededText). AreCompared ts c.push_if_indexed.new.indexed.items) (sym more) (c.in_ok-push_if_indexed.ensures (indexed_of kind (take k texts)) c.loop-needed.invariant)
