use Rattle.std.proofs.Common.{◌≡◌, ◌∙◌, subst, sym, List, []}
use Rattle.std.proofs.lemmas.List.Elements.{filter_passes}
use Rattle.scim_filter_texts.specs.declared.needs.NeededText.{NeededText}
use Rattle.scim_shelf.specs.declared.leaf_texts.LeafText.{LeafText}
use Rattle.scim_search.specs.PossibleIds.{indexed_of, is_indexed, GathersSome}
use Rattle.scim_search.specs.Walks.{AreCompared}
use Rattle.scim_search.proofs.PossibleIdLemmas.{by_indexed, by_no_text, none_compared}
use Rattle.scim_search.proofs.WalkLemmas.{empty_list}
use Rattle.scim_search.proofs.possible_ids.with_holders.Goals as goal

pub returns-then-is_empty-clause-ids : goal.returns-then-is_empty-clause-ids
returns-then-is_empty-clause-ids g c store stands honest base is =
    let needs = indexed_of c.args.kind c.args.texts.now in
    let empty : c.as_slice-indexed.result.now ≡ [] = empty_list _ (sym c.is_empty.ensures ∙ c.if-is_empty.true) in
    let none : needs ≡ [] = none_compared needs (subst (AreCompared needs) (sym c.as_slice-indexed.ensures.value ∙ empty) c.in_ok-own.ensures) in
    subst (λ (ts : List NeededText). GathersSome c.args.kind store.resources ts c.args.ids c.args.ids) (sym none) (by_no_text c.args.kind store.resources c.args.ids)

pub returns-clause-ids : goal.returns-clause-ids
returns-clause-ids g c store stands honest base is =
    let kind = c.args.kind in
    let needs = indexed_of kind c.args.texts.now in
    let texts = c.as_slice-indexed.result.now in
    let compared = subst (λ (ts : List LeafText). AreCompared needs ts) (sym c.as_slice-indexed.ensures.value) c.in_ok-own.ensures in
    by_indexed base store is kind needs texts (record { ids = c.args.ids }) c.each_of.new.visitor
    (filter_passes (is_indexed kind) c.args.texts.now) compared (c.in_ok-each_of.ensures.answer store stands honest)
