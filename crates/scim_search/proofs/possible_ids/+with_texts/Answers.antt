use Rattle.std.proofs.Common.{◌≡◌, sym, ◌∙◌, ap, subst, List, [], ◌∷◌, ◌++◌, drop}
use Rattle.std.specs.Prelude.{not}
use Rattle.std.proofs.lemmas.Result.{IfOk-weaker}
use Rattle.std.proofs.lemmas.List.Elements.{filter-append}
use Rattle.scim_filter_texts.specs.declared.needs.NeededText.{NeededText}
use Rattle.scim_search.specs.PossibleIds.{is_indexed, others_of, GathersSome}
use Rattle.scim_search.proofs.ListLemmas.{first_and_rest, rest_whole}
use Rattle.scim_search.proofs.PossibleIdLemmas.{by_both}
use Rattle.scim_search.proofs.possible_ids.+with_texts.Goals as goal

pub returns-in_ok-more-in-len1-up-clause-ids : goal.returns-in_ok-more-in-len1-up-clause-ids
returns-in_ok-more-in-len1-up-clause-ids g t c =
    IfOk-weaker c.with_texts.result _ _
    (λ new answer store stands honest base is.
    let kind = c.args.kind in
    let texts = c.args.texts.now in
    let first : NeededText = c.needed-item.result in
    let split : texts ≡ first ∷ drop 1 texts = first_and_rest texts first c.in-len1-up.len_at_least c.needed-item.is in
    let others : others_of kind (first ∷ []) ++ others_of kind (drop 1 texts) ≡ others_of kind texts
    = sym (ap (others_of kind) split ∙ filter-append (λ (u : NeededText). not (is_indexed kind u)) (first ∷ []) (drop 1 texts)) in
    let more = c.in_ok-more-in-len1-up in
    let one = more.ensures.ids store stands (c.with_texts.ensures.read.honest honest) base is in
    let rest = subst (λ (ts : List NeededText). GathersSome kind store.resources (others_of kind ts) more.more new) (rest_whole texts) (answer store (more.ensures.read.store store stands) honest base is) in
    subst (λ (ts : List NeededText). GathersSome kind store.resources ts c.args.ids new) others
    (by_both base store is kind (others_of kind (first ∷ [])) (others_of kind (drop 1 texts)) c.args.ids more.more new one rest))
    c.with_texts.ensures.ids
