use Rattle.std.proofs.Common.{◌∙◌, subst, [], ◌∷◌, arith}
use Rattle.std.proofs.lemmas.Result.{IfOk-weaker}
use denote.Ref.{Bor}
use Rattle.scim_query.specs.declared.queries.Query.{Query}
use Rattle.scim_query.specs.Pages.{IsPage}
use Rattle.scim_search.proofs.LookupLemmas.{one_in_order}
use Rattle.scim_search.proofs.lookups.page_of_one.Goals as goal

pub returns : goal.returns
returns c =
    IfOk-weaker c.end.result _ _
    (λ page is.
    subst (λ (q : Bor Query). IsPage (c.args.part ∷ []) q.now page) (c.in_ok-push.ensures.query ∙ c.new-pager.ensures.query)
    (is (c.args.part ∷ []) (c.in_ok-push.ensures.taken [] c.new-pager.ensures.taken) (λ e. one_in_order (c.args.part ∷ []) (omega arith))))
    c.end.ensures
